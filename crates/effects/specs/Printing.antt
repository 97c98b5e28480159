-- The line of a record in code.
-- Assumes nothing.
use Rattle.std.specs.Prelude.{List, ℕ}
use Rattle.lines.specs.Lines.{line}
use Rattle.records.specs.Kinds.{number_of}
use Rattle.records.specs.declared.record.Record.{Record}
use Rattle.effects.specs.Effects.{shown}

-- its kind, the reply, and what it shows of the file
abbrev pub record_line : Record → ℕ → List ℕ → List ℕ
record_line whole reply file =
    line (number_of whole.kind) reply (shown file (number_of whole.kind) whole.body.now)
