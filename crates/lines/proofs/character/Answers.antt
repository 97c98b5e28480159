-- `lines::character` meets its contract: the string holds the characters of the digits in turn.
-- Assumes nothing.
use mathlib.Core.Path.{ap, ◌∙◌}
use native.Mathlib.Nat.{zero-add}
use Rattle.lines.specs.Lines.{glyph}
use Rattle.lines.proofs.Digits.{glyph_at}
use Rattle.lines.proofs.character.Goals as goal

pub returns : goal.returns
unfolding glyph
returns c = let s = c in
    let d = s.args.digit in
    glyph_at 0 16 d s.requires ∙ ap glyph (zero-add d)
