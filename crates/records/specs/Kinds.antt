-- Document 01, "Sessions": the byte of each kind of record in code.
-- Assumes nothing.
use Rattle.std.specs.Prelude.{◌≡◌, ℕ, Result, MatchResult}
use Rattle.records.specs.Records.{body_length}
use Rattle.records.specs.declared.kind.Kind.{Kind}
use Rattle.records.specs.declared.kind.Kind.TheVariants.{Picture, Register, Colour, Cursor, Show}
use Rattle.records.specs.declared.kind.UnknownKind.{UnknownKind}

abbrev pub number_of : Kind → ℕ
number_of Picture = 0x01
number_of Register = 0x02
number_of Colour = 0x03
number_of Cursor = 0x04
number_of Show = 0x05

-- a byte gives the kind that it stands for, or is refused, where it stands for none
abbrev pub Decodes : ℕ → Result Kind UnknownKind → Type 0
Decodes byte r =
    MatchResult r (λ kind. number_of kind ≡ byte) (λ e. (e.0 ≡ byte) × (body_length byte ≡ 0))
