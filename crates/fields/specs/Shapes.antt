-- The shapes that a field has in code, each with its pieces.
-- Assumes nothing.
use Rattle.std.specs.Prelude.{[], ◌∷◌}
use Rattle.pieces.specs.Piece.{Field, piece}
use Rattle.fields.specs.declared.field.Bits.{Bits}
use Rattle.fields.specs.declared.field.Split.{Split}
use Rattle.fields.specs.declared.field.Three.{Three}

-- bits of one place
abbrev pub bits_of : Bits → Field
bits_of b = piece b.0 b.1 b.2 ∷ []

-- a whole low byte, and the bits above it at another place
abbrev pub split_of : Split → Field
split_of s = piece s.0 0 8 ∷ piece s.1 s.2 s.3 ∷ []

-- three whole bytes, each at a place of its own
abbrev pub three_of : Three → Field
three_of t = piece t.0 0 8 ∷ piece t.1 0 8 ∷ piece t.2 0 8 ∷ []
