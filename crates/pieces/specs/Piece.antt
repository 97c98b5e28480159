-- A bit field of a register file: one or more pieces, each a run of bits of one place (document 01, "From
-- picture to fields", table of fields).
-- Assumes nothing.
use Rattle.std.specs.Prelude.{Bool, false, cond, ◌&&◌, ◌||◌, List, [], ◌∷◌, ℕ, ◌+◌, ◌-◌, ◌*◌, ◌/◌, ◌^◌, eqb, leb, ltb, get_or, set}
use Rattle.bits.specs.Bit.{bit, number}

-- `width` bits of a place, from bit `position` up
pub record Piece : Type 0 where
  pub place : ℕ
  pub position : ℕ
  pub width : ℕ

abbrev pub piece : ℕ → ℕ → ℕ → Piece
piece place position width = record { place = place; position = position; width = width }

-- a field is its pieces, the lowest bits first
abbrev pub Field : Type 0
Field = List Piece

-- whether bit j is one of `width` bits from bit `position` up
abbrev pub within : ℕ → ℕ → ℕ → Bool
within position width j = leb position j && ltb j (position + width)

-- whether a piece has bit j of place q
abbrev pub holds : Piece → ℕ → ℕ → Bool
holds p q j = eqb q p.place && within p.position p.width j

-- whether some piece of a field has it
unfoldable pub owns : Field → ℕ → ℕ → Bool
owns [] q j = false
owns (p ∷ ps) q j = holds p q j || owns ps q j

-- the number in such bits of a byte: its bit i is bit position + i of the byte
unfoldable pub bits_at : ℕ → ℕ → ℕ → ℕ
bits_at byte position width = number width (λ i. bit byte (position + i))

-- the byte with the low bits of v in them: bit j is bit j - position of v within them, and stays elsewhere
unfoldable pub with_bits : ℕ → ℕ → ℕ → ℕ → ℕ
with_bits byte position width v =
    number 8 (λ j. cond (within position width j) (bit v (j - position)) (bit byte j))

-- the number that a piece holds, and the file with the low bits of v in a piece
unfoldable pub get_piece : List ℕ → Piece → ℕ
get_piece file p = bits_at (get_or file p.place 0) p.position p.width

unfoldable pub put_piece : List ℕ → Piece → ℕ → List ℕ
put_piece file p v = set file p.place (with_bits (get_or file p.place 0) p.position p.width v)

-- the number that a field holds, and the file with a number in the field
unfoldable pub get : List ℕ → Field → ℕ
get file [] = 0
get file (p ∷ ps) = get file ps * 2 ^ p.width + get_piece file p

unfoldable pub put : List ℕ → Field → ℕ → List ℕ
put file [] v = file
put file (p ∷ ps) v = put (put_piece file p v) ps (v / 2 ^ p.width)

-- how many bits a field has
unfoldable pub width : Field → ℕ
width [] = 0
width (p ∷ ps) = width ps + p.width
