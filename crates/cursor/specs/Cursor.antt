-- Document 01, "Cursor map": 32 rows of eight bytes, two bits a dot (source document 004, Table 3).
-- Assumes nothing.
use Rattle.std.specs.Prelude.{◌≡◌, Bool, cond, ◌&&◌, List, ℕ, ◌+◌, ◌*◌, ◌/◌, ◌%◌, ◌<◌, T, eqb, leb, length, get_or, take, drop}
use Rattle.std.specs.Borrow.{Bor}
use Rattle.pieces.specs.Piece.{Piece, piece, holds, bits_at, get_piece}
use Rattle.fields.specs.Fields.{lies}

-- ---- rows

-- a part of a lent slice: so many bytes from a place on, where they lie in the caller's memory
pub record PartIs (lent : Bor (List ℕ)) (start count : ℕ) (part : Bor (List ℕ)) : Type 0 where
  -- in the same block of memory, `start` bytes behind the slice's own beginning
  pub block : part.ref_ptr.0 ≡ lent.ref_ptr.0
  pub offset : part.ref_ptr.1 ≡ lent.ref_ptr.1 + start
  pub bytes : part.now ≡ take count (drop start lent.now)

-- a row is answered where the map has its 256 bytes and the row is at most 31
abbrev pub has_row : List ℕ → ℕ → Bool
has_row map row = eqb (length map) 256 && leb row 31

-- its eight bytes begin at 8 x row; any other answer is the empty part at the front
unfoldable pub row_start : List ℕ → ℕ → ℕ
row_start map row = cond (has_row map row) (8 * row) 0

unfoldable pub row_count : List ℕ → ℕ → ℕ
row_count map row = cond (has_row map row) 8 0

abbrev pub row_bytes : List ℕ → ℕ → List ℕ
row_bytes map row = take (row_count map row) (drop (row_start map row) map)

-- ---- dots

-- the dot at a column and a row is byte 8r + floor(c/4), bits 2(c mod 4) and the next
abbrev pub dot : ℕ → ℕ → Piece
dot column row = piece (8 * row + column / 4) (2 * (column % 4)) 2

-- Where the dots of a map lie.
pub record DotsLie : Type 0 where
  -- in the map
  pub lie : (column row : ℕ) → column < 32 → row < 32 → T (lies 256 (dot column row))
  -- in the row: byte floor(c/4) of its eight has the dot
  pub in_row : (map : List ℕ) (column row : ℕ) → length map ≡ 256 → column < 32 → row < 32
      → get_piece map (dot column row) ≡ bits_at (get_or (row_bytes map row) (column / 4) 0) (2 * (column % 4)) 2
  -- no bit of the map is in two dots
  pub alone : (q j c₁ r₁ c₂ r₂ : ℕ) → c₁ < 32 → c₂ < 32
      → T (holds (dot c₁ r₁) q j) → T (holds (dot c₂ r₂) q j) → (c₁ ≡ c₂) × (r₁ ≡ r₂)
  -- and every bit is in one
  pub every : (q j : ℕ) → j < 8 → T (holds (dot (4 * (q % 8) + j / 2) (q / 8)) q j)
