-- The laws of fields, once over every position and width (document 01, "What the statements have to catch").
-- Assumes nothing.
use Rattle.std.specs.Prelude.{◌≡◌, false, List, ℕ, ◌<◌, ◌^◌, T, length, get_or}
use Rattle.bits.specs.Bit.{bit}
use Rattle.pieces.specs.Piece.{Piece, Field, piece, holds, owns, get, put, width}
use Rattle.fields.specs.Fields.{pieces, get_all, put_all, lie_all, distinct, fit_all}

-- a piece without a bit, for what lies past the end of a list
abbrev pub nowhere : Piece
nowhere = piece 0 0 0

-- no bit of any place is in two pieces: two pieces that have it stand at one place of the list
abbrev pub NoneShared : Field → Type 0
NoneShared ps =
    (q j i k : ℕ) → i < length ps → k < length ps
    → T (holds (get_or ps i nowhere) q j) → T (holds (get_or ps k nowhere) q j) → i ≡ k

-- the list holds bytes
abbrev pub Bytes : List ℕ → Type 0
Bytes file = (q : ℕ) → get_or file q 0 < 256

-- two fields have no bit in common
abbrev pub Disjoint : Field → Field → Type 0
Disjoint f g = (q j : ℕ) → T (owns f q j) → T (owns g q j) → ⊥

-- A number put into a field; `after` is the file that it leaves.
pub record PutMeans (file : List ℕ) (f : Field) (v : ℕ) (after : List ℕ) : Type 0 where
  pub long : length after ≡ length file
  pub bytes : Bytes file → Bytes after
  -- the field gives the number, if the number fits it
  pub reads : v < 2 ^ width f → get after f ≡ v
  -- a bit outside the field stays
  pub outside : (q j : ℕ) → j < 8 → owns f q j ≡ false
      → bit (get_or after q 0) j ≡ bit (get_or file q 0) j
  -- a field that has no bit of this one still gives its number
  pub others : (g : Field) → T (lie_all (length file) g) → Disjoint f g → get after g ≡ get file g

-- A list of numbers put into a list of fields.
pub record AllMeans (file : List ℕ) (fs : List Field) (vs after : List ℕ) : Type 0 where
  pub long : length after ≡ length file
  pub bytes : Bytes file → Bytes after
  pub reads : get_all after fs ≡ vs
  pub outside : (q j : ℕ) → j < 8 → owns (pieces fs) q j ≡ false
      → bit (get_or after q 0) j ≡ bit (get_or file q 0) j

-- All of it, for every file and every field whose pieces lie in the file.
pub record FieldLaws : Type 0 where
  -- a field whose pieces share no bit
  pub one : (file : List ℕ) (f : Field) (v : ℕ) → T (lie_all (length file) f) → T (distinct f)
      → PutMeans file f v (put file f v)
  -- fields whose pieces share no bit, with a number for each that fits it
  pub all : (file : List ℕ) (fs : List Field) (vs : List ℕ) → T (lie_all (length file) (pieces fs))
      → T (distinct (pieces fs)) → T (fit_all fs vs) → AllMeans file fs vs (put_all file fs vs)
  -- a number that the field already holds, put back, changes nothing, and so for a list
  pub same : (file : List ℕ) (f : Field) → Bytes file → T (lie_all (length file) f)
      → put file f (get file f) ≡ file
  pub same_all : (file : List ℕ) (fs : List Field) → Bytes file → T (lie_all (length file) (pieces fs))
      → put_all file fs (get_all file fs) ≡ file
  -- the test for shared bits means what it says
  pub shared : (f : Field) → T (distinct f) → NoneShared f
