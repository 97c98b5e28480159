-- Lists of fields, and the tests by which a table of fields is seen to share no bit (document 01, "From
-- picture to fields").
-- Assumes nothing.
use Rattle.std.specs.Prelude.{Bool, true, false, not, ◌&&◌, ◌||◌, List, [], ◌∷◌, ◌++◌, map, ℕ, ◌+◌, ◌^◌, eqb, leb, ltb}
use Rattle.pieces.specs.Piece.{Piece, Field, get, put, width}

-- all pieces of a list of fields
unfoldable pub pieces : List Field → Field
pieces [] = []
pieces (f ∷ fs) = f ++ pieces fs

-- every number of a list put into its field, in order; every field's number
unfoldable pub put_all : List ℕ → List Field → List ℕ → List ℕ
put_all file [] vs = file
put_all file (f ∷ fs) [] = file
put_all file (f ∷ fs) (v ∷ vs) = put_all (put file f v) fs vs

unfoldable pub get_all : List ℕ → List Field → List ℕ
get_all file fs = map (get file) fs

-- ---- the tests, each computed over a whole table

-- the piece has a bit at least, and lies in a byte of a file of n bytes
abbrev pub lies : ℕ → Piece → Bool
lies n p = ltb p.place n && (ltb 0 p.width && leb (p.position + p.width) 8)

unfoldable pub lie_all : ℕ → Field → Bool
lie_all n [] = true
lie_all n (p ∷ ps) = lies n p && lie_all n ps

-- two pieces share no bit: other places, or one ends where the other begins or before
abbrev pub apart : Piece → Piece → Bool
apart p q =
    not (eqb p.place q.place)
    || (leb (p.position + p.width) q.position || leb (q.position + q.width) p.position)

unfoldable pub apart_all : Piece → Field → Bool
apart_all p [] = true
apart_all p (q ∷ qs) = apart p q && apart_all p qs

-- no two pieces share a bit
unfoldable pub distinct : Field → Bool
distinct [] = true
distinct (p ∷ ps) = apart_all p ps && distinct ps

-- as many numbers as fields, and each fits its field
unfoldable pub fit_all : List Field → List ℕ → Bool
fit_all [] [] = true
fit_all [] (v ∷ vs) = false
fit_all (f ∷ fs) [] = false
fit_all (f ∷ fs) (v ∷ vs) = ltb v (2 ^ width f) && fit_all fs vs
