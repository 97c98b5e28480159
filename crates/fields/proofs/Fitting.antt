-- Numbers and the widths of their fields.
-- Assumes nothing.
use mathlib.Core.List.{List, [], ◌∷◌}
use Prim.Native.Nat.{ℕ, zero, suc, ◌^◌, ◌<◌}
use native.Mathlib.Omega.{arith}
use lib.Arith.{digits_lt}
use lib.Dec.{T, ltb, ltb→lt, lt→ltb}
use lib.ListN.{get_or}
use lib.Pow.{pow-add}
use Rattle.bits.proofs.Tests.{and_iff}
use Rattle.pieces.specs.Piece.{Field, get, width}
use Rattle.fields.specs.Fields.{get_all, fit_all}
use Rattle.fields.proofs.Pieces.{get_piece_lt}

-- what a field holds fits it
pub get_lt : (file : List ℕ) (f : Field) → get file f < 2 ^ width f
unfolding get width
get_lt file [] = omega arith
get_lt file (p ∷ ps) = rw (pow-add 2 (width ps) p.width) (digits_lt (get_lt file ps) (get_piece_lt file p))

pub all_fit : (file : List ℕ) (fs : List Field) → T (fit_all fs (get_all file fs))
unfolding get_all fit_all
all_fit file [] = tt
all_fit file (f ∷ fs) =
    (and_iff (ltb (get file f) (2 ^ width f)) (fit_all fs (get_all file fs))).1
    (lt→ltb (get file f) (2 ^ width f) (get_lt file f), all_fit file fs)

-- the number at each place; past the end that is 0, in no bits
pub fit_at : (fs : List Field) (vs : List ℕ) → T (fit_all fs vs) → (k : ℕ)
    → get_or vs k 0 < 2 ^ width (get_or fs k [])
unfolding fit_all width
fit_at [] [] t k = omega arith
fit_at [] (v ∷ vs) t k = absurd t
fit_at (f ∷ fs) [] t k = absurd t
fit_at (f ∷ fs) (v ∷ vs) t zero = ltb→lt v (2 ^ width f) ((and_iff (ltb v (2 ^ width f)) (fit_all fs vs)).0 t
    ).0
fit_at (f ∷ fs) (v ∷ vs) t (suc k) = fit_at fs vs ((and_iff (ltb v (2 ^ width f)) (fit_all fs vs)).0 t).1 k
