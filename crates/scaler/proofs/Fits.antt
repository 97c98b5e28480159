-- Numbers that fit their fields, one and a list of them.
-- Assumes nothing.
use mathlib.Core.Bool.{Bool, true, false, true≢false, false≢true, ◌&&◌}
use mathlib.Core.List.{List, [], ◌∷◌, map}
use mathlib.Core.Logic.{◌↔◌}
use mathlib.Core.Path.{◌≡◌, refl, ap}
use Prim.Native.Nat.{ℕ, zero, suc, ◌^◌, ◌<◌, ◌≤◌}
use native.Mathlib.Omega.{arith}
use borrow.Author.Tests.{le-leb, lt-ltb, le-ltb}
use lib.Dec.{T, ltb}
use lib.IntN.{ℤ, pos, negsuc, nat_abs}
use lib.ListN.{get_or}
use lib.Signed.{le_z, lt_z}
use Rattle.bits.proofs.Tests.{and_iff, or_false_iff, refusals, is_true}
use Rattle.pieces.specs.Piece.{Field, width}
use Rattle.scaler.specs.Acceptable.{fits}
use Rattle.scaler.specs.Limits.{outside, weights_pass}
use Rattle.scaler.specs.Numbers.{yiwgto_of, yiwgte_of}

-- ---- one number

-- whether a number is not below 0, and is below b
abbrev pub below : ℕ → ℤ → Bool
below b z = le_z (pos 0) z && lt_z z (pos b)

pub below_pos : (b v : ℕ) → (below b (pos v) ≡ true) ↔ (v < b)
below_pos b v = (λ e. (simp refusals at e).1, λ l. rw (le-leb 0 v (omega arith), lt-ltb v b l))

pub is_below : (b : ℕ) {v : ℕ} {z : ℤ} → z ≡ pos v → v < b → below b z ≡ true
is_below b {v} e l = rw e ((below_pos b v).1 l)

pub not_over : (most v : ℕ) → below (suc most) (pos v) ≡ true → ltb most v ≡ false
not_over most v e = le-ltb most v (omega (arith, (below_pos (suc most) v).0 e))

-- a weight is outside where it does not fit twelve bits
pub inside : (v : ℕ) → v ≤ 4095 → outside (pos v) ≡ false
unfolding outside
inside v l = rw (le-ltb v 0 (omega arith), le-ltb 4095 v l)

inside_iff : (z : ℤ) → (outside z ≡ false) ↔ (below 4096 z ≡ true)
unfolding outside
inside_iff (pos v) = (
  λ e. (below_pos 4096 v).1 (let h = simp refusals at e in omega arith),
  λ e. inside v (omega (arith, (below_pos 4096 v).0 e)),
)
inside_iff (negsuc v) = (λ e. absurd (true≢false e), λ e. absurd (false≢true e))

pub weights_iff : (n d s : ℕ) → (weights_pass n d s ≡ false)
    ↔ ((below 4096 (pos (yiwgto_of n d)) ≡ true) × (below 4096 (yiwgte_of n d s) ≡ true))
unfolding weights_pass
weights_iff n d s = simp (or_false_iff, inside_iff) (λ h. h, λ h. h)

-- ---- a list

fits_next : (f : Field) (fs : List Field) (z : ℤ) (zs : List ℤ) → T (fits (f ∷ fs) (z ∷ zs))
    → (below (2 ^ width f) z ≡ true) × T (fits fs zs)
unfolding fits
fits_next f fs z zs t =
    let h = (and_iff (below (2 ^ width f) z) (fits fs zs)).0 t in
    (is_true (below (2 ^ width f) z) h.0, h.1)

-- the number at each place; past the end that is 0, in no bits
pub fits_at : (fs : List Field) (zs : List ℤ) → T (fits fs zs) → (k : ℕ)
    → below (2 ^ width (get_or fs k [])) (get_or zs k (pos 0)) ≡ true
unfolding fits width
fits_at [] [] t k = refl
fits_at [] (z ∷ zs) t k = absurd t
fits_at (f ∷ fs) [] t k = absurd t
fits_at (f ∷ fs) (z ∷ zs) t zero = (fits_next f fs z zs t).0
fits_at (f ∷ fs) (z ∷ zs) t (suc k) = fits_at fs zs (fits_next f fs z zs t).1 k

-- none is below 0
pub fits_natural : (fs : List Field) (zs : List ℤ) → T (fits fs zs) → map pos (map nat_abs zs) ≡ zs
unfolding fits
fits_natural [] [] t = refl
fits_natural [] (z ∷ zs) t = absurd t
fits_natural (f ∷ fs) [] t = absurd t
fits_natural (f ∷ fs) (pos v ∷ zs) t =
    ap (λ l. pos v ∷ l) (fits_natural fs zs (fits_next f fs (pos v) zs t).1)
fits_natural (f ∷ fs) (negsuc v ∷ zs) t = absurd t
