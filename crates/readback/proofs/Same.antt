-- The test whether two lists of numbers are the same.
-- Assumes nothing.
use mathlib.Core.Bool.{true, false≢true, ◌&&◌}
use mathlib.Core.List.{List, [], ◌∷◌, cons-ne-nil}
use mathlib.Core.Logic.{◌↔◌}
use mathlib.Core.Path.{◌≡◌, refl, ap}
use Prim.Native.Nat.{ℕ}
use lib.Dec.{eqb}
use lib.Pointwise.{pointwise}
use Rattle.bits.proofs.Tests.{refusals}
use Rattle.readback.specs.Reading.{same}

-- it is equality
pub same_iff : (vs ws : List ℕ) → (same vs ws ≡ true) ↔ (vs ≡ ws)
unfolding same
same_iff [] [] = (λ e. refl, λ e. refl)
same_iff [] (w ∷ ws) = (λ e. absurd (false≢true e), λ e. absurd (cons-ne-nil w ws (cc)))
same_iff (v ∷ vs) [] = (λ e. absurd (false≢true e), λ e. absurd (cons-ne-nil v vs e))
same_iff (v ∷ vs) (w ∷ ws) = simp (refusals, same_iff vs ws) (λ h. cc, λ e. (cc, cc))

-- and what `==` computes
pub same_is : (vs ws : List ℕ) → same vs ws ≡ pointwise eqb vs ws
unfolding same
same_is [] [] = refl
same_is [] (w ∷ ws) = refl
same_is (v ∷ vs) [] = refl
same_is (v ∷ vs) (w ∷ ws) = ap (λ x. eqb v w && x) (same_is vs ws)
