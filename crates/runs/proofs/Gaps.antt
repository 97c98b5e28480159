-- Gaps between runs: which are bridged.
-- Assumes nothing.
use mathlib.Core.Path.{◌≡◌, refl}
use mathlib.Core.Bool.{Bool, true, false, not, ◌&&◌, ◌||◌}
use Prim.Native.Nat.{ℕ, zero, suc, ◌+◌, ◌-◌, ◌<◌, ◌≤◌}
use native.Mathlib.Omega.{arith}
use borrow.Author.Tests.{le-leb, lt-leb}
use Rattle.bursts.specs.Runs.{clear, bridge, bridged}

one_place : (b : Bool) → (not b && true) ≡ not (b || b)
one_place true = refl
one_place false = refl

two_places : (b d : Bool) → (not b && (not d && true)) ≡ not (b || d)
two_places true d = refl
two_places false true = refl
two_places false false = refl

module _ (barred : ℕ → Bool) where
  pub wide_gap : (e p : ℕ) → e + bridge < p → bridged barred e p ≡ false
  unfolding bridged
  wide_gap e p l = rw (lt-leb p (e + bridge) l)

  by_width : (e p n : ℕ) → e < p → p ≤ e + 2 → p - e ≡ n
      → clear barred e n ≡ not (barred e || barred (p - 1))
  unfolding clear
  by_width e p zero l m s = absurd (omega arith)
  by_width e p (suc zero) l m s = let z : p - 1 ≡ e = omega arith in rw z (one_place (barred e))
  by_width e p (suc (suc zero)) l m s =
      let z : p - 1 ≡ suc e = omega arith in rw z (two_places (barred e) (barred (suc e)))
  by_width e p (suc (suc (suc n))) l m s = absurd (omega arith)

  -- one place or two: the first and the last of them decide
  pub narrow_gap : (e p : ℕ) → e < p → p ≤ e + bridge → bridged barred e p ≡ not (barred e || barred (p - 1))
  unfolding bridged
  narrow_gap e p l m = rw (le-leb p (e + bridge) m) (by_width e p (p - e) (omega arith) (omega arith) refl)
