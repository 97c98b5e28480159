-- The weights where no lower number refuses: neither is below 0 or over 4,095.
-- Assumes nothing.
use mathlib.Core.Bool.{false}
use mathlib.Core.Logic.{⊎_elim}
use mathlib.Core.Path.{◌≡◌}
use Prim.Native.Nat.{ℕ, ◌+◌, ◌-◌, ◌*◌, ◌/◌, ◌%◌, ◌<◌, ◌≤◌}
use native.Mathlib.Nat.{div-lt_iff_lt-mul}
use native.Mathlib.Nat.{mul-le-mul_left, mul-le-mul_right, mod-lt, div-mul-le_self, le-div_iff_mul-le}
use native.Mathlib.Omega.{arith}
use lib.IntN.{pos}
use Rattle.bits.proofs.Tests.{le_or_lt}
use Rattle.scaler.specs.Limits.{outside, weights_pass}
use Rattle.scaler.specs.Numbers.{num_of, den_of, yiwgto_of, yiwgte_of}
use Rattle.scaler.specs.Rounding.{nearest}
use Rattle.scaler.proofs.Fits.{inside}
use Rattle.scaler.proofs.Rounds.{half, thrice}
use Rattle.scaler.proofs.Steps.{weight_is, top_early, top_late}

-- by the division of N by D, where three times N reaches YSKIP x D
module _ (n d s : ℕ) (h : 0 < d) (step : nearest n d ≤ 4095) (reach : s ≤ 3 * n / d) where
  quotient_le : n / d ≤ 4095
  unfolding nearest
  quotient_le =
      let l = (le-div_iff_mul-le {k = 2 * d} {x = n / d} {y = 2 * n + d} (omega arith)).1
      (omega (arith, div-mul-le_self n d)) in
      omega arith

  first_inside : outside (pos (yiwgto_of n d)) ≡ false
  unfolding yiwgto_of
  first_inside = rw (half n d h) (inside (2048 + n / d / 2) (omega (arith, quotient_le)))

  early : s ≤ n / d → outside (yiwgte_of n d s) ≡ false
  early l =
      let e = top_early n d s h l in
      rw (weight_is n d s h (rw e l), e) (inside ((n / d - s) / 2) (omega (arith, quotient_le)))

  late : n / d < s → outside (yiwgte_of n d s) ≡ false
  late l =
      let e = top_late n d s h l in
      let m = mod-lt n h in
      let r = (div-lt_iff_lt-mul {k = d} {x = 3 * (n % d)} {y = 3} h).1 (omega arith) in
      rw (weight_is n d s h (rw (e, ← thrice n d h) reach), e)
      (inside ((3 * (n / d) + 3 * (n % d) / d - s) / 2) (omega (arith, quotient_le)))

  both_inside : weights_pass n d s ≡ false
  unfolding weights_pass
  both_inside = rw (first_inside, ⊎_elim early late (le_or_lt s (n / d)))

-- with N and D of a request it does
pub never_weights : (o i s : ℕ) → i + 2 ≤ 4 * o → s ≤ 4095 → nearest (num_of o s) (den_of i) ≤ 4095
    → weights_pass (num_of o s) (den_of i) s ≡ false
unfolding num_of den_of
never_weights o i s quarter skip step =
    let a = mul-le-mul_left s quarter in
    let b = mul-le-mul_right o skip in
    let h : 0 < den_of i = omega arith in
    both_inside (num_of o s) (den_of i) s h step ((le-div_iff_mul-le h).1 (omega arith))
