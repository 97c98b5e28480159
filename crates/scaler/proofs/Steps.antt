-- The weights, from one division of N by D.
-- Assumes nothing.
use mathlib.Core.Bool.{Bool, true, false, true≢false, cond, ◌||◌}
use mathlib.Core.Logic.{⊎_elim}
use mathlib.Core.Path.{◌≡◌, refl, sym, ◌∙◌}
use Prim.Native.Nat.{ℕ, suc, ◌+◌, ◌-◌, ◌*◌, ◌/◌, ◌%◌, ◌^◌, ◌<◌, ◌≤◌, zero-le}
use native.Mathlib.Nat.{mul-le-mul}
use native.Mathlib.Omega.{arith}
use borrow.Author.Tests.{le-leb, lt-leb, le-ltb}
use lib.Dec.{ltb}
use lib.IntN.{pos, negsuc, ◌-ℤ◌}
use Rattle.bits.proofs.Tests.{le_or_lt, refusals}
use Rattle.scaler.specs.Limits.{outside, weights_pass}
use Rattle.scaler.specs.Numbers.{floor, reached, num_of, den_of, yiwgto_of, yiwgte_of}
use Rattle.scaler.proofs.Integers.{sub_pos, sub_neg}
use Rattle.scaler.proofs.Rounds.{half, thrice, reached_yes, reached_no, taken_away}

-- what YSKIP x D is taken from
abbrev pub numerator : ℕ → ℕ → ℕ → ℕ
numerator n d s = cond (reached n d s) n (3 * n)

or_true : (b : Bool) → (b || true) ≡ true
or_true true = refl
or_true false = refl

-- one floor for both cases of YIWGTE
pub one_floor : (b : Bool) (n x m : ℕ) → cond b (floor (pos n -ℤ pos x) m) (floor (pos (3 * n) -ℤ pos x) m)
    ≡ floor (pos (cond b n (3 * n)) -ℤ pos x) m
one_floor true n x m = refl
one_floor false n x m = refl

module _ (n d s : ℕ) (h : 0 < d) where
  -- the weight is not below 0, or it is
  pub weight_is : s ≤ numerator n d s / d → yiwgte_of n d s ≡ pos ((numerator n d s / d - s) / 2)
  unfolding yiwgte_of
  weight_is e =
      let a = numerator n d s in
      let l = reached_yes a d h s e in
      rw (
        one_floor (reached n d s) n (s * d) (2 * d),
        sub_pos a (s * d) l,
        half (a - s * d) d h,
        taken_away a d h s l,
      )

  pub weight_below : numerator n d s / d < s
      → yiwgte_of n d s ≡ negsuc ((s * d - suc (numerator n d s)) / (2 * d))
  unfolding yiwgte_of
  weight_below e =
      let a = numerator n d s in
      rw (one_floor (reached n d s) n (s * d) (2 * d), sub_neg a (s * d) (reached_no a d h s e))

  -- in both cases of the test
  pub top_early : s ≤ n / d → numerator n d s / d ≡ n / d
  top_early e = rw (le-leb (s * d) n (reached_yes n d h s e))

  pub top_late : n / d < s → numerator n d s / d ≡ 3 * (n / d) + 3 * (n % d) / d
  top_late e = rw (lt-leb (s * d) n (reached_no n d h s e)) (thrice n d h)

  -- ---- the tests of the weights

  pub weights_below : numerator n d s / d < s → weights_pass n d s ≡ true
  unfolding weights_pass outside
  weights_below e = rw (weight_below e) (or_true (outside (pos (yiwgto_of n d))))

  pub weights_above : s ≤ numerator n d s / d
      → weights_pass n d s ≡ (ltb 4095 (yiwgto_of n d) || ltb 4095 ((numerator n d s / d - s) / 2))
  unfolding weights_pass outside
  weights_above e =
      rw (weight_is e, le-ltb (yiwgto_of n d) 0 zero-le, le-ltb ((numerator n d s / d - s) / 2) 0 zero-le)

  -- weights that pass no limit
  pub record Weights : Type 0 where
    pub reaches : s ≤ numerator n d s / d
    pub odd_le : yiwgto_of n d ≤ 4095
    pub even_le : (numerator n d s / d - s) / 2 ≤ 4095

  pub weights_kept : weights_pass n d s ≡ false → Weights
  weights_kept e =
      let l = ⊎_elim (λ k. k) (λ k. absurd (true≢false (sym (weights_below k) ∙ e)))
      (le_or_lt s (numerator n d s / d)) in
      let h = simp refusals at (sym (weights_above l) ∙ e) in
      record { reaches = l; odd_le = h.0; even_le = h.1 }

-- what YOFSE has more than YOFSO
pub yofse_late : (b : Bool) (yofso : ℕ) → yofso + cond b 0 1 ≡ cond b yofso (yofso + 1)
yofse_late true yofso = omega arith
yofse_late false yofso = refl

-- ---- how large N and D can be

pub num_lt : (outlin yskip : ℕ) → outlin < 2 ^ 16 → yskip < 2 ^ 16 → num_of outlin yskip < 2 ^ 48
unfolding num_of
num_lt outlin yskip l k =
    omega (
      arith,
      mul-le-mul {n₁ = outlin} {m₁ = 4095 + yskip} {n₂ = 65535} {m₂ = 69630} (omega arith)
          (omega arith),
    )

pub den_lt : (inlin : ℕ) → inlin < 2 ^ 16 → den_of inlin < 2 ^ 32
unfolding den_of
den_lt inlin l = omega arith

pub den_pos : (inlin : ℕ) → 0 < den_of inlin
unfolding den_of
den_pos inlin = omega arith
