-- Places in which two files agree.
-- Assumes nothing.
use mathlib.Core.Path.{◌≡◌}
use mathlib.Core.Bool.{true, false, and-eq-true_iff}
use mathlib.Core.List.{List}
use mathlib.Core.Logic.{⊎_elim}
use Prim.Native.Nat.{ℕ, zero, suc, ◌+◌, ◌-◌, ◌<◌, ◌≤◌}
use native.Mathlib.Nat.{add-zero, le_trans}
use native.Mathlib.Omega.{arith}
use borrow.Author.Tests.{eq-eqb, ne_eqb}
use lib.ListN.{get_or}
use Rattle.bits.proofs.Tests.{refusals, le_or_lt}
use Rattle.bursts.specs.Runs.{changed}
use Rattle.changes.specs.Places.{same_four, same_eight, Unchanged, NextChange}

module _ (from to : List ℕ) where
  pub unchanged_at : (p : ℕ) → get_or from p 0 ≡ get_or to p 0 → changed from to p ≡ false
  unfolding changed
  unchanged_at p e = rw (eq-eqb _ _ e)

  changed_at_lem : (p : ℕ) → (get_or from p 0 ≡ get_or to p 0 → ⊥) → changed from to p ≡ true
  unfolding changed
  changed_at_lem p n = rw (ne_eqb _ _ n)

  -- each of four places from p on, and of eight
  pub four_at : (p : ℕ) → same_four from to p ≡ true → (d : ℕ) → d < 4
      → get_or from (p + d) 0 ≡ get_or to (p + d) 0
  four_at p t zero l = let k = simp refusals at t in rw add-zero k.0
  four_at p t (suc zero) l = let k = simp refusals at t in k.1.0
  four_at p t (suc (suc zero)) l = let k = simp refusals at t in k.1.1.0
  four_at p t (suc (suc (suc zero))) l = let k = simp refusals at t in k.1.1.1
  four_at p t (suc (suc (suc (suc d)))) l = absurd (omega arith)

  eight_at : (p : ℕ) → same_eight from to p ≡ true → (d : ℕ) → d < 8 → get_or from (p + d) 0 ≡ get_or to (p + d) 0
  eight_at p t d l =
      let k = (and-eq-true_iff (same_four from to p) (same_four from to (p + 4))).0 t in
      ⊎_elim (λ m. let e : p + 4 + (d - 4) ≡ p + d = omega arith in
      rw e at (four_at (p + 4) k.1 (d - 4) (omega arith)))
      (four_at p k.0 d) (le_or_lt 4 d)

  eight_same : (p q : ℕ) → same_eight from to p ≡ true → p ≤ q → q < p + 8 → changed from to q ≡ false
  eight_same p q t l m =
      let e : p + (q - p) ≡ q = omega arith in
      unchanged_at q (rw e at (eight_at p t (q - p) (omega arith)))

  -- places passed one after the other
  pass_more : (p q r : ℕ) → Unchanged from to p q → q ≤ r → r ≤ 256
      → ((i : ℕ) → q ≤ i → i < r → changed from to i ≡ false) → Unchanged from to p r
  pass_more p q r u l m same =
      record {
        above = le_trans u.above l;
        inside = m;
        same = λ i k n. ⊎_elim (λ h. same i h n) (λ h. u.same i k h) (le_or_lt q i);
      }

  pub pass_none : (p : ℕ) → p ≤ 256 → Unchanged from to p p
  pass_none p m = record { above = omega arith; inside = m; same = λ i k n. absurd (omega arith) }

  pub pass_one : (p q : ℕ) → Unchanged from to p q → q < 256 → get_or from q 0 ≡ get_or to q 0
      → Unchanged from to p (q + 1)
  pass_one p q u l e =
      pass_more p q (q + 1) u (omega arith) (omega arith)
      (λ i k n. let s : i ≡ q = omega arith in rw s (unchanged_at q e))

  pub pass_eight : (p q : ℕ) → Unchanged from to p q → q + 8 ≤ 256 → same_eight from to q ≡ true
      → Unchanged from to p (q + 8)
  pass_eight p q u l t = pass_more p q (q + 8) u (omega arith) l (λ i k n. eight_same q i t k n)

  -- a place behind them that differs is the next change
  pub stop_at : (p q : ℕ) → Unchanged from to p q → (get_or from q 0 ≡ get_or to q 0 → ⊥) → NextChange from to p q
  stop_at p q u n = record { passed = u; differs = λ l. changed_at_lem q n }
