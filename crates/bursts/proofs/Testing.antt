-- The test for files that no list brings together says just that.
-- Assumes nothing.
use mathlib.Core.Path.{◌≡◌, sym, ◌∙◌, ap}
use mathlib.Core.Bool.{Bool, true, false, not, ◌&&◌, ◌||◌}
use mathlib.Core.List.{List}
use mathlib.Core.Logic.{◌↔◌, ◌⊎◌, inl, inr, ⊎_elim}
use Prim.Native.Nat.{ℕ, zero, suc, ◌+◌, ◌<◌, ◌≤◌}
use native.Mathlib.Nat.{eq-or-lt_of_le}
use native.Mathlib.Omega.{arith}
use borrow.Author.Tests.{eqb-false, eq-eqb, ne_eqb}
use lib.Dec.{T, eqb, T_not}
use lib.ListN.{length, get_or, get_or-eq_default}
use Rattle.bits.specs.Bit.{bit, has}
use Rattle.bits.proofs.Tests.{and_iff, or_cases, or_in, or_false_iff, is_true, is_false, from_true, le_or_lt}
use Rattle.bursts.specs.Stuck.{UnnamedDiffers, BarredDiffers, Stuck}
use Rattle.bursts.specs.Stuck.{bits_agree, fixed_at, some_from, stuck}

module _ (test : ℕ → Bool) where
  some_out : (p n : ℕ) → T (some_from test p n) → (q : ℕ) × T (test q)
  unfolding some_from
  some_out p zero t = absurd t
  some_out p (suc n) t = ⊎_elim (λ u. (p, u)) (some_out (suc p) n) (or_cases (test p) _ t)

  some_in : (q : ℕ) → T (test q) → (p n : ℕ) → p ≤ q → q < p + n → T (some_from test p n)
  unfolding some_from
  some_in q t p zero l k = absurd (omega arith)
  some_in q t p (suc n) l k =
      or_in (test p) _ (⊎_elim (λ e. inl (rw e t)) (λ m. inr (some_in q t (suc p) n m (omega arith)))
      (eq-or-lt_of_le l))

-- one of two tests fails
not_both : (a b : Bool) → T (not (a && b)) ↔ (T (not a) ⊎ T (not b))
not_both true b = (inr, λ o. ⊎_elim (λ t. absurd t) (λ t. t) o)
not_both false b = (inl, λ o. tt)

module _ (mask old new : ℕ) where
  -- a bit that the mask lacks differs
  abbrev Apart : ℕ → Type 0
  Apart j = (has mask j ≡ false) × (bit old j ≡ bit new j → ⊥)

  -- the test of a bit
  abbrev fine : ℕ → Bool
  fine j = has mask j || eqb (bit old j) (bit new j)

  bit_out : (j : ℕ) → T (not (fine j)) → Apart j
  bit_out j t =
      let n = is_false (fine j) (T_not (fine j) t) in
      let f = (or_false_iff (has mask j) (eqb (bit old j) (bit new j))).0 n in
      (f.0, eqb-false (bit old j) (bit new j) f.1)

  bit_in : (j : ℕ) → Apart j → T (not (fine j))
  bit_in j a = rw (a.0, ne_eqb (bit old j) (bit new j) a.1) tt

  agree_out : (n : ℕ) → T (not (bits_agree mask old new n)) → (j : ℕ) × (j < n) × Apart j
  unfolding bits_agree
  agree_out zero t = absurd t
  agree_out (suc n) t =
      ⊎_elim (λ u. (n, omega arith, bit_out n u))
      (λ u. let r = agree_out n u in
      let l = r.1 in
      (r.0, omega arith, r.2))
      ((not_both (fine n) (bits_agree mask old new n)).0 t)

  agree_in : (j n : ℕ) → j < n → Apart j → T (not (bits_agree mask old new n))
  unfolding bits_agree
  agree_in j zero l a = absurd (omega arith)
  agree_in j (suc n) l a =
      (not_both (fine n) (bits_agree mask old new n)).1
      (⊎_elim (λ e. inl (bit_in n (rw e at a))) (λ k. inr (agree_in j n k a)) (eq-or-lt_of_le (omega arith)))

module _ (masks : List ℕ) (barred : ℕ → Bool) (from to : List ℕ) where
  -- the two tests of a place
  abbrev bits : ℕ → Bool
  bits p = bits_agree (get_or masks p 0) (get_or from p 0) (get_or to p 0) 8

  abbrev same : ℕ → Bool
  same p = eqb (get_or from p 0) (get_or to p 0)

  fixed_out : (p : ℕ) → T (fixed_at masks barred from to p) → Stuck masks barred from to
  unfolding fixed_at
  fixed_out p t =
      ⊎_elim (λ u. let r = agree_out _ _ _ 8 u in
      inl (record { place = p; bit_at = r.0; low = r.1; unnamed = r.2.0; differs = r.2.1 }))
      (λ u. let b = (and_iff (barred p) (not (same p))).0 u in
      inr (record {
        place = p;
        is_barred = is_true (barred p) b.0;
        differs = λ e. T_not (same p) b.1 (from_true (same p) (eq-eqb _ _ e));
      }))
      (or_cases (not (bits p)) (barred p && not (same p)) t)

  unnamed_fixed : (u : UnnamedDiffers masks from to) → T (fixed_at masks barred from to u.place)
  unfolding fixed_at
  unnamed_fixed u =
      let p = u.place in
      or_in (not (bits p)) (barred p && not (same p))
      (inl (agree_in _ _ _ u.bit_at 8 u.low (u.unnamed, u.differs)))

  barred_fixed : (b : BarredDiffers barred from to) → T (fixed_at masks barred from to b.place)
  unfolding fixed_at
  barred_fixed b =
      let p = b.place in
      or_in (not (bits p)) (barred p && not (same p)) (inr (rw (b.is_barred, ne_eqb _ _ b.differs) tt))

  -- behind their ends the files do not differ
  module _ (long : length to ≡ length from) where
    differ_inside : (p : ℕ) → (get_or from p 0 ≡ get_or to p 0 → ⊥) → p < length from
    differ_inside p d =
        ⊎_elim (λ l. absurd (d (get_or-eq_default from 0 l
        ∙ sym (get_or-eq_default to 0 (omega arith)))))
        (λ l. l) (le_or_lt (length from) p)

    pub stuck_test : T (stuck masks barred from to) ↔ Stuck masks barred from to
    unfolding stuck
    stuck_test = (
      λ t. let r = some_out _ 0 (length from) t in fixed_out r.0 r.1,
      ⊎_elim (λ u. found u.place (unnamed_fixed u) (λ e. u.differs (ap (λ x. bit x u.bit_at) e)))
          (λ b. found b.place (barred_fixed b) b.differs),
    )
      where
        found : (p : ℕ) → T (fixed_at masks barred from to p) → (get_or from p 0 ≡ get_or to p 0 → ⊥)
            → T (some_from (fixed_at masks barred from to) 0 (length from))
        found p t d = let l = differ_inside p d in some_in _ p t 0 (length from) (omega arith) (omega arith)
