-- Places that can't be written: the test of the code at a changed place, and unchanged places.
-- Assumes nothing.
use mathlib.Core.Path.{◌≡◌, refl, sym, ap, ◌∙◌}
use mathlib.Core.Bool.{Bool, true, false, cond, not, ◌||◌, or-false, and-true, and-false}
use mathlib.Core.List.{List}
use mathlib.Core.Logic.{⊎_elim}
use Prim.Native.Nat.{ℕ, zero, suc, ◌<◌}
use native.Mathlib.Nat.{eq-or-lt_of_le, not-suc-le-zero}
use native.Mathlib.Omega.{arith}
use borrow.Author.Tests.{eq-eqb, eqb-true, not-false}
use lib.Dec.{T, eqb, eqb→eq, eqb_refl}
use lib.ListN.{get_or}
use Rattle.bits.specs.Bit.{bit, has}
use Rattle.bits.specs.Merge.{merge}
use Rattle.bits.proofs.Digits.{bit_ext}
use Rattle.bits.proofs.Merging.{merge_lt, merge_bit, merge_same}
use Rattle.bits.proofs.Tests.{and_iff, is_true, from_true}
use Rattle.bursts.specs.Runs.{changed}
use Rattle.bursts.specs.Stuck.{bits_agree, fixed_at}

-- two tests that pass together are the same
pub same_test : (a b : Bool) → (T a → T b) → (T b → T a) → a ≡ b
same_test true true f g = refl
same_test true false f g = absurd (f tt)
same_test false true f g = absurd (g tt)
same_test false false f g = refl

module _ (mask old new : ℕ) where
  agree_at : (n : ℕ) → T (bits_agree mask old new n) → (j : ℕ) → j < n
      → T (has mask j || eqb (bit old j) (bit new j))
  unfolding bits_agree
  agree_at zero t j l = absurd (not-suc-le-zero l)
  agree_at (suc n) t j l =
      let k = (and_iff (has mask n || eqb (bit old n) (bit new n)) (bits_agree mask old new n)).0 t in
      ⊎_elim (λ e. rw e k.0) (λ m. agree_at n k.1 j m) (eq-or-lt_of_le (omega arith))

  agree_all : (n : ℕ) → ((j : ℕ) → j < n → T (has mask j || eqb (bit old j) (bit new j)))
      → T (bits_agree mask old new n)
  unfolding bits_agree
  agree_all zero h = tt
  agree_all (suc n) h =
      (and_iff (has mask n || eqb (bit old n) (bit new n)) (bits_agree mask old new n)).1
      (h n (omega arith), agree_all n (λ j l. h j (omega arith)))

  -- a bit of the merge, where the bit is named or the same in both
  taken : (b : Bool) (x y : ℕ) → T (b || eqb x y) → cond b y x ≡ y
  taken true x y t = refl
  taken false x y t = eqb→eq x y t

  given : (b : Bool) (x y : ℕ) → cond b y x ≡ y → T (b || eqb x y)
  given true x y e = tt
  given false x y e = rw e (eqb_refl y)

  -- a write brings a byte to the wanted one exactly when they agree in every unnamed bit
  pub agree_merge : new < 256 → bits_agree mask old new 8 ≡ eqb (merge mask old new) new
  agree_merge l =
      same_test _ _
      (λ t. from_true _ (eq-eqb _ _ (bit_ext 8 _ _ (merge_lt mask old new) l
      (λ j k. merge_bit mask old new j k ∙ taken (has mask j) (bit old j) (bit new j) (agree_at 8 t j k)))))
      (λ t. agree_all 8 (λ j k. given (has mask j) (bit old j) (bit new j)
      (sym (merge_bit mask old new j k) ∙ ap (λ (x : ℕ). bit x j) (eqb→eq (merge mask old new) new t))))

module _ (masks : List ℕ) (barred : ℕ → Bool) (from to : List ℕ) (p : ℕ) where
  -- a changed place
  pub fixed_change : get_or to p 0 < 256 → changed from to p ≡ true
      → fixed_at masks barred from to p
      ≡ (not (eqb (merge (get_or masks p 0) (get_or from p 0) (get_or to p 0)) (get_or to p 0)) || barred p)
  unfolding fixed_at changed
  fixed_change l e =
      rw (agree_merge (get_or masks p 0) (get_or from p 0) (get_or to p 0) l, e, and-true (barred p))

  -- a place that is not barred, and an unchanged one
  pub fixed_free : get_or to p 0 < 256 → barred p ≡ false
      → fixed_at masks barred from to p
      ≡ not (eqb (merge (get_or masks p 0) (get_or from p 0) (get_or to p 0)) (get_or to p 0))
  unfolding fixed_at
  fixed_free l n = rw (agree_merge (get_or masks p 0) (get_or from p 0) (get_or to p 0) l, n) (or-false _)

  pub fixed_unchanged : get_or to p 0 < 256 → changed from to p ≡ false
      → fixed_at masks barred from to p
      ≡ not (eqb (merge (get_or masks p 0) (get_or from p 0) (get_or to p 0)) (get_or to p 0))
  unfolding fixed_at changed
  fixed_unchanged l e =
      rw (agree_merge (get_or masks p 0) (get_or from p 0) (get_or to p 0) l, e, and-false (barred p)) (or-false _)

  -- an unchanged place
  pub fixed_same : get_or to p 0 < 256 → changed from to p ≡ false → fixed_at masks barred from to p ≡ false
  unfolding fixed_at changed
  fixed_same l e =
      let t = get_or to p 0 in
      let m = get_or masks p 0 in
      let s : get_or from p 0 ≡ t = eqb-true (get_or from p 0) t (not-false (eqb (get_or from p 0) t) e) in
      rw (agree_merge m (get_or from p 0) t l, e, s, merge_same m t l, is_true (eqb t t) (eqb_refl t))
      (and-false (barred p))
