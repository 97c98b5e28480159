-- Tests and the facts that they say. `simp tests at t` turns a test t into its facts.
-- Assumes nothing.
use mathlib.Core.Bool.{Bool, true, false, not, false≢true, true≢false, ◌&&◌, ◌||◌, and-eq-true_iff}
use mathlib.Core.Logic.{◌↔◌, ◌⊎◌, inl, inr, ⊎_elim}
use mathlib.Core.Path.{◌≡◌, refl}
use Prim.Native.Nat.{ℕ, ◌<◌, ◌≤◌}
use borrow.Author.Tests.{leb-false, not-false, ltb-false, le-ltb, leb-true, le-leb, eqb-true, eq-eqb}
use lib.Dec.{T, eqb, leb, ltb, leb→le, le→leb, ltb→lt, lt→ltb, eqb→eq, eqb_refl}

pub and_iff : (a b : Bool) → T (a && b) ↔ (T a × T b)
and_iff true b = (λ t. (tt, t), λ p. p.1)
and_iff false b = (λ t. absurd t, λ p. absurd p.0)

pub or_cases : (a b : Bool) → T (a || b) → T a ⊎ T b
or_cases true b t = inl tt
or_cases false b t = inr t

pub or_left : (a b : Bool) → (a || b) ≡ false → a ≡ false
or_left true b e = e
or_left false b e = refl

pub or_right : (a b : Bool) → (a || b) ≡ false → b ≡ false
or_right true b e = absurd (true≢false e)
or_right false b e = e

pub or_in : (a b : Bool) → T a ⊎ T b → T (a || b)
or_in true b o = tt
or_in false b o = ⊎_elim (λ t. absurd t) (λ t. t) o

-- a Bool is true or false
pub true_or_false : (b : Bool) → T b ⊎ (b ≡ false)
true_or_false true = inl tt
true_or_false false = inr refl

pub is_true : (b : Bool) → T b → b ≡ true
is_true true t = refl
is_true false t = absurd t

pub from_true : (b : Bool) → b ≡ true → T b
from_true true e = tt
from_true false e = absurd (false≢true e)

pub is_false : (b : Bool) → (T b → ⊥) → b ≡ false
is_false true n = absurd (n tt)
is_false false n = refl

-- one of two numbers is not above the other, or is
pub le_or_lt : (m n : ℕ) → (m ≤ n) ⊎ (n < m)
le_or_lt m n = ⊎_elim (λ t. inl (leb→le m n t)) (λ e. inr (leb-false m n e)) (true_or_false (leb m n))

pub leb_iff : (m n : ℕ) → T (leb m n) ↔ (m ≤ n)
leb_iff m n = (leb→le m n, le→leb m n)

pub ltb_iff : (m n : ℕ) → T (ltb m n) ↔ (m < n)
ltb_iff m n = (ltb→lt m n, lt→ltb m n)

pub eqb_iff : (m n : ℕ) → T (eqb m n) ↔ (m ≡ n)
eqb_iff m n = (eqb→eq m n, λ e. rw e (eqb_refl n))

pub ruleset tests = (and_iff, leb_iff, ltb_iff, eqb_iff)

-- ---- tests that failed. `simp refusals at e` turns `t ≡ false` into its facts.

pub or_false_iff : (a b : Bool) → ((a || b) ≡ false) ↔ ((a ≡ false) × (b ≡ false))
or_false_iff a b = (λ e. (or_left a b e, or_right a b e), λ p. rw (p.0, p.1))

pub not_false_iff : (a : Bool) → (not a ≡ false) ↔ (a ≡ true)
not_false_iff a = (not-false a, λ e. rw e)

pub ltb_false_iff : (m n : ℕ) → (ltb m n ≡ false) ↔ (n ≤ m)
ltb_false_iff m n = (ltb-false m n, le-ltb m n)

pub leb_true_iff : (m n : ℕ) → (leb m n ≡ true) ↔ (m ≤ n)
leb_true_iff m n = (leb-true m n, le-leb m n)

pub eqb_true_iff : (m n : ℕ) → (eqb m n ≡ true) ↔ (m ≡ n)
eqb_true_iff m n = (eqb-true m n, eq-eqb m n)

pub ruleset refusals = (
  or_false_iff,
  and-eq-true_iff,
  not_false_iff,
  ltb_false_iff,
  leb_true_iff,
  eqb_true_iff,
)
