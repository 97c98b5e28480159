-- The lowest number that applies.
-- Assumes nothing.
use mathlib.Core.Path.{◌≡◌, refl}
use mathlib.Core.Bool.{Bool, true, false, ◌&&◌}
use mathlib.Core.List.{List, [], ◌∷◌}
use mathlib.Core.Logic.{inl, inr, ⊎_elim}
use Prim.Native.Nat.{ℕ, zero, suc, ◌<◌}
use native.Mathlib.Omega.{arith}
use lib.Dec.{T, eqb, ltb, ltb→lt, eqb→eq, eqb_refl}
use lib.ListN.{take, drop}
use Rattle.bits.proofs.Tests.{and_iff, or_cases, or_in}
use Rattle.reply.specs.Reply.{lowest, applies, rising, LowestMeans, LowestLaw}

-- every number that applies is above what the numbers rise from
above : (b : ℕ) (ns : List (ℕ × Bool)) → T (rising b ns) → (n : ℕ) → T (applies ns n) → b < n
unfolding rising applies
above b [] r n t = absurd t
above b (m ∷ ms) r n t =
    let h = (and_iff (ltb b m.0) (rising m.0 ms)).0 r in
    let l = ltb→lt b m.0 h.0 in
    ⊎_elim (λ u. let e = eqb→eq n m.0 ((and_iff (eqb n m.0) m.1).0 u).0 in omega arith)
    (λ u. let k = above m.0 ms h.1 n u in omega arith)
    (or_cases (eqb n m.0 && m.1) (applies ms n) t)

head : (b : ℕ) (m : ℕ) (t : Bool) (ms : List (ℕ × Bool)) → T (rising b ((m, t) ∷ ms)) → LowestMeans ms
    → LowestMeans ((m, t) ∷ ms)
unfolding lowest applies rising
head b m true ms r w =
    let h = (and_iff (ltb b m) (rising m ms)).0 r in
    let l = ltb→lt b m h.0 in
    record {
      given = λ n. or_in (eqb m m && true) (applies ms m) (inl ((and_iff (eqb m m) true).1 (eqb_refl m, tt)));
      least = λ n t. ⊎_elim (λ u. let e = eqb→eq n m ((and_iff (eqb n m) true).0 u).0 in omega arith)
          (λ u. let k = above m ms h.1 n u in omega arith) (or_cases (eqb n m && true) (applies ms n) t);
      none = λ e n t. omega arith;
    }
head b m false ms r w =
    record {
      given = λ n. or_in (eqb (lowest ms) m && false) (applies ms (lowest ms)) (inr (w.given n));
      least = λ n t. ⊎_elim (λ u. absurd ((and_iff (eqb n m) false).0 u).1) (w.least n)
          (or_cases (eqb n m && false) (applies ms n) t);
      none = λ e n t. ⊎_elim (λ u. absurd ((and_iff (eqb n m) false).0 u).1) (w.none e n)
          (or_cases (eqb n m && false) (applies ms n) t);
    }

pub lowest_means : LowestLaw
unfolding lowest applies rising
lowest_means b [] r = record { given = λ n. absurd (n refl); least = λ n t. absurd t; none = λ e n t. t }
lowest_means b (m ∷ ms) r =
    head b m.0 m.1 ms r (lowest_means m.0 ms ((and_iff (ltb b m.0) (rising m.0 ms)).0 r).1)

-- every number of a list is below n, and so is the one that is given
unfoldable pub all_below : ℕ → List (ℕ × Bool) → Bool
all_below n [] = true
all_below n (m ∷ ms) = ltb m.0 n && all_below n ms

pub lowest_below : (n : ℕ) (ns : List (ℕ × Bool)) → 0 < n → T (all_below n ns) → lowest ns < n
unfolding lowest all_below
lowest_below n [] l t = l
lowest_below n ((m, true) ∷ ms) l t = ltb→lt m n ((and_iff (ltb m n) (all_below n ms)).0 t).0
lowest_below n ((m, false) ∷ ms) l t = lowest_below n ms l ((and_iff (ltb m n) (all_below n ms)).0 t).1

-- the first tests decide where one of them applies, and else the others
pub lowest_front : (k : ℕ) (ns : List (ℕ × Bool)) → (lowest (take k ns) ≡ 0 → ⊥)
    → lowest ns ≡ lowest (take k ns)
unfolding lowest
lowest_front zero ns n = absurd (n refl)
lowest_front (suc k) [] n = refl
lowest_front (suc k) ((m, true) ∷ ms) n = refl
lowest_front (suc k) ((m, false) ∷ ms) n = lowest_front k ms n

pub lowest_back : (b k : ℕ) (ns : List (ℕ × Bool)) → T (rising b ns) → lowest (take k ns) ≡ 0
    → lowest ns ≡ lowest (drop k ns)
unfolding lowest rising
lowest_back b zero ns r e = refl
lowest_back b (suc k) [] r e = refl
lowest_back b (suc k) ((m, true) ∷ ms) r e =
    let l = ltb→lt b m ((and_iff (ltb b m) (rising m ms)).0 r).0 in
    absurd (omega arith)
lowest_back b (suc k) ((m, false) ∷ ms) r e = lowest_back m k ms ((and_iff (ltb b m) (rising m ms)).0 r).1 e
