-- The places that runs hold: ours hold every changed place, no barred one, and none behind the last changed
-- one.
-- Assumes nothing.
use mathlib.Core.Path.{◌≡◌, sym, ◌∙◌}
use mathlib.Core.Bool.{Bool, true, false, true≢false}
use mathlib.Core.List.{List, [], ◌∷◌}
use mathlib.Core.Logic.{◌⊎◌, inl, inr, ⊎_elim}
use Prim.Native.Nat.{ℕ, zero, suc, ◌+◌, ◌<◌, ◌≤◌}
use native.Mathlib.Nat.{eq-or-lt_of_le}
use native.Mathlib.Omega.{arith}
use Rattle.bursts.specs.Runs.{Run, run, bridged, joined, runs_from}
use Rattle.bursts.proofs.Bridges.{Free, either, joined_one, joined_over, joined_apart}
use Rattle.bursts.proofs.Bridges.{runs_skip, runs_step}
use Rattle.bursts.proofs.Good.{GoodRun, Good, good_runs}

-- a place is one of a run's, or of one of a list of runs
abbrev pub Holds : ℕ → Run → Type 0
Holds q r = (r.start ≤ q) × (q < r.end)

unfoldable pub Within : ℕ → List Run → Type 0
Within q [] = ⊥
Within q (r ∷ rs) = Holds q r ⊎ Within q rs

-- a run that has places, ends at the limit at the latest, and holds no barred place
pub record FairRun (barred : ℕ → Bool) (limit : ℕ) (r : Run) : Type 0 where
  pub some : r.start < r.end
  pub inside : r.end ≤ limit
  pub free : Free barred r.start r.end

unfoldable pub Fair : (ℕ → Bool) → ℕ → List Run → Type 0
Fair barred limit [] = Unit
Fair barred limit (r ∷ rs) = FairRun barred limit r × Fair barred limit rs

-- a place that fair runs hold is not barred
pub held_free : (barred : ℕ → Bool) (limit q : ℕ) (rs : List Run) → Fair barred limit rs → Within q rs
    → barred q ≡ false
unfolding Fair Within
held_free barred limit q [] g w = absurd w
held_free barred limit q (r ∷ rs) g (inl h) = g.0.free q h.0 h.1
held_free barred limit q (r ∷ rs) g (inr w) = held_free barred limit q rs g.1 w

module _ (changes barred : ℕ → Bool) where
  pub good_fair : (limit : ℕ) → ((p : ℕ) → changes p ≡ true → p < limit) → (p : ℕ) (rs : List Run)
      → Good changes barred p rs → Fair barred limit rs
  unfolding Good Fair
  good_fair limit below p [] g = tt
  good_fair limit below p (r ∷ rs) g =
      let l = below g.0.last g.0.last_changed in
      let e = g.0.ends in (
        record { some = g.0.some; inside = omega arith; free = g.0.free },
        good_fair limit below (suc r.end) rs g.1,
      )

  -- a place in front of good runs: they hold it and all the places that they held
  module _ (p q : ℕ) where
    over_within : (r : Run) (rs : List Run) → GoodRun changes barred (suc p) r → (q ≡ p) ⊎ Within q (r ∷ rs)
        → Within q (run p r.end ∷ rs)
    unfolding Within
    over_within r rs g (inl e) = let l = g.some in let k = g.behind in inl (omega arith, omega arith)
    over_within r rs g (inr (inl h)) = let k = g.behind in inl (omega arith, h.1)
    over_within r rs g (inr (inr w)) = inr w

    front_within : (rs : List Run) → (q ≡ p) ⊎ Within q rs → Within q (run p (suc p) ∷ rs)
    unfolding Within
    front_within rs (inl e) = inl (omega arith, omega arith)
    front_within rs (inr w) = inr w

    joined_within : (rs : List Run) → Good changes barred (suc p) rs → (q ≡ p) ⊎ Within q rs
        → Within q (joined barred (run p (suc p)) rs)
    unfolding Good
    joined_within [] g w = rw joined_one (front_within [] w)
    joined_within (r ∷ rs) g w =
        ⊎_elim (λ b. rw (joined_over barred (run p (suc p)) r rs b) (over_within r rs g.0 w))
        (λ b. rw (joined_apart barred (run p (suc p)) r rs b) (front_within (r ∷ rs) w))
        (either (bridged barred (suc p) r.start))

  module _ (changed_free : (p : ℕ) → changes p ≡ true → barred p ≡ false) (q : ℕ)
      (t : changes q ≡ true) where
    pub runs_hold : (n p : ℕ) → p ≤ q → q < p + n → Within q (runs_from changes barred p n)
    runs_hold zero p l k = absurd (omega arith)
    runs_hold (suc n) p l k =
        let behind : p < q → Within q (runs_from changes barred (suc p) n) =
        λ m. runs_hold n (suc p) m (omega arith) in
        ⊎_elim (λ u. rw (runs_step changes barred p n u)
        (joined_within p q _ (good_runs changes barred changed_free n (suc p))
        (⊎_elim (λ e. inl (sym e)) (λ m. inr (behind m)) (eq-or-lt_of_le l))))
        (λ f. rw (runs_skip changes barred p n f)
        (⊎_elim (λ e. absurd (true≢false (sym t ∙ (rw e at f)))) behind (eq-or-lt_of_le l)))
        (either (changes p))
