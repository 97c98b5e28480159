-- Our runs are good: they ascend with a place or more between them, no place of them is barred, and each
-- ends behind a changed place.
-- Assumes nothing.
use mathlib.Core.Path.{◌≡◌, refl, sym, ◌∙◌}
use mathlib.Core.Bool.{Bool, true, false, true≢false}
use mathlib.Core.List.{List, [], ◌∷◌}
use mathlib.Core.Logic.{⊎_elim}
use Prim.Native.Nat.{ℕ, zero, suc, ◌<◌, ◌≤◌}
use native.Mathlib.Nat.{eq-or-lt_of_le}
use native.Mathlib.Omega.{arith}
use Rattle.bursts.specs.Runs.{Run, run, bridged, joined, runs_from}
use Rattle.bursts.proofs.Bridges.{
  Free,
  free_none,
  free_more,
  free_join,
  either,
  bridged_free,
  bridged_here,
  joined_one,
  joined_over,
  joined_apart,
  runs_skip,
  runs_step,
}

-- a run of one place or more, that begins at p or behind it
pub record GoodRun (changes barred : ℕ → Bool) (p : ℕ) (r : Run) : Type 0 where
  pub behind : p ≤ r.start
  pub some : r.start < r.end
  pub free : Free barred r.start r.end
  pub last : ℕ
  pub ends : r.end ≡ suc last
  pub last_changed : changes last ≡ true

unfoldable pub Good : (ℕ → Bool) → (ℕ → Bool) → ℕ → List Run → Type 0
Good changes barred p [] = Unit
Good changes barred p (r ∷ rs) = GoodRun changes barred p r × Good changes barred (suc r.end) rs

module _ (changes barred : ℕ → Bool) where
  good_run_from : (p p' : ℕ) (r : Run) → p' ≤ r.start → GoodRun changes barred p r
      → GoodRun changes barred p' r
  good_run_from p p' r l g =
      record {
        behind = l;
        some = g.some;
        free = g.free;
        last = g.last;
        ends = g.ends;
        last_changed = g.last_changed;
      }

  good_down : (p : ℕ) (rs : List Run) → Good changes barred (suc p) rs → Good changes barred p rs
  unfolding Good
  good_down p [] g = tt
  good_down p (r ∷ rs) g =
      let l = g.0.behind in
      (good_run_from (suc p) p r (omega arith) g.0, g.1)

  module _ (p : ℕ) (t : changes p ≡ true) (f : barred p ≡ false) where
    good_place : GoodRun changes barred p (run p (suc p))
    good_place =
        record {
          behind = omega arith;
          some = omega arith;
          free = free_more barred p (suc p) f (free_none barred (suc p));
          last = p;
          ends = refl;
          last_changed = t;
        }

    module _ (r : Run) (g : GoodRun changes barred (suc p) r) where
      over : bridged barred (suc p) r.start ≡ true → GoodRun changes barred p (run p r.end)
      over b =
          let gap = bridged_free barred (suc p) r.start b in
          let behind = free_join barred (suc p) r.start r.end gap g.free in
          record {
            behind = omega arith;
            some = omega arith;
            free = free_more barred p r.end f behind;
            last = g.last;
            ends = g.ends;
            last_changed = g.last_changed;
          }

      -- a run that does not go on at r leaves a place before it: it would go on at the place right behind
      apart : bridged barred (suc p) r.start ≡ false → GoodRun changes barred (suc (suc p)) r
      apart b =
          ⊎_elim (λ e. absurd (true≢false (sym (bridged_here barred (suc p)) ∙ (rw (← e) at b))))
          (λ l. good_run_from (suc p) (suc (suc p)) r l g)
          (eq-or-lt_of_le g.behind)

    -- a changed place in front of good runs
    good_joined : (rs : List Run) → Good changes barred (suc p) rs
        → Good changes barred p (joined barred (run p (suc p)) rs)
    unfolding Good
    good_joined [] g = rw joined_one (good_place, tt)
    good_joined (r ∷ rs) g =
        ⊎_elim (λ b. rw (joined_over barred (run p (suc p)) r rs b) (over r g.0 b, g.1))
        (λ b. rw (joined_apart barred (run p (suc p)) r rs b) (good_place, (apart r g.0 b, g.1)))
        (either (bridged barred (suc p) r.start))

  -- no changed place is barred: so our runs are good
  module _ (changed_free : (p : ℕ) → changes p ≡ true → barred p ≡ false) where
    pub good_runs : (n p : ℕ) → Good changes barred p (runs_from changes barred p n)
    unfolding runs_from Good
    good_runs zero p = tt
    good_runs (suc n) p =
        let rs = runs_from changes barred (suc p) n in
        let g = good_runs n (suc p) in
        ⊎_elim (λ t. rw (runs_step changes barred p n t) (good_joined p t (changed_free p t) rs g))
        (λ f. rw (runs_skip changes barred p n f) (good_down p rs g))
        (either (changes p))
