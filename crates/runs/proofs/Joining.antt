-- Runs as they are found from the lowest place on: unchanged places are passed, and a run that is open joins
-- the next changed place or is closed before it.
-- Assumes nothing.
use mathlib.Core.Path.{◌≡◌, ◌∙◌}
use mathlib.Core.Bool.{Bool, true, false, cond, ◌||◌}
use mathlib.Core.List.{List, [], ◌∷◌}
use Prim.Native.Nat.{ℕ, zero, suc, ◌+◌, ◌-◌, ◌<◌, ◌≤◌}
use native.Mathlib.Nat.{add-zero, add-suc}
use native.Mathlib.Omega.{arith}
use lib.ListN.{get_or}
use Rattle.bursts.specs.Runs.{Run, run, changed, bridged, joined, with_place, runs_from}
use Rattle.bursts.specs.Stuck.{fixed_at, some_from}
use Rattle.chip.specs.File.{caption}
use Rattle.chip.specs.Map.{masks}
use Rattle.changes.specs.Places.{Unchanged}
use Rattle.runs.specs.Found.{runs_at, stuck_at}
use Rattle.runs.proofs.Fixing.{fixed_same}

-- what each place hands on to the next is the same at both ends
pass : {A : Type 0} (f : ℕ → A) (p d : ℕ) → ((q : ℕ) → p ≤ q → q < p + d → f q ≡ f (suc q)) → f p ≡ f (p + d)
pass f p zero h = rw add-zero
pass f p (suc d) h =
    rw (add-suc p d) (pass f p d (λ q l m. h q l (omega arith)) ∙ h (p + d) (omega arith) (omega arith))

module _ (barred : ℕ → Bool) (s e p : ℕ) where
  -- a run in front of one that begins with the place p
  pub join_near : (rs : List Run) → bridged barred e p ≡ true
      → joined barred (run s e) (joined barred (run p (suc p)) rs) ≡ joined barred (run s (suc p)) rs
  unfolding joined
  join_near [] h = rw h
  join_near (r ∷ rs) h = by (bridged barred (suc p) r.start)
    where
      by : (b : Bool) → joined barred (run s e) (cond b (run p r.end ∷ rs) (run p (suc p) ∷ r ∷ rs))
          ≡ cond b (run s r.end ∷ rs) (run s (suc p) ∷ r ∷ rs)
      by true = rw h
      by false = rw h

  pub join_far : (rs : List Run) → bridged barred e p ≡ false
      → joined barred (run s e) (joined barred (run p (suc p)) rs) ≡ run s e ∷ joined barred
      (run p (suc p)) rs
  unfolding joined
  join_far [] h = rw h
  join_far (r ∷ rs) h = by (bridged barred (suc p) r.start)
    where
      by : (b : Bool) → joined barred (run s e) (cond b (run p r.end ∷ rs) (run p (suc p) ∷ r ∷ rs))
          ≡ run s e ∷ cond b (run p r.end ∷ rs) (run p (suc p) ∷ r ∷ rs)
      by true = rw h
      by false = rw h

module _ (from to : List ℕ) where
  pub runs_step : (p : ℕ) → p < 256 → runs_at from to p ≡ with_place caption (changed from to p) p
      (runs_at from to (suc p))
  unfolding runs_at runs_from
  runs_step p l = let e : 256 - p ≡ suc (256 - suc p) = omega arith in rw e

  pub stuck_step : (p : ℕ) → p < 256
      → stuck_at from to p ≡ (fixed_at masks caption from to p || stuck_at from to (suc p))
  unfolding stuck_at some_from
  stuck_step p l = let e : 256 - p ≡ suc (256 - suc p) = omega arith in rw e

  pub runs_pass : (p r : ℕ) → Unchanged from to p r → runs_at from to p ≡ runs_at from to r
  unfolding with_place
  runs_pass p r u =
      let e : p + (r - p) ≡ r = omega arith in
      rw (← e) (pass (runs_at from to) p (r - p)
      (λ q l m. runs_step q (omega arith) ∙ rw (u.same q l (omega arith))))

  pub stuck_pass : ((i : ℕ) → get_or to i 0 < 256) → (p r : ℕ) → Unchanged from to p r
      → stuck_at from to p ≡ stuck_at from to r
  stuck_pass lt p r u =
      let e : p + (r - p) ≡ r = omega arith in
      rw (← e)
      (pass (stuck_at from to) p (r - p)
      (λ q l m. stuck_step q (omega arith)
      ∙ rw (fixed_same masks caption from to q (lt q) (u.same q l (omega arith)))))
