-- What a run that ends at a place adds to the runs behind it, at a heading of 2 or of 3: a place more of it
-- never saves more than that place.
-- Assumes nothing.
use mathlib.Core.Path.{◌≡◌, refl, ◌∙◌}
use mathlib.Core.Bool.{Bool, true, false, cond}
use mathlib.Core.List.{List, [], ◌∷◌}
use mathlib.Core.Logic.{⊎_elim}
use Prim.Native.Nat.{ℕ, suc, ◌+◌, ◌-◌, ◌<◌, ◌≤◌}
use native.Mathlib.Omega.{arith}
use Rattle.bits.proofs.Tests.{le_or_lt}
use Rattle.bursts.specs.Runs.{Run, run, bridge, bridged, joined}
use Rattle.bursts.proofs.Bridges.{
  either,
  free_more,
  bridged_near,
  bridged_free,
  free_bridged,
  bridged_here,
  joined_one,
  joined_over,
  joined_apart,
}
use Rattle.bursts.proofs.Good.{Good}
use Rattle.bursts.proofs.Covering.{weight}

-- what a run that ends at e adds, its own places left out, together with the runs behind it
unfoldable pub ahead : ℕ → (ℕ → Bool) → ℕ → List Run → ℕ
ahead h barred e [] = h
ahead h barred e (r ∷ rs) =
    cond (bridged barred e r.start) (h + (r.end - e) + weight h rs) (h + weight h (r ∷ rs))

module _ (h : ℕ) (low : bridge ≤ h) (high : h ≤ suc bridge) (changes barred : ℕ → Bool) where
  ahead_over : (e : ℕ) (r : Run) (rs : List Run) → bridged barred e r.start ≡ true
      → ahead h barred e (r ∷ rs) ≡ h + (r.end - e) + weight h rs
  unfolding ahead
  ahead_over e r rs b = rw b

  ahead_apart : (e : ℕ) (r : Run) (rs : List Run) → bridged barred e r.start ≡ false
      → ahead h barred e (r ∷ rs) ≡ h + (h + (r.end - r.start) + weight h rs)
  unfolding ahead weight
  ahead_apart e r rs b = rw b

  -- a heading for itself is never too little
  pub ahead_le : (e : ℕ) (rs : List Run) → ahead h barred e rs ≤ h + weight h rs
  unfolding ahead weight
  ahead_le e [] = omega arith
  ahead_le e (r ∷ rs) =
      ⊎_elim (λ b. let n = bridged_near barred e r.start b in rw (ahead_over e r rs b) (omega arith))
      (λ b. rw (ahead_apart e r rs b) (omega arith)) (either (bridged barred e r.start))

  module _ (p : ℕ) where
    -- a changed place in front of good runs
    pub weight_joined : (rs : List Run) → Good changes barred (suc p) rs
        → weight h (joined barred (run p (suc p)) rs) ≡ suc (ahead h barred (suc p) rs)
    unfolding ahead weight Good
    weight_joined [] g = rw joined_one (omega arith)
    weight_joined (r ∷ rs) g =
        let l = g.0.behind in
        let m = g.0.some in
        ⊎_elim (λ b. rw (joined_over barred (run p (suc p)) r rs b, ahead_over (suc p) r rs b) (omega arith))
        (λ b. rw (joined_apart barred (run p (suc p)) r rs b, ahead_apart (suc p) r rs b) (omega arith))
        (either (bridged barred (suc p) r.start))

    -- a run that ends at that place goes on over it
    ahead_here : (r : Run) (rs : List Run) → r.start ≡ p → ahead h barred p (r ∷ rs) ≡ weight h (r ∷ rs)
    unfolding weight
    ahead_here r rs e =
        let b : bridged barred p r.start ≡ true = rw e (bridged_here barred p) in
        ahead_over p r rs b ∙ rw e

    pub ahead_joined : (rs : List Run)
        → ahead h barred p (joined barred (run p (suc p)) rs) ≡ weight h (joined barred (run p (suc p)) rs)
    ahead_joined [] = rw joined_one (ahead_here _ [] refl)
    ahead_joined (r ∷ rs) =
        ⊎_elim (λ b. rw (joined_over barred (run p (suc p)) r rs b) (ahead_here _ rs refl))
        (λ b. rw (joined_apart barred (run p (suc p)) r rs b) (ahead_here _ (r ∷ rs) refl))
        (either (bridged barred (suc p) r.start))

    -- an unchanged place that is not barred
    module _ (f : barred p ≡ false) (r : Run) (rs : List Run) (l : p < r.start)
        (m : r.start < r.end) where
      -- two runs join at the place behind p: at p they do too, or lie three places apart
      skip_over : bridged barred (suc p) r.start ≡ true
          → ahead h barred p (r ∷ rs) ≤ suc (ahead h barred (suc p) (r ∷ rs))
      unfolding weight
      skip_over b =
          let n = bridged_near barred (suc p) r.start b in
          let a = ahead_le p (r ∷ rs) in
          let free = free_more barred p r.start f (bridged_free barred (suc p) r.start b) in
          let near : r.start ≤ p + bridge → ahead h barred p (r ∷ rs) ≡ h + (r.end - p) + weight h rs =
          λ k. ahead_over p r rs (free_bridged barred p r.start k free) in
          rw (ahead_over (suc p) r rs b)
          (⊎_elim (λ k. rw (near k) (omega arith)) (λ (k : p + bridge < r.start). omega arith)
          (le_or_lt r.start (p + bridge)))

      skip_apart : bridged barred (suc p) r.start ≡ false
          → ahead h barred p (r ∷ rs) ≤ suc (ahead h barred (suc p) (r ∷ rs))
      unfolding weight
      skip_apart b =
          let a = ahead_le p (r ∷ rs) in
          rw (ahead_apart (suc p) r rs b) (omega arith)

    pub ahead_skip : barred p ≡ false → (rs : List Run) → Good changes barred (suc p) rs
        → ahead h barred p rs ≤ suc (ahead h barred (suc p) rs)
    unfolding ahead Good
    ahead_skip f [] g = omega arith
    ahead_skip f (r ∷ rs) g =
        ⊎_elim (skip_over f r rs g.0.behind g.0.some) (skip_apart f r rs g.0.behind g.0.some)
        (either (bridged barred (suc p) r.start))
