-- The weight of our runs from a place on meets what the bound asks, at a heading of 2 and at one of 3: so no
-- fair runs that hold all changed places weigh less.
-- Assumes nothing.
use mathlib.Core.Path.{◌≡◌, ap}
use mathlib.Core.Bool.{Bool, true, false}
use mathlib.Core.List.{List}
use mathlib.Core.Logic.{⊎_elim}
use Prim.Native.Nat.{ℕ, zero, suc, ◌+◌, ◌-◌, ◌<◌, ◌≤◌}
use native.Mathlib.Omega.{arith}
use Rattle.bits.proofs.Tests.{le_or_lt}
use Rattle.bursts.specs.Runs.{Run, run, bridge, joined, runs_from}
use Rattle.bursts.proofs.Bridges.{Free, either, runs_skip, runs_step}
use Rattle.bursts.proofs.Good.{Good, good_runs}
use Rattle.bursts.proofs.Holding.{Within, Fair}
use Rattle.bursts.proofs.Covering.{weight, bound}
use Rattle.bursts.proofs.Ahead.{ahead, ahead_le, weight_joined, ahead_joined, ahead_skip}

module _ (h : ℕ) (low : bridge ≤ h) (high : h ≤ suc bridge) (changes barred : ℕ → Bool)
    (changed_free : (p : ℕ) → changes p ≡ true → barred p ≡ false) (limit : ℕ) where
  -- our runs from a place on, up to the limit
  ours : ℕ → List Run
  ours p = runs_from changes barred p (limit - p)

  good : (p : ℕ) → Good changes barred p (ours p)
  unfolding ours
  good p = good_runs changes barred changed_free (limit - p) p

  ours_at : (p : ℕ) → p < limit → changes p ≡ true → ours p ≡ joined barred (run p (suc p)) (ours (suc p))
  unfolding ours
  ours_at p l t =
      let e : limit - p ≡ suc (limit - suc p) = omega arith in
      rw e (runs_step changes barred p (limit - suc p) t)

  ours_past : (p : ℕ) → p < limit → changes p ≡ false → ours p ≡ ours (suc p)
  unfolding ours
  ours_past p l f =
      let e : limit - p ≡ suc (limit - suc p) = omega arith in
      rw e (runs_skip changes barred p (limit - suc p) f)

  weighs_at : (p : ℕ) → p < limit → changes p ≡ true
      → weight h (ours p) ≡ suc (ahead h barred (suc p) (ours (suc p)))
  weighs_at p l t =
      rw (ours_at p l t) (weight_joined h low high changes barred p (ours (suc p)) (good (suc p)))

  -- a run may end a place later, and weighs a place more
  ahead_step : (e : ℕ) → e < limit → barred e ≡ false
      → ahead h barred e (ours e) ≤ suc (ahead h barred (suc e) (ours (suc e)))
  ahead_step e l f =
      ⊎_elim (λ t. let a = weighs_at e l t in
      let b : ahead h barred e (ours e) ≡ weight h (ours e) =
      rw (ours_at e l t) (ahead_joined h low high changes barred e (ours (suc e))) in
      omega arith)
      (λ u. rw (ours_past e l u) (ahead_skip h low high changes barred e f (ours (suc e)) (good (suc e))))
      (either (changes e))

  ahead_steps : (k e : ℕ) → e + k ≤ limit → Free barred e (e + k)
      → ahead h barred e (ours e) ≤ k + (h + weight h (ours (e + k)))
  ahead_steps zero e l f =
      let a = ahead_le h low high changes barred e (ours e) in
      let z : e + 0 ≡ e = omega arith in
      rw z (omega arith)
  ahead_steps (suc k) e l f =
      let a = ahead_step e (omega arith) (f e (omega arith) (omega arith)) in
      let b = ahead_steps k (suc e) (omega arith) (λ i m n. f i (omega arith) (omega arith)) in
      let q : e + suc k ≡ suc e + k = omega arith in
      rw q (omega arith)

  -- ---- what the bound asks

  over : (p : ℕ) → limit ≤ p → weight h (ours p) ≡ 0
  unfolding ours runs_from weight
  over p l = let e : limit - p ≡ 0 = omega arith in rw e

  skip : (p : ℕ) → changes p ≡ false → weight h (ours p) ≤ weight h (ours (suc p))
  skip p f =
      ⊎_elim (λ l. let z = over p l in omega arith)
      (λ l. let e = ap (weight h) (ours_past p l f) in omega arith) (le_or_lt limit p)

  step : (p e : ℕ) → changes p ≡ true → p < e → e ≤ limit → Free barred p e
      → weight h (ours p) ≤ h + (e - p) + weight h (ours e)
  step p e t l k f =
      let q : suc p + (e - suc p) ≡ e = omega arith in
      let a = weighs_at p (omega arith) t in
      let free : Free barred (suc p) (suc p + (e - suc p)) = λ i m n. f i (omega arith) (omega arith) in
      let b = rw q at (ahead_steps (e - suc p) (suc p) (omega arith) free) in
      omega arith

  pub least : (rs : List Run) → Fair barred limit rs → ((q : ℕ) → changes q ≡ true → Within q rs)
      → weight h (runs_from changes barred 0 limit) ≤ weight h rs
  unfolding ours
  least rs g w =
      let z : limit - 0 ≡ limit = omega arith in
      let F : ℕ → ℕ = λ p. weight h (ours p) in
      rw z at (bound changes barred limit h F over skip step limit 0 (omega arith) rs g (λ q l. w q))
