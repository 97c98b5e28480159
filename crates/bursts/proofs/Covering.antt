-- What runs that hold every changed place weigh at least, whatever their order and overlaps.
-- Assumes nothing.
use mathlib.Core.Path.{◌≡◌, refl}
use mathlib.Core.Bool.{Bool, true, false}
use mathlib.Core.List.{List, [], ◌∷◌}
use mathlib.Core.Logic.{◌⊎◌, inl, inr, ⊎_elim}
use Prim.Native.Nat.{ℕ, zero, suc, ◌+◌, ◌-◌, ◌<◌, ◌≤◌}
use native.Mathlib.Omega.{arith}
use Rattle.bursts.specs.Runs.{Run}
use Rattle.bursts.proofs.Bridges.{Free, either}
use Rattle.bursts.proofs.Holding.{Holds, Within, FairRun, Fair}

-- the weight of runs: of each its places and a heading h
unfoldable pub weight : ℕ → List Run → ℕ
weight h [] = 0
weight h (r ∷ rs) = h + (r.end - r.start) + weight h rs

-- ---- a run that holds a place, taken out of a list

record Taken (barred : ℕ → Bool) (limit h q : ℕ) (rs : List Run) : Type 0 where
  one : Run
  rest : List Run
  holds : Holds q one
  fair_one : FairRun barred limit one
  fair_rest : Fair barred limit rest
  weighs : weight h rs ≡ h + (one.end - one.start) + weight h rest
  places : (x : ℕ) → Within x rs → Holds x one ⊎ Within x rest

module _ (barred : ℕ → Bool) (limit h q : ℕ) where
  take_later : (r : Run) (rs : List Run) → FairRun barred limit r → Taken barred limit h q rs
      → Taken barred limit h q (r ∷ rs)
  unfolding Within Fair weight
  take_later r rs g t =
      let e = t.weighs in
      record {
        one = t.one;
        rest = r ∷ t.rest;
        holds = t.holds;
        fair_one = t.fair_one;
        fair_rest = (g, t.fair_rest);
        weighs = omega arith;
        places = λ x w. ⊎_elim (λ a. inr (inl a)) (λ b. ⊎_elim inl (λ k. inr (inr k)) (t.places x b)) w;
      }

  take_out : (rs : List Run) → Fair barred limit rs → Within q rs → Taken barred limit h q rs
  unfolding Within Fair weight
  take_out [] g w = absurd w
  take_out (r ∷ rs) g (inl a) =
      record {
        one = r;
        rest = rs;
        holds = a;
        fair_one = g.0;
        fair_rest = g.1;
        weighs = refl;
        places = λ x w. w;
      }
  take_out (r ∷ rs) g (inr w) = take_later r rs g.0 (take_out rs g.1 w)

-- ---- the bound: F p is at most what the changed places from p on cost, where F is 0 from the limit on, an
-- unchanged place costs nothing, and a run from a changed place on saves nothing

module _ (changes barred : ℕ → Bool) (limit h : ℕ) (F : ℕ → ℕ)
    (over : (p : ℕ) → limit ≤ p → F p ≡ 0)
    (skip : (p : ℕ) → changes p ≡ false → F p ≤ F (suc p))
    (step : (p e : ℕ) → changes p ≡ true → p < e → e ≤ limit → Free barred p e
    → F p ≤ h + (e - p) + F e) where
  -- a changed place: the part, from it on, of a run that holds it, and what the rest weighs
  first : (p : ℕ) → changes p ≡ true → (rs : List Run) (k : Taken barred limit h p rs)
      → F k.one.end ≤ weight h k.rest → F p ≤ weight h rs
  first p t rs k b =
      let a = k.holds.0 in
      let e = k.weighs in
      let s = step p k.one.end t k.holds.1 k.fair_one.inside
      (λ i l m. k.fair_one.free i (omega arith) m) in
      omega arith

  pub bound : (fuel p : ℕ) → limit ≤ p + fuel → (rs : List Run) → Fair barred limit rs
      → ((q : ℕ) → p ≤ q → changes q ≡ true → Within q rs) → F p ≤ weight h rs
  bound zero p l rs g w = let z = over p (omega arith) in omega arith
  bound (suc fuel) p l rs g w =
      ⊎_elim (λ t. let k = take_out barred limit h p rs g (w p (omega arith) t) in
      let a = k.holds in
      first p t rs k (bound fuel k.one.end (omega arith) k.rest k.fair_rest
      (λ q m u. ⊎_elim (λ o. absurd (omega arith)) (λ i. i) (k.places q (w q (omega arith) u)))))
      (λ f. let s = skip p f in
      let b = bound fuel (suc p) (omega arith) rs g (λ q k. w q (omega arith)) in
      omega arith)
      (either (changes p))
