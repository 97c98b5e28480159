-- Bursts as the runs of their places: what they cost, which compete, and the bursts that our runs make.
-- Assumes nothing.
use mathlib.Core.Path.{◌≡◌, refl, sym, ap}
use mathlib.Core.Bool.{Bool}
use mathlib.Core.List.{List, [], ◌∷◌, map}
use Prim.Native.Nat.{ℕ, suc, ◌+◌, ◌-◌, ◌≤◌}
use native.Mathlib.Omega.{arith}
use lib.ListN.{length, take, drop, length-take, length-drop}
use Rattle.bursts.specs.Burst.{Burst, count, heading, bus_bytes, Every, Competes, CarriedBy, Ascending}
use Rattle.bursts.specs.Runs.{Run, run, burst_of}
use Rattle.bursts.proofs.Good.{Good}
use Rattle.bursts.proofs.Holding.{FairRun, Fair}
use Rattle.bursts.proofs.Covering.{weight}

unfoldable pub spans : List Burst → List Run
spans [] = []
spans (b ∷ bs) = run b.place (b.place + count b) ∷ spans bs

-- the bytes on the bus are the weight at their heading, and at one more each burst counts too
pub bytes_weight : (bs : List Burst) → weight heading (spans bs) ≡ bus_bytes bs
unfolding weight spans bus_bytes
bytes_weight [] = refl
bytes_weight (b ∷ bs) = let e = bytes_weight bs in omega arith

pub bursts_weight : (bs : List Burst) → weight (suc heading) (spans bs) ≡ bus_bytes bs + length bs
unfolding weight spans bus_bytes
bursts_weight [] = refl
bursts_weight (b ∷ bs) = let e = bursts_weight bs in omega arith

module _ (barred : ℕ → Bool) (end : ℕ) where
  pub competes_fair : (limit : ℕ) → end ≤ limit → (bs : List Burst) → Competes barred end bs
      → Fair barred limit (spans bs)
  unfolding spans Every Fair
  competes_fair limit l [] g = tt
  competes_fair limit l (b ∷ bs) g =
      let s = g.0.some in
      let n = g.0.inside in (
        record {
          some = omega arith;
          inside = omega arith;
          free = λ i m k. let e : i ≡ b.place + (i - b.place) = omega arith in
              rw e (g.0.clear (i - b.place) (omega arith));
        },
        competes_fair limit l bs g.1,
      )

  pub fair_competes : (bs : List Burst) → Fair barred end (spans bs) → Competes barred end bs
  unfolding spans Every Fair
  fair_competes [] g = tt
  fair_competes (b ∷ bs) g =
      let s = g.0.some in (
        record {
          some = omega arith;
          inside = g.0.inside;
          clear = λ i l. g.0.free (b.place + i) (omega arith) (omega arith);
        },
        fair_competes bs g.1,
      )

-- ---- the bursts of fair runs, with the data of a file that goes as far

module _ (barred : ℕ → Bool) (limit : ℕ) (to : List ℕ) (l : limit ≤ length to) where
  pub count_of : (r : Run) → FairRun barred limit r
      → length (take (r.end - r.start) (drop r.start to)) ≡ r.end - r.start
  count_of r g =
      let n = g.inside in
      rw (length-take (r.end - r.start) (drop r.start to), length-drop r.start to) (omega arith)

  pub spans_of : (rs : List Run) → Fair barred limit rs → spans (map (burst_of to) rs) ≡ rs
  unfolding spans burst_of Fair
  spans_of [] g = refl
  spans_of (r ∷ rs) g =
      let s = g.0.some in
      let e : r.start + (r.end - r.start) ≡ r.end = omega arith in
      rw (count_of r g.0, e, spans_of rs g.1)

  pub carries_of : (rs : List Run) → Fair barred limit rs → Every (CarriedBy to) (map (burst_of to) rs)
  unfolding burst_of Every Fair
  carries_of [] g = tt
  carries_of (r ∷ rs) g =
      (ap (λ n. take n (drop r.start to)) (sym (count_of r g.0)), carries_of rs g.1)

  pub ascends_of : (changes : ℕ → Bool) (p : ℕ) (rs : List Run) → Fair barred limit rs
      → Good changes barred p rs → Ascending p (map (burst_of to) rs)
  unfolding burst_of Ascending Fair Good
  ascends_of changes p [] f g = tt
  ascends_of changes p (r ∷ rs) f g =
      let s = f.0.some in
      let e : r.start + (r.end - r.start) ≡ r.end = omega arith in
      (g.0.behind, rw (count_of r f.0, e) (ascends_of changes (suc r.end) rs f.1 g.1))
