-- A list of bursts done on a file, at one place: a place that no burst holds keeps its byte, a bit that the
-- map does not name stays, and bursts with the data of a file bring it there.
-- Assumes nothing.
use mathlib.Core.Path.{◌≡◌, refl, ◌∙◌, ap}
use mathlib.Core.Bool.{Bool, false}
use mathlib.Core.List.{List, [], ◌∷◌}
use mathlib.Core.Logic.{◌⊎◌, inl, inr, ⊎_elim}
use Prim.Native.Nat.{ℕ, ◌+◌, ◌-◌, ◌<◌, ◌≤◌}
use native.Mathlib.Omega.{arith}
use lib.ListN.{length, get_or, drop}
use lib.Seq.{get_or-take, get_or-drop}
use Rattle.bits.specs.Bit.{bit, has}
use Rattle.bits.specs.Merge.{merge}
use Rattle.bits.specs.Run.{merge_run, RunMeans}
use Rattle.bits.proofs.Runs.{rule_long, rule_outside, masked, run_none, run_more, run_law}
use Rattle.bits.proofs.Tests.{le_or_lt}
use Rattle.bursts.specs.Burst.{Burst, count, replay, Every, Competes, CarriedBy}
use Rattle.bursts.specs.Runs.{run}
use Rattle.bursts.proofs.Holding.{Holds, Within}
use Rattle.bursts.proofs.Spans.{spans}

-- a place is one of n places from `at` on, or before or behind them
in_or_out : (p at n : ℕ) → Holds p (run at (at + n)) ⊎ ((p < at) ⊎ (at + n ≤ p))
in_or_out p at n =
    ⊎_elim (λ l. ⊎_elim (λ k. inr (inr k)) (λ k. inl (l, k)) (le_or_lt (at + n) p)) (λ l. inr (inl l))
    (le_or_lt at p)

module _ (masks : List ℕ) where
  pub replay_long : (file : List ℕ) (bs : List Burst) → length (replay masks file bs) ≡ length file
  unfolding replay
  replay_long file [] = refl
  replay_long file (b ∷ bs) =
      let long = rule_long (merge_run masks) (masked masks) (run_none masks) (run_more masks) in
      replay_long (merge_run masks file b.place b.bytes) bs ∙ long file b.place b.bytes

  pub held_or_kept : (p : ℕ) (file : List ℕ) (bs : List Burst)
      → Within p (spans bs) ⊎ (get_or (replay masks file bs) p 0 ≡ get_or file p 0)
  unfolding replay spans Within
  held_or_kept p file [] = inr refl
  held_or_kept p file (b ∷ bs) =
      let outside = rule_outside (merge_run masks) (masked masks) (run_none masks) (run_more masks) in
      ⊎_elim (λ i. inl (inl i))
      (λ o. ⊎_elim (λ w. inl (inr w)) (λ e. inr (e ∙ outside file b.place b.bytes p o))
      (held_or_kept p (merge_run masks file b.place b.bytes) bs))
      (in_or_out p b.place (count b))

  pub unnamed_stays : (p j : ℕ) → j < 8 → has (get_or masks p 0) j ≡ false → (barred : ℕ → Bool) (end : ℕ)
      (file : List ℕ) (bs : List Burst) → Competes barred end bs → end ≤ length file
      → bit (get_or (replay masks file bs) p 0) j ≡ bit (get_or file p 0) j
  unfolding replay Every
  unnamed_stays p j lj h barred end file [] g l = refl
  unnamed_stays p j lj h barred end file (b ∷ bs) g l =
      let n = g.0.inside in
      let r = run_law masks file b.place b.bytes (omega arith) in
      let after = merge_run masks file b.place b.bytes in
      unnamed_stays p j lj h barred end after bs g.1 (rw r.long l) ∙ r.unnamed p j lj h

-- ---- bursts that carry the data of a file

-- the place is there, or a write of its byte brings it there and a burst holds it
abbrev pub Lands : (masks to : List ℕ) → ℕ → List ℕ → List Burst → Type 0
Lands masks to p file bs =
    (get_or file p 0 ≡ get_or to p 0)
    ⊎ ((merge (get_or masks p 0) (get_or file p 0) (get_or to p 0) ≡ get_or to p 0) × Within p (spans bs))

module _ (masks to : List ℕ) (p : ℕ) where
  carried_at : (b : Burst) → CarriedBy to b → (i : ℕ) → i < count b
      → get_or b.bytes i 0 ≡ get_or to (b.place + i) 0
  carried_at b h i l =
      ap (λ x. get_or x i 0) h ∙ get_or-take (count b) (drop b.place to) i 0 l ∙ get_or-drop b.place to i 0

  byte_inside : (file after : List ℕ) (b : Burst) → CarriedBy to b
      → RunMeans masks file b.place b.bytes after → Holds p (run b.place (b.place + count b))
      → get_or after p 0 ≡ merge (get_or masks p 0) (get_or file p 0) (get_or to p 0)
  byte_inside file after b h r i =
      let k : p - b.place < count b = omega arith in
      let e : b.place + (p - b.place) ≡ p = omega arith in
      rw (carried_at b h (p - b.place) k, e) at (r.inside (p - b.place) k)

  module _ (same : merge (get_or masks p 0) (get_or to p 0) (get_or to p 0) ≡ get_or to p 0) where
    lands_next : (file after : List ℕ) (b : Burst) (bs : List Burst) → CarriedBy to b
        → RunMeans masks file b.place b.bytes after → Lands masks to p file (b ∷ bs)
        → Lands masks to p after bs
    unfolding spans Within
    lands_next file after b bs h r s =
        ⊎_elim (λ i. inl (byte_inside file after b h r i ∙ ⊎_elim (λ e. rw e same) (λ w. w.0) s))
        (λ o. let k = r.outside p o in
        ⊎_elim (λ e. inl (k ∙ e))
        (λ w. ⊎_elim (λ i. absurd (⊎_elim (λ a. omega arith) (λ a. omega arith) o))
        (λ v. inr (rw k w.0, v)) w.1)
        s)
        (in_or_out p b.place (count b))

    pub lands : (barred : ℕ → Bool) (end : ℕ) (file : List ℕ) (bs : List Burst) → Competes barred end bs
        → Every (CarriedBy to) bs → end ≤ length file → Lands masks to p file bs
        → get_or (replay masks file bs) p 0 ≡ get_or to p 0
    unfolding replay Every spans Within
    lands barred end file [] g h l s = ⊎_elim (λ e. e) (λ w. absurd w.1) s
    lands barred end file (b ∷ bs) g h l s =
        let n = g.0.inside in
        let r = run_law masks file b.place b.bytes (omega arith) in
        lands barred end (merge_run masks file b.place b.bytes) bs g.1 h.1 (rw r.long l)
        (lands_next file _ b bs h.0 r s)
