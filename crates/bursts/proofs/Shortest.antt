-- Demand 3: unless the files are stuck our list is the shortest of all that compete and get there, and where
-- they are none does.
-- Assumes nothing.
use mathlib.Core.Path.{◌≡◌, sym, ◌∙◌, ap}
use mathlib.Core.Bool.{Bool, true, false, true≢false}
use mathlib.Core.List.{List}
use mathlib.Core.Logic.{inl, inr, ⊎_elim}
use Prim.Native.Nat.{ℕ, suc, ◌<◌, ◌≤◌}
use native.Mathlib.Omega.{arith}
use lib.ListN.{length, get_or, replicate, length-replicate, get_or-eq_default}
use lib.Seq.{ext_get_or}
use Rattle.bits.specs.Bit.{bit}
use Rattle.bits.proofs.Merging.{merge_same}
use Rattle.bursts.specs.Burst.{Burst, heading, replay, Every, Competes, CarriedBy, bus_bytes}
use Rattle.bursts.specs.Runs.{Run, bridge, changed, runs_from, bursts_for}
use Rattle.bursts.specs.Stuck.{Stuck}
use Rattle.bursts.specs.Shortest.{GetsThere, Shortest, Files, WholeMap, ListLaws}
use Rattle.bursts.proofs.Bridges.{either}
use Rattle.bursts.proofs.Good.{Good, good_runs}
use Rattle.bursts.proofs.Holding.{Within, Fair, held_free, good_fair, runs_hold}
use Rattle.bursts.proofs.Covering.{weight}
use Rattle.bursts.proofs.Weights.{least}
use Rattle.bursts.proofs.Spans.{spans, bytes_weight, bursts_weight, competes_fair, fair_competes}
use Rattle.bursts.proofs.Spans.{spans_of, carries_of, ascends_of}
use Rattle.bursts.proofs.Arriving.{replay_long, held_or_kept, unnamed_stays, lands}
use Rattle.bursts.proofs.Testing.{stuck_test}
use Rattle.bursts.proofs.Unstuck.{changed_differs, unchanged_same}
use Rattle.bursts.proofs.Unstuck.{changed_free, merges, changed_below}

-- a list that gets there holds every changed place
pub arrived_holds : (masks from to : List ℕ) (bs : List Burst) → GetsThere masks from to bs → (q : ℕ)
    → changed from to q ≡ true → Within q (spans bs)
arrived_holds masks from to bs a q t =
    ⊎_elim (λ w. w) (λ e. absurd (changed_differs from to q t (sym e ∙ ap (λ x. get_or x q 0) a)))
    (held_or_kept masks q from bs)

module _ (masks : List ℕ) (barred : ℕ → Bool) (end : ℕ) (from to : List ℕ)
    (files : Files masks end from to) where
  -- ---- files that are stuck

  none : Stuck masks barred from to → (other : List Burst) → Competes barred end other
      → GetsThere masks from to other → ⊥
  none (inl u) other g a =
      let e = unnamed_stays masks u.place u.bit_at u.low u.unnamed barred end from other g
      files.inside in
      u.differs (sym e ∙ ap (λ x. bit (get_or x u.place 0) u.bit_at) a)
  none (inr b) other g a =
      let f = competes_fair barred end end (omega arith) other g in
      ⊎_elim (λ w. true≢false (sym b.is_barred ∙ held_free barred end b.place (spans other) f w))
      (λ e. b.differs (sym e ∙ ap (λ x. get_or x b.place 0) a))
      (held_or_kept masks b.place from other)

  -- ---- files that are not

  module _ (unstuck : Stuck masks barred from to → ⊥) where
    free : (p : ℕ) → changed from to p ≡ true → barred p ≡ false
    free = changed_free masks barred end from to files unstuck

    below : (p : ℕ) → changed from to p ≡ true → p < end
    below = changed_below masks barred end from to files unstuck

    runs : List Run
    runs = runs_from (changed from to) barred 0 (length from)

    ours : List Burst
    ours = bursts_for barred from to

    fits : end ≤ length to
    fits = let l = files.long in let n = files.inside in omega arith

    good : Good (changed from to) barred 0 runs
    unfolding runs
    good = good_runs (changed from to) barred free (length from) 0

    pub runs_fair : Fair barred end (runs_from (changed from to) barred 0 (length from))
    unfolding runs
    runs_fair = good_fair (changed from to) barred end below 0 runs good

    fair : Fair barred end runs
    unfolding runs
    fair = runs_fair

    our_spans : spans ours ≡ runs
    unfolding ours runs bursts_for
    our_spans = spans_of barred end to fits runs fair

    competes : Competes barred end ours
    competes = fair_competes barred end ours (rw our_spans fair)

    carries : Every (CarriedBy to) ours
    unfolding ours runs bursts_for
    carries = carries_of barred end to fits runs fair

    held : (p : ℕ) → changed from to p ≡ true → Within p (spans ours)
    unfolding runs
    held p t =
        let k = below p t in
        let n = files.inside in
        rw our_spans
        (runs_hold (changed from to) barred free p t (length from) 0 (omega arith) (omega arith))

    -- a place is as wanted, or one of our bursts writes it
    arrives : GetsThere masks from to ours
    arrives =
        ext_get_or 0 (replay masks from ours) to (replay_long masks from ours ∙ sym files.long)
        (λ p l. lands masks to p (merge_same _ _ (files.to_bytes p)) barred end from ours competes carries
        files.inside
        (⊎_elim (λ t. inr (merges masks barred end from to files unstuck p, held p t))
        (λ f. inl (unchanged_same from to p f)) (either (changed from to p))))

    -- another list holds all that ours must
    lighter : (h : ℕ) → bridge ≤ h → h ≤ suc bridge → (other : List Burst) → Competes barred end other
        → GetsThere masks from to other → weight h (spans ours) ≤ weight h (spans other)
    unfolding runs
    lighter h l k other g a =
        let f = competes_fair barred end (length from) files.inside other g in
        rw our_spans (least h l k (changed from to) barred free (length from) (spans other) f
        (arrived_holds masks from to other a))

    -- and so do any runs that hold every changed place
    pub cover_heavier : (rs : List Run) → Fair barred (length from) rs
        → ((q : ℕ) → changed from to q ≡ true → Within q rs)
        → bus_bytes (bursts_for barred from to) ≤ weight heading rs
    unfolding ours runs
    cover_heavier rs f w =
        let l : weight heading (spans ours) ≤ weight heading rs = rw our_spans
        (least heading (omega arith) (omega arith) (changed from to) barred free (length from) rs f w) in
        omega (arith, bytes_weight ours)

    shortest : Shortest masks barred end from to (bursts_for barred from to)
    unfolding ours runs bursts_for
    shortest =
        record {
          competes = competes;
          arrives = arrives;
          bytes = λ other g a.
              let w = lighter heading (omega arith) (omega arith) other g a in
              omega (arith, bytes_weight ours, bytes_weight other);
          bursts = λ other g a e.
              let w = lighter (suc heading) (omega arith) (omega arith) other g a in
              omega (arith, bursts_weight ours, bursts_weight other);
          ascends = ascends_of barred end to fits (changed from to) 0 runs fair good;
          carries = carries;
        }

-- The theorem, over any map, all barred places and any end.
pub list_laws : ListLaws
list_laws masks barred end from to files =
    record {
      shortest = shortest masks barred end from to files;
      none = none masks barred end from to files;
      test = stuck_test masks barred from to files.long;
    }

pub whole_map : WholeMap
whole_map from to e lf lt =
    record {
      long = e;
      inside = omega arith;
      from_bytes = lf;
      to_bytes = lt;
      behind = λ p l. get_or-eq_default (replicate (length from) 255) 0 (rw length-replicate l);
    }
