-- All runs of two files, as they are found: the headings of those that are closed, and what is left.
-- Assumes nothing.
use mathlib.Core.Path.{◌≡◌, refl, sym, ap, ◌∙◌}
use mathlib.Core.Bool.{true, false, false≢true}
use mathlib.Core.List.{List, [], ◌∷◌, ◌++◌, append_assoc, append-nil}
use mathlib.Core.Logic.{⊎_elim}
use Prim.Native.Nat.{ℕ, ◌+◌, ◌-◌, ◌*◌, ◌<◌, ◌≤◌}
use native.Mathlib.Omega.{arith}
use lib.ListN.{length, get_or, take, length-append}
use lib.Seq.{take-length}
use Rattle.bits.proofs.Tests.{le_or_lt}
use Rattle.bursts.specs.Burst.{heading}
use Rattle.bursts.specs.Runs.{changed}
use Rattle.changes.specs.Places.{NextChange}
use Rattle.runs.specs.Found.{runs_at, stuck_at, RunFound, headings, run_bytes, RunsFound, heading_bytes}
use Rattle.runs.specs.declared.find.Extent.{Extent}
use Rattle.runs.specs.declared.find.Heading.{Heading}
use Rattle.runs.proofs.Joining.{runs_pass, stuck_pass}
use Rattle.runs.proofs.Opening.{no_runs, none_stuck}

-- the runs before `start`, where the next begins, have these headings
pub record Progress (from to : List ℕ) (hs : List Heading) (bytes start : ℕ) : Type 0 where
  pub listed : heading_bytes hs ++ headings (runs_at from to start) ≡ headings (runs_at from to 0)
  pub summed : bytes + run_bytes (runs_at from to start) ≡ run_bytes (runs_at from to 0)
  pub counted : length hs + length (runs_at from to start) ≡ length (runs_at from to 0)
  pub inside : start ≤ 256
  pub differs : start < 256 → changed from to start ≡ true
  -- a run has a place and leaves one behind it; its bytes are at most three for each place
  pub few : 2 * length hs ≤ start
  pub small : bytes ≤ 3 * start
  pub free : stuck_at from to 0 ≡ false

-- one more heading
heading_bytes-append : (hs : List Heading) (h : Heading)
    → heading_bytes (hs ++ h ∷ []) ≡ heading_bytes hs ++ (h.start ∷ h.count ∷ [])
unfolding heading_bytes
heading_bytes-append [] h = refl
heading_bytes-append (x ∷ hs) h = rw (heading_bytes-append hs h)

-- each has two bytes
heading_bytes_long : (hs : List Heading) → length (heading_bytes hs) ≡ 2 * length hs
unfolding heading_bytes
heading_bytes_long [] = refl
heading_bytes_long (x ∷ hs) = let e = heading_bytes_long hs in omega arith

pub all_taken : (hs : List Heading) → take (2 * length hs) (heading_bytes hs) ≡ heading_bytes hs
all_taken hs = rw (← heading_bytes_long hs) (take-length (heading_bytes hs))

module _ (from to : List ℕ) where
  pub found_first : (start : ℕ) → NextChange from to 0 start → stuck_at from to 0 ≡ false
      → Progress from to [] 0 start
  unfolding heading_bytes
  found_first start b free =
      let r = runs_pass from to 0 start b.passed in
      record {
        listed = rw (sym r);
        summed = let z = ap run_bytes r in omega arith;
        counted = let z = ap length r in omega arith;
        inside = b.passed.inside;
        differs = b.differs;
        few = omega arith;
        small = omega arith;
        free = free;
      }

  -- files with no changed place are not stuck
  pub unchanged_free : ((i : ℕ) → get_or to i 0 < 256) → (start : ℕ) → NextChange from to 0 start → 256 ≤ start
      → stuck_at from to 0 ≡ false
  unchanged_free lt start b l = stuck_pass from to lt 0 start b.passed ∙ none_stuck from to start l

  module _ (hs : List Heading) (bytes start : ℕ) (g : Progress from to hs bytes start) where
    -- a run leaves a place before the next
    pub run_ends : (r : Extent) → RunFound from to start r → r.end < r.next
    run_ends r f = let low = f.low in ⊎_elim (λ l. omega arith) f.gap (le_or_lt 256 r.next)

    pub found_more : (r : Extent) → RunFound from to start r
        → Progress from to (hs ++ (record { start = start; count = r.end - start }) ∷ [])
        (bytes + (heading + (r.end - start))) r.next
    unfolding headings run_bytes
    found_more r f =
        let n = r.end - start in
        let h : Heading = record { start = start; count = n } in
        let low = f.low in
        let more = f.more in
        let few = g.few in
        let ends = run_ends r f in
        let long = length-append hs (h ∷ []) in
        record {
          listed = rw (heading_bytes-append hs h)
              (append_assoc (heading_bytes hs) (start ∷ n ∷ []) (headings (runs_at from to r.next))
              ∙ (rw f.runs at g.listed));
          summed = let s = g.summed in let z = ap run_bytes f.runs in omega arith;
          counted = let s = g.counted in let z = ap length f.runs in omega arith;
          inside = f.inside;
          differs = f.differs;
          few = omega arith;
          small = let s = g.small in omega arith;
          free = g.free;
        }

    pub found_all : 256 ≤ start
        → RunsFound from to (record { fixed = false; bytes = bytes; bursts = length hs }) (heading_bytes hs)
    unfolding headings run_bytes
    found_all l =
        let none = no_runs from to start l in
        record {
          stuck = sym g.free;
          none = λ e. absurd (false≢true e);
          bytes = λ e. let s = g.summed in let z = ap run_bytes none in omega arith;
          bursts = λ e. let s = g.counted in let z = ap length none in omega arith;
          few = λ e. let s = g.few in let z = g.inside in omega arith;
          listed = λ e. all_taken hs ∙ sym (append-nil (heading_bytes hs)) ∙ (rw none at g.listed);
        }
