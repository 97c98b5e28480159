-- Our list and the runs that were found: its bytes and bursts, and the headings with their data.
-- Assumes nothing.
use mathlib.Core.Path.{◌≡◌, refl, sym, ap, ◌∙◌}
use mathlib.Core.Bool.{Bool, true, false, false≢true}
use mathlib.Core.List.{List, [], ◌∷◌, ◌++◌, map}
use mathlib.Core.Logic.{◌↔◌}
use Prim.Native.Nat.{ℕ, ◌<◌, ◌≤◌}
use native.Mathlib.Omega.{arith}
use lib.ListN.{length, get_or, drop, length-append, length-map}
use lib.Seq.{sets}
use Rattle.std.specs.Prelude.{Option, None, Some, IsSome, IfSome}
use Rattle.bits.proofs.Stores.{sets_front}
use Rattle.bits.proofs.Tests.{is_true}
use Rattle.bursts.specs.Burst.{Burst, heading, bus_bytes, encoded}
use Rattle.bursts.specs.Runs.{Run, burst_of, bursts_for}
use Rattle.bursts.specs.Shortest.{Files}
use Rattle.bursts.specs.Stuck.{stuck}
use Rattle.bursts.proofs.Covering.{weight}
use Rattle.bursts.proofs.Holding.{Fair}
use Rattle.bursts.proofs.Shortest.{list_laws, runs_fair}
use Rattle.bursts.proofs.Spans.{bytes_weight, count_of, spans_of}
use Rattle.changes.specs.declared.Files.{Files as Lent}
use Rattle.chip.specs.File.{caption, registers_end}
use Rattle.chip.specs.Map.{masks}
use Rattle.plan.specs.Meaning.{AreFiles}
use Rattle.runs.specs.Found.{runs_at, stuck_at, headings, run_bytes, RunsFound, heading_bytes, told_found}
use Rattle.plan.specs.Spelled.{spelled, HeadsFit}
use Rattle.runs.specs.declared.find.Heading.{Heading}
use Rattle.plan.specs.Plan.{list_for}
use Rattle.runs.proofs.Behind.{masks_behind}
use Rattle.runs.proofs.Finding.{all_taken}

-- a list in the buffer has as many bytes as on the bus
pub encoded_long : (bs : List Burst) → length (encoded bs) ≡ bus_bytes bs
unfolding encoded bus_bytes
encoded_long [] = refl
encoded_long (b ∷ bs) = let e = encoded_long bs in omega (arith, length-append b.bytes (encoded bs))

run_weight : (rs : List Run) → run_bytes rs ≡ weight heading rs
unfolding run_bytes weight
run_weight [] = refl
run_weight (r ∷ rs) = rw (run_weight rs)

module _ (barred : ℕ → Bool) (limit : ℕ) (to : List ℕ) (l : limit ≤ length to) where
  pub heads_fit : (rs : List Run) → Fair barred limit rs → HeadsFit to (headings rs)
  unfolding headings HeadsFit Fair
  heads_fit [] f = tt
  heads_fit (r ∷ rs) f = (let s = f.0.some in let n = f.0.inside in omega arith, heads_fit rs f.1)

  pub spelled_list : (rs : List Run) → Fair barred limit rs → spelled to (headings rs) ≡ encoded
      (map (burst_of to) rs)
  unfolding headings spelled encoded burst_of Fair
  spelled_list [] f = refl
  spelled_list (r ∷ rs) f = rw (count_of barred limit to l r f.0, spelled_list rs f.1)

  pub run_bytes_lem : (rs : List Run) → Fair barred limit rs → run_bytes rs ≡ bus_bytes (map (burst_of to) rs)
  run_bytes_lem rs f =
      run_weight rs
      ∙ ap (weight heading) (sym (spans_of barred limit to l rs f))
      ∙ bytes_weight (map (burst_of to) rs)

-- ---- two files

-- the runs that were found make our list
pub record FoundList (from to : List ℕ) (bytes : ℕ) (hs : List Heading) : Type 0 where
  pub clear : stuck masks caption from to ≡ false
  pub bytes_are : bytes ≡ bus_bytes (list_for from to)
  pub bursts_are : length hs ≡ length (list_for from to)
  pub fit : HeadsFit to (heading_bytes hs)
  pub spells : spelled to (heading_bytes hs) ≡ encoded (list_for from to)

module _ (from to : List ℕ) (files : AreFiles from to) where
  pub are_files : ((i : ℕ) → get_or from i 0 < 256) → ((i : ℕ) → get_or to i 0 < 256)
      → Files masks registers_end from to
  are_files lf lt =
      record {
        long = files.1 ∙ sym files.0;
        inside = let n = files.0 in omega arith;
        from_bytes = lf;
        to_bytes = lt;
        behind = masks_behind;
      }

  stuck_is : stuck_at from to 0 ≡ stuck masks caption from to
  unfolding stuck_at stuck
  stuck_is = rw files.0

  pub list_is : list_for from to ≡ map (burst_of to) (runs_at from to 0)
  unfolding bursts_for runs_at
  list_is = rw files.0

  module _ (lf : (i : ℕ) → get_or from i 0 < 256) (lt : (i : ℕ) → get_or to i 0 < 256)
      (clear : stuck masks caption from to ≡ false) where
    fair : Fair caption registers_end (runs_at from to 0)
    unfolding runs_at
    fair =
        let n = files.0 in
        let f = are_files lf lt in
        let l = list_laws masks caption registers_end from to f in
        rw n at (runs_fair masks caption registers_end from to f
        (λ u. false≢true (sym clear ∙ is_true _ (l.test.1 u))))

    inside : registers_end ≤ length to
    inside = let n = files.1 in omega arith

    bytes_are : run_bytes (runs_at from to 0) ≡ bus_bytes (list_for from to)
    bytes_are = rw list_is (run_bytes_lem caption registers_end to inside (runs_at from to 0) fair)

    bursts_are : length (runs_at from to 0) ≡ length (list_for from to)
    bursts_are = rw list_is (sym (length-map (runs_at from to 0) (burst_of to)))

    spelled_are : spelled to (headings (runs_at from to 0)) ≡ encoded (list_for from to)
    spelled_are = rw list_is (spelled_list caption registers_end to inside (runs_at from to 0) fair)

  -- what was found, in terms of the list
  found_list : ((i : ℕ) → get_or from i 0 < 256) → ((i : ℕ) → get_or to i 0 < 256)
      → (bytes : ℕ) (hs : List Heading) → RunsFound from to (told_found (Some bytes) hs) (heading_bytes hs)
      → FoundList from to bytes hs
  found_list lf lt bytes hs g =
      let clear : stuck masks caption from to ≡ false = sym stuck_is ∙ sym g.stuck in
      let h : heading_bytes hs ≡ headings (runs_at from to 0) = sym (all_taken hs) ∙ g.listed refl in
      record {
        clear = clear;
        bytes_are = g.bytes refl ∙ bytes_are lf lt clear;
        bursts_are = g.bursts refl ∙ bursts_are lf lt clear;
        fit = rw h (heads_fit caption registers_end to (inside lf lt clear) (runs_at from to 0)
            (fair lf lt clear));
        spells = rw h (spelled_are lf lt clear);
      }

-- what the code knows of two slices: whether they are lent as files, and whether runs were found
module _ (from to : List ℕ) (lent : Option Lent) (whether : IsSome lent ↔ AreFiles from to) where
  pub no_files : lent ≡ None → AreFiles from to → ⊥
  no_files e f = let w = rw e at whether in absurd (false≢true (w.1 f))

  module _ (files : Lent) (e : lent ≡ Some files)
      (same : IfSome lent (λ (f : Lent). (f.from.now ≡ from) × (f.to.now ≡ to)))
      (answer : Option ℕ) (hs : List Heading)
      (g : RunsFound files.from.now files.to.now (told_found answer hs) (heading_bytes hs)) where
    pub lent_files : AreFiles from to
    lent_files = let w = rw e at whether in w.0 refl

    lent_as : (files.from.now ≡ from) × (files.to.now ≡ to)
    lent_as = rw e at same

    found_of : RunsFound from to (told_found answer hs) (heading_bytes hs)
    found_of = rw (lent_as.0, lent_as.1) at g

    pub no_runs : answer ≡ None → stuck masks caption from to ≡ true
    no_runs n = let h = rw n at found_of in sym (stuck_is from to lent_files) ∙ sym h.stuck

    pub some_runs : (bytes : ℕ) → answer ≡ Some bytes → FoundList from to bytes hs
    some_runs bytes s =
        found_list from to lent_files (rw lent_as.0 at files.from_file.bytes) (rw lent_as.1 at files.to_file.bytes)
        bytes hs (rw s at found_of)

-- stored from the front on, a list stands before what is left of the buffer
pub stored_are : (bs : List Burst) (before : List ℕ) → bus_bytes bs ≤ length before
    → sets before 0 (encoded bs) ≡ encoded bs ++ drop (bus_bytes bs) before
stored_are bs before l =
    let e = encoded_long bs in
    sets_front (encoded bs) before (omega arith) ∙ rw e
