-- `runs::find::find_runs` meets its contract: the runs so far have their headings.
-- Assumes nothing.
use mathlib.Core.Path.{sym, ◌∙◌}
use Rattle.runs.proofs.Finding.{found_first, unchanged_free, found_more, found_all}
use Rattle.runs.proofs.find.find_runs.Goals.{else-start-lt-FILE_LENGTH-via-then-start-lt-FILE_LENGTH+else-any_fixed, else-start-lt-FILE_LENGTH-via-else-start-lt-FILE_LENGTH}
use Rattle.runs.proofs.find.find_runs.Goals as goal

pub loop-start-init : goal.loop-start-init
loop-start-init c = let b = c.next_change-start.ensures in
    rw c.clear.ensures (found_first _ _ _ b
    (elim c.else-start-lt-FILE_LENGTH.branch [
      | else-start-lt-FILE_LENGTH-via-then-start-lt-FILE_LENGTH+else-any_fixed w ↦
          sym w.any_fixed.ensures ∙ w.if-any_fixed.false
      | else-start-lt-FILE_LENGTH-via-else-start-lt-FILE_LENGTH w ↦
          unchanged_free _ _ c.args.files.to_file.bytes _ b w.if-start-lt-FILE_LENGTH.false
    ]))

pub run_from-run-requires : goal.run_from-run-requires
run_from-run-requires c = let f = c.args.files in
    let g = c.loop-start.invariant in
    record {
      from_long = f.from_file.long;
      to_long = f.to_file.long;
      low = c.loop-start-test.true;
      differs = g.differs c.loop-start-test.true;
      free = g.free;
    }

pub loop-start-preserved : goal.loop-start-preserved
loop-start-preserved c = rw c.push.ensures.items (found_more _ _ _ _ _ c.loop-start.invariant _ c.run_from-run.ensures)

pub returns : goal.returns
returns c = found_all _ _ _ _ _ c.loop-start.invariant c.loop-start-test.false
