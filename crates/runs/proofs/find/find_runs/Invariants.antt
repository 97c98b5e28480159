-- `runs::find::find_runs` meets its contract: the runs so far have their headings.
-- Assumes nothing.
use Prim.Native.Nat.{◌-◌}
use Rattle.runs.proofs.Finding.{Progress}
use Rattle.runs.proofs.find.find_runs.Given as goal

abbrev pub invariant-loop-start : goal.invariant-loop-start
invariant-loop-start l = Progress l.files.from.now l.files.to.now l.headings.items l.bytes l.start

abbrev pub decreases-loop-start : goal.decreases-loop-start
decreases-loop-start l = 256 - l.start
