-- `runs::find::run_from` meets its contract: the run is open at every turn.
-- Assumes nothing.
use Prim.Native.Nat.{◌-◌}
use Rattle.runs.proofs.Opening.{Open}
use Rattle.runs.proofs.find.run_from.Given as goal

abbrev pub invariant-loop-next : goal.invariant-loop-next
invariant-loop-next l = Open l.files.from.now l.files.to.now l.start l.end l.next

abbrev pub decreases-loop-next : goal.decreases-loop-next
decreases-loop-next l = 256 - l.next
