-- `changes::Files::skip_eights` meets its contract: the eights that were passed are unchanged.
-- Assumes nothing.
use Prim.Native.Nat.{◌-◌}
use Rattle.changes.specs.Places.{Unchanged}
use Rattle.changes.proofs.Files.skip_eights.Given as goal

abbrev pub invariant-loop-q : goal.invariant-loop-q
invariant-loop-q l = Unchanged l.self.from.now l.self.to.now l.p l.q

abbrev pub decreases-loop-q : goal.decreases-loop-q
decreases-loop-q l = 256 - l.q
