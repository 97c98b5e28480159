-- `changes::Files::next_change` meets its contract: the places that were passed are unchanged.
-- Assumes nothing.
use Rattle.changes.specs.Places.{Unchanged}
use Rattle.changes.proofs.Files.next_change.Given as goal

abbrev pub invariant-loop-q : goal.invariant-loop-q
invariant-loop-q l = Unchanged l.self.from.now l.self.to.now l.p l.q
