-- `changes::Files::next_change` meets its contract: the places that were passed are unchanged.
-- Assumes nothing.
use native.Mathlib.Omega.{arith}
use Rattle.changes.proofs.Places.{pass_none, pass_one, stop_at}
use Rattle.changes.proofs.Files.next_change.Goals as goal

pub returns-then-self-p : goal.returns-then-self-p
returns-then-self-p c = stop_at _ _ _ _ (pass_none _ _ _ (omega arith)) c.if-self-p.true

pub returns-then-self-q : goal.returns-then-self-q
returns-then-self-q c = stop_at _ _ _ _ c.loop-q.invariant c.if-self-q.true

pub loop-q-preserved : goal.loop-q-preserved
loop-q-preserved c = pass_one _ _ _ _ c.loop-q.invariant (omega arith) c.if-self-q.false
