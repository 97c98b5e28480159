-- `plan::write::write_list` meets its contract: what is left of the headings gives the whole.
-- Assumes nothing.
use Rattle.plan.proofs.Spelling.{Writing}
use Rattle.plan.proofs.write.write_list.Given as goal

abbrev pub invariant-loop-heading : goal.invariant-loop-heading
invariant-loop-heading l = Writing l.to l.headings l.initial.out l.out l.at l.heading-index
