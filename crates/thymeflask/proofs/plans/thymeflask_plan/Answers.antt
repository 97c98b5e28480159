-- `thymeflask::plans::thymeflask_plan` meets its contract: the three numbers of the answer share one.
-- Assumes nothing.
use native.Mathlib.Omega.{arith}
use Rattle.plan.specs.Plan.{refusal}
use Rattle.thymeflask.proofs.Packing.{number_small, packed_means}
use Rattle.thymeflask.proofs.plans.thymeflask_plan.Goals as goal

pub returns-in-Ok : goal.returns-in-Ok
returns-in-Ok c = packed_means _ _ _ _ _ _ c.in-Ok.ensures (omega arith) (omega arith)

pub returns-in-Err : goal.returns-in-Err
unfolding refusal
returns-in-Err c = packed_means _ _ _ _ _ _ c.in-Err.ensures (number_small c.in-Err.refusal) (omega arith)
