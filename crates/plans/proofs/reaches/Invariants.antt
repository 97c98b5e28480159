-- `plans::reaches` meets its contract: what is left of the list gets shorter with each burst.
-- Assumes nothing.
use lib.ListN.{length}
use Rattle.plans.proofs.reaches.Given as goal

abbrev pub decreases-loop-rest : goal.decreases-loop-rest
decreases-loop-rest g l = length l.rest
