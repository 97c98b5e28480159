-- `limits::scale::scale` meets its contract: L is asked of a request with OutLin, as the first step holds it above 0.
-- Assumes nothing.
use native.Mathlib.Omega.{arith}
use Rattle.scaler.proofs.Kept.{output_facts}
use Rattle.limits.proofs.Replies.{limits_output}
use Rattle.limits.proofs.scale.scale.Goals as goal

pub lines-lines-requires : goal.lines-lines-requires
lines-lines-requires c =
    rw c.new-scaled.ensures (omega (arith, (output_facts c.args.q (limits_output c.args.q c.requires)).outlin_ge))
