-- `changes::Files::skip_eights` meets its contract: the eights that were passed are unchanged.
-- Assumes nothing.
use mathlib.Core.Bool.{true}
use mathlib.Core.Path.{◌≡◌, sym, ◌∙◌}
use native.Mathlib.Omega.{arith}
use Rattle.changes.proofs.Places.{pass_eight}
use Rattle.changes.proofs.Files.skip_eights.Goals as goal

pub loop-q-preserved : goal.loop-q-preserved
loop-q-preserved c =
    let same : c.same_eight.result ≡ true = cc in
    pass_eight _ _ _ _ c.loop-q.invariant (omega arith) (sym c.same_eight.ensures ∙ same)
