-- `runs::fixed::any_fixed` meets its contract: the places passed so far, and those that are left.
-- Assumes nothing.
use mathlib.Core.Path.{◌≡◌}
use mathlib.Core.Bool.{◌||◌}
use Rattle.runs.specs.Found.{stuck_at}
use Rattle.runs.proofs.fixed.any_fixed.Given as goal

abbrev pub invariant-loop-p : goal.invariant-loop-p
invariant-loop-p l = stuck_at l.files.from.now l.files.to.now 0 ≡ (l.fixed || stuck_at l.files.from.now l.files.to.now l.p)
