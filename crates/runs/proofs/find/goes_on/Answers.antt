-- `runs::find::goes_on` meets its contract: no gap, a gap that is too wide, and one of one place or two.
-- Assumes nothing.
use mathlib.Core.Path.{sym}
use native.Mathlib.Omega.{arith}
use Rattle.bursts.proofs.Bridges.{bridged_here}
use Rattle.chip.specs.File.{caption}
use Rattle.runs.proofs.Gaps.{wide_gap, narrow_gap}
use Rattle.runs.proofs.find.goes_on.Goals as goal

pub returns-then-next-end : goal.returns-then-next-end
returns-then-next-end c = rw c.if-next-end.true (sym (bridged_here caption _))

pub returns-then-end-next : goal.returns-then-end-next
returns-then-end-next c = sym (wide_gap caption _ _ (omega arith))

pub returns : goal.returns
returns c = rw (c.is_caption.ensures, c.is_caption-2.ensures)
    (sym (narrow_gap caption _ _ (omega arith) (omega arith)))
