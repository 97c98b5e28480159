-- `readback::numbers::Numbers::outlin` meets its contract: LAL has nine bits.
-- Assumes nothing.
use native.Mathlib.Omega.{arith}
use Rattle.readback.proofs.Widths.{widths}
use Rattle.readback.proofs.numbers.Numbers.outlin.Goals as goal

pub overflow_cast-result : goal.overflow_cast-result
overflow_cast-result c =
    let w = widths c.args.self.now.values c.args.self.now.fit in omega (arith, c.saturating_sub.ensures)
