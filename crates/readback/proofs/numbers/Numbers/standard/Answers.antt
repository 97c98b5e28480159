-- `readback::numbers::Numbers::standard` meets its contract: FISE has one bit.
-- Assumes nothing.
use native.Mathlib.Omega.{arith}
use Rattle.readback.proofs.Widths.{widths}
use Rattle.readback.proofs.numbers.Numbers.standard.Goals as goal

pub overflow_sub-result : goal.overflow_sub-result
overflow_sub-result c = let w = widths c.args.self.now.values c.args.self.now.fit in omega arith
