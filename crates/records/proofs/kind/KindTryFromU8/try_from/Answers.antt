-- `Kind::try_from` meets its contract: a byte that stands for no kind has no body.
-- Assumes nothing.
use Rattle.std.proofs.Common.{arith, sym, refl}
use Rattle.records.proofs.Steps.{unknown}
use Rattle.records.proofs.kind.KindTryFromU8.try_from.Goals as goal

pub returns-in_default : goal.returns-in_default
returns-in_default c = (refl, sym (unknown _ (omega arith) (omega arith) (omega arith) (omega arith) (omega arith)))
