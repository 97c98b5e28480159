-- `readback::numbers::Numbers::offset` meets its contract: each signed value fits 64 bits.
-- Assumes nothing.
use Rattle.readback.specs.Reading.{fal_in}
use Rattle.readback.proofs.Offsets.{Difference, offset_of}
use Rattle.readback.proofs.numbers.Numbers.offset.Goals.{After-centred_line}
use Rattle.readback.proofs.numbers.Numbers.offset.Goals as goal

-- the line less the centred one
known : (c : After-centred_line) → Difference (fal_in c.args.self.now.values) c.centred_line.result
known c =
    rw (c.centred_line.ensures, c.outlin.ensures, c.standard.ensures)
    (offset_of c.args.self.now.values c.args.self.now.fit)

pub overflow_sub-result : goal.overflow_sub-result
overflow_sub-result c = (known c).fits

pub returns : goal.returns
returns c = rw ((known c).is, c.centred_line.ensures, c.outlin.ensures, c.standard.ensures)
