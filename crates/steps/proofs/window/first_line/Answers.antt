-- `steps::window::first_line` meets its contract: each signed value fits 64 bits, and the last is not
-- below 0.
-- Assumes nothing.
use borrow.Author.Rules.{rules}
use Rattle.bits.proofs.Tests.{is_true}
use Rattle.scaler.specs.Limits.{offset_holds}
use Rattle.scaler.proofs.Machine.{centred_small, Shifted, shifted_line}
use Rattle.steps.proofs.window.first_line.Goals.{After-centred_line}
use Rattle.steps.proofs.window.first_line.Goals as goal

-- every value on the way
known : (c : After-centred_line)
    → (let a = c.args in Shifted a.standard a.outlin a.offset c.centred_line.result)
known c =
    shifted_line c.args.standard c.args.outlin c.args.offset c.centred_line.result c.requires.0
    (is_true (offset_holds c.args.offset) c.requires.1) c.ranges.offset c.centred_line.ensures
    (rw c.centred_line.ensures (centred_small c.args.standard c.args.outlin (search rules)))

pub overflow_cast-line : goal.overflow_cast-line
overflow_cast-line c = (known c).offset_fits

pub overflow_add-line : goal.overflow_add-line
overflow_add-line c = (known c).line_fits

pub overflow_cast-result : goal.overflow_cast-result
overflow_cast-result c = ((known c).positive, record { fits = (known c).small })

pub returns : goal.returns
returns c = (known c).is
