-- `steps::window::centred_line` meets its contract: each signed value fits 64 bits.
-- Assumes nothing.
use mathlib.Core.Path.{◌∙◌}
use borrow.Author.Rules.{rules}
use Rattle.scaler.proofs.Machine.{centred}
use Rattle.scaler.proofs.Windows.{by_pos}
use Rattle.steps.proofs.window.centred_line.Goals as goal

pub returns : goal.returns
returns c =
    let s = c.args.standard in
    rw (c.by_standard-top.ensures ∙ by_pos s 19 23, c.by_standard-full.ensures ∙ by_pos s 240 287)
    (centred s c.args.outlin (search rules)).is
