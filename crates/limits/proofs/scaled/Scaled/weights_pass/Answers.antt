-- `limits::scaled::Scaled::weights_pass` meets its contract: a weight is below 0, or it is half of what is left.
-- Assumes nothing.
use mathlib.Core.Path.{sym}
use Rattle.scaler.specs.Limits.{num_for, den_for}
use Rattle.steps.specs.Parts.{vertical_of}
use Rattle.scaler.proofs.Steps.{den_pos, weights_below, weights_above}
use Rattle.limits.proofs.scaled.Scaled.weights_pass.Goals as goal

pub returns-then-self-yskip : goal.returns-then-self-yskip
unfolding vertical_of
returns-then-self-yskip c = let s = c.args.self.now in
    let l = rw s.vertical_is at c.if-self-yskip.true in
    sym (weights_below (num_for s.request) (den_for s.request) s.request.yskip (den_pos s.request.inlin) l)

pub returns : goal.returns
unfolding vertical_of
returns c = let s = c.args.self.now in
    let l = rw s.vertical_is at c.if-self-yskip.false in
    rw s.vertical_is
    (sym (weights_above (num_for s.request) (den_for s.request) s.request.yskip (den_pos s.request.inlin) l))
