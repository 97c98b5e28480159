-- `bits::merge::merge_run` meets its contract: what is left of the run gives the whole, under the masks.
-- Assumes nothing.
use mathlib.Core.Path.{◌∙◌}
use borrow.Author.Rules.{rules}
use Rattle.bits.specs.Run.{merge_run}
use Rattle.bits.proofs.Runs.{turn_next, turn_last, masked, run_none, run_more}
use Rattle.bits.proofs.merge.merge_run.Goals as goal

pub loop-i-preserved : goal.loop-i-preserved
loop-i-preserved c = let l = c.loop-i in
    let a = c.args in
    let m = a.masks.now in (
      search rules,
      rw c.merge_byte.ensures
          (turn_next (merge_run m) (masked m) (run_none m) (run_more m) l.file a.at a.bytes.now
          l.i (search rules) ∙ l.invariant.1),
    )

pub returns : goal.returns
returns c = let l = c.loop-i in
    let a = c.args in
    let m = a.masks.now in
    turn_last (merge_run m) (masked m) (run_none m) (run_more m) l.file a.at a.bytes.now l.i
    (search rules) ∙ l.invariant.1
