-- `runs::fixed::any_fixed` meets its contract: the places passed so far, and those that are left.
-- Assumes nothing.
use mathlib.Core.Path.{sym, ◌∙◌}
use mathlib.Core.Bool.{or-false}
use native.Mathlib.Numerals.{add-one}
use native.Mathlib.Omega.{arith}
use Rattle.runs.proofs.Opening.{none_stuck}
use Rattle.runs.proofs.Stuck.{captions_stuck, stuck_more}
use Rattle.runs.proofs.fixed.any_fixed.Goals as goal

pub returns-then-not-same_four : goal.returns-then-not-same_four
returns-then-not-same_four c = sym (captions_stuck _ _ (sym c.same_four.ensures ∙ c.if-not-same_four.true))

pub loop-p-preserved : goal.loop-p-preserved
loop-p-preserved c = let l = c.loop-p in
    let same = sym c.same_four.ensures ∙ c.if-not-same_four.false in
    rw (
      c.merge_byte.ensures,
      c.mask_table-table.ensures,
      add-one l.p,
    )
    (stuck_more _ _ same l.p l.fixed (c.args.files.to_file.bytes l.p) c.loop-p-test.true l.invariant)

pub returns : goal.returns
returns c = let l = c.loop-p in
    sym (l.invariant ∙ rw (none_stuck _ _ l.p (omega arith)) (or-false l.fixed))
