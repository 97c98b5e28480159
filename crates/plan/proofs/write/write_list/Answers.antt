-- `plan::write::write_list` meets its contract: what is left of the headings gives the whole.
-- Assumes nothing.
use mathlib.Core.Path.{◌≡◌}
use Prim.Native.Nat.{◌+◌, ◌-◌}
use native.Mathlib.Omega.{arith}
use lib.ListN.{length-set, length-take, length-drop}
use Rattle.plan.proofs.Spelling.{write_all, fits_file, fits_out, write_more}
use Rattle.plan.proofs.write.write_list.Goals as goal

pub bounds-out-at : goal.bounds-out-at
bounds-out-at c = let r = fits_out _ _ _ _ _ _ c.loop-heading.invariant c.loop-heading-test.true in omega arith

pub bounds-out-at-in-loop-heading : goal.bounds-out-at-in-loop-heading
bounds-out-at-in-loop-heading c =
    let r = fits_out _ _ _ _ _ _ c.loop-heading.invariant c.loop-heading-test.true in simp length-set (omega arith)

pub slice_bounds-store_run-end : goal.slice_bounds-store_run-end
slice_bounds-store_run-end c =
    let r = fits_file _ _ _ _ _ _ c.loop-heading.invariant c.loop-heading-test.true in omega arith

pub store_run-requires : goal.store_run-requires
store_run-requires c =
    let r = fits_file _ _ _ _ _ _ c.loop-heading.invariant c.loop-heading-test.true in
    let s = fits_out _ _ _ _ _ _ c.loop-heading.invariant c.loop-heading-test.true in
    simp (length-set, length-take, length-drop) (omega arith)

pub loop-heading-preserved : goal.loop-heading-preserved
loop-heading-preserved c = let start = c.from-start in
    let count = c.from-count in
    let z : start.result + count.result - start.result ≡ count.result = omega arith in
    rw (c.store_run.ensures, z, start.ensures, count.ensures)
    (write_more _ _ _ _ _ _ c.loop-heading.invariant c.loop-heading-test.true)

pub returns : goal.returns
returns c = write_all _ _ _ _ _ _ c.loop-heading.invariant (omega arith)
