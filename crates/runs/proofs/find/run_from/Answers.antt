-- `runs::find::run_from` meets its contract: the run is open at every turn.
-- Assumes nothing.
use mathlib.Core.Path.{sym, ◌∙◌}
use native.Mathlib.Omega.{arith}
use Rattle.runs.proofs.Opening.{open_first, open_more, closed}
use Rattle.runs.proofs.find.run_from.Goals as goal

pub loop-next-init : goal.loop-next-init
loop-next-init c = let f = c.args.files in
    open_first _ _ f.from_file.bytes f.to_file.bytes c.requires.free _ _ c.requires.low c.requires.differs
    c.next_change-next.ensures

pub returns-then-not-goes_on : goal.returns-then-not-goes_on
returns-then-not-goes_on c = let f = c.args.files in
    closed _ _ f.from_file.bytes f.to_file.bytes c.requires.free _ _ _ c.loop-next.invariant
    (λ l. sym c.goes_on.ensures ∙ c.if-not-goes_on.true)

pub loop-next-preserved : goal.loop-next-preserved
loop-next-preserved c = let f = c.args.files in
    open_more _ _ f.from_file.bytes f.to_file.bytes c.requires.free _ _ _ _ c.loop-next.invariant
    c.loop-next-test.true (sym c.goes_on.ensures ∙ c.if-not-goes_on.false)
    c.next_change-next-in-loop-next.ensures

pub returns : goal.returns
returns c = let f = c.args.files in
    closed _ _ f.from_file.bytes f.to_file.bytes c.requires.free _ _ _ c.loop-next.invariant
    (λ l. absurd (omega arith))
