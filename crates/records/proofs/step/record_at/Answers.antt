-- `records::step::record_at` meets its contract: each test says which case of `record_at` holds.
-- Assumes nothing.
use Rattle.std.proofs.Common.{sym, ap, ◌∙◌, ◌+◌, arith, length-drop}
use Rattle.records.specs.Records.{body_length}
use Rattle.records.proofs.Bodies.{kind_known}
use Rattle.records.proofs.Steps.{known_whole, unknown_not_whole, short_not_whole}
use Rattle.records.proofs.Steps.{at_end, at_record, at_broken}
use Rattle.records.proofs.step.record_at.Goals as goal

pub returns-then-session-at : goal.returns-then-session-at
returns-then-session-at c = sym (at_end _ _ c.if-session-at.true)

pub returns-in_default : goal.returns-in_default
returns-in_default c = sym (at_broken _ _ c.if-session-at.false (unknown_not_whole _ _ (c.in_default.ensures).1))

pub returns-then-session-body : goal.returns-then-session-body
returns-then-session-body c = let e = c.body_length-length.ensures ∙ ap body_length c.in-Ok.ensures in
    let d = length-drop (c.args.at + 1) c.args.session.now in
    let t = c.if-session-body.true in
    sym (at_broken _ _ c.if-session-at.false (short_not_whole _ _ (omega arith)))

pub returns : goal.returns
returns c = let e = c.body_length-length.ensures in
    let k = kind_known c.in-Ok.kind in
    let b = ap body_length c.in-Ok.ensures in
    let d = length-drop (c.args.at + 1) c.args.session.now in
    let l = c.if-session-body.false in
    rw (e, c.in-Ok.ensures)
    (sym (at_record _ _ c.if-session-at.false (known_whole _ _ (omega arith) (omega arith))))
