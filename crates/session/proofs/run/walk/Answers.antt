-- `session::run::walk` meets its contract: what is left of the session gives the whole.
-- Assumes nothing.
use Rattle.std.proofs.Common.{◌∙◌, ap, ◌+◌, sym, arith}
use Rattle.records.proofs.Steps.{record_tells, broken_tells, end_tells}
use Rattle.session.proofs.Playing.{body_there, part_room, part_stored, text_fits, play_more, word_fits}
use Rattle.session.proofs.Playing.{last_state, last_count, last_printed, all_state, all_printed, all_count}
use Rattle.session.proofs.run.walk.Goals as goal

pub slice_bounds-whole-count : goal.slice_bounds-whole-count
slice_bounds-whole-count c = let t = (record_tells _ _ _ _ _ (sym c.in-Record.ensures)).is_next in omega arith

pub slice_bounds-whole-start : goal.slice_bounds-whole-start
slice_bounds-whole-start c = let t = (record_tells _ _ _ _ _ (sym c.in-Record.ensures)).is_next in omega arith

pub slice_bounds-whole-end : goal.slice_bounds-whole-end
slice_bounds-whole-end c = (record_tells _ _ _ _ _ (sym c.in-Record.ensures)).fits

pub invariant_of-whole : goal.invariant_of-whole
invariant_of-whole c = record { long = (body_there _ _ _ _ _ (record_tells _ _ _ _ _ (sym c.in-Record.ensures))).long }

pub print_record-bytes-requires : goal.print_record-bytes-requires
print_record-bytes-requires c = let t = record_tells _ _ _ _ _ (sym c.in-Record.ensures) in
    let d = c.do_record-answer.ensures in
    (part_room _ _ _ (text_fits _ _ _ _ _ _ _ c.loop-kind.invariant _ _ _ t _ _ (sym (d.outcome_is _ _ _))), d.digit)

pub overflow_add-bytes : goal.overflow_add-bytes
overflow_add-bytes c = let t = record_tells _ _ _ _ _ (sym c.in-Record.ensures) in
    let d = c.do_record-answer.ensures in
    let f = text_fits _ _ _ _ _ _ _ c.loop-kind.invariant _ _ _ t _ _ (sym (d.outcome_is _ _ _)) in
    omega (arith, f, c.print_record-bytes.ensures.1)

pub loop-kind-smaller : goal.loop-kind-smaller
loop-kind-smaller c = let t = record_tells _ _ _ _ _ (sym c.in-Record.ensures) in
    let n = t.is_next in
    let b = t.is_body in
    let f = t.fits in
    omega arith

pub loop-kind-preserved : goal.loop-kind-preserved
loop-kind-preserved c = let t = record_tells _ _ _ _ _ (sym c.in-Record.ensures) in
    let o = sym (c.do_record-answer.ensures.outcome_is _ _ _) in
    let i = c.loop-kind.invariant in
    let p = c.print_record-bytes.ensures in
    rw (p.0, p.1, part_stored _ _ _ (text_fits _ _ _ _ _ _ _ i _ _ _ t _ _ o))
    (play_more _ _ _ _ _ _ _ i _ _ _ t _ _ o)

pub put_line-bytes-requires : goal.put_line-bytes-requires
put_line-bytes-requires c = let e = c.from-reply.ensures in
    let t = broken_tells _ _ _ (sym c.in-Broken.ensures) in
    (rw e (part_room _ _ _ (word_fits _ _ _ _ _ _ _ c.loop-kind.invariant _ t)), omega arith)

pub overflow_add-bytes-in-Broken : goal.overflow_add-bytes-in-Broken
overflow_add-bytes-in-Broken c = let e = c.from-reply.ensures in
    let t = broken_tells _ _ _ (sym c.in-Broken.ensures) in
    let f = word_fits _ _ _ _ _ _ _ c.loop-kind.invariant _ t in
    let n = rw e at c.put_line-bytes.ensures.1 in
    omega (arith, f, n)

pub returns-in-Broken-clause-state : goal.returns-in-Broken-clause-state
returns-in-Broken-clause-state c = let t = broken_tells _ _ _ (sym c.in-Broken.ensures) in
    last_state _ _ _ _ _ _ _ c.loop-kind.invariant _ t

pub returns-in-Broken-clause-bytes : goal.returns-in-Broken-clause-bytes
returns-in-Broken-clause-bytes c = let t = broken_tells _ _ _ (sym c.in-Broken.ensures) in
    ap (λ n. c.loop-kind.bytes + n) c.put_line-bytes.ensures.1
    ∙ rw c.from-reply.ensures (last_count _ _ _ _ _ _ _ c.loop-kind.invariant _ t)

pub returns-in-Broken-clause-out : goal.returns-in-Broken-clause-out
returns-in-Broken-clause-out c = let t = broken_tells _ _ _ (sym c.in-Broken.ensures) in
    let i = c.loop-kind.invariant in
    rw (c.put_line-bytes.ensures.0, c.from-reply.ensures, part_stored _ _ _ (word_fits _ _ _ _ _ _ _ i _ t))
    (last_printed _ _ _ _ _ _ _ i _ t)

pub returns-in-End-clause-state : goal.returns-in-End-clause-state
returns-in-End-clause-state c = all_state _ _ _ _ _ _ _ c.loop-kind.invariant (end_tells _ _ (sym c.in-End.ensures))

pub returns-in-End-clause-bytes : goal.returns-in-End-clause-bytes
returns-in-End-clause-bytes c = all_count _ _ _ _ _ _ _ c.loop-kind.invariant (end_tells _ _ (sym c.in-End.ensures))

pub returns-in-End-clause-out : goal.returns-in-End-clause-out
returns-in-End-clause-out c = all_printed _ _ _ _ _ _ _ c.loop-kind.invariant (end_tells _ _ (sym c.in-End.ensures))
