-- `checks::check` meets its contract: a refusal is that of the step that gives it, and the last step
-- gives the numbers.
-- Assumes nothing.
use mathlib.Core.Path.{◌≡◌, sym, ◌∙◌}
use borrow.Author.Tests.{ne_eqb}
use Rattle.std.proofs.lemmas.Result.{err_from_is_err_and}
use Rattle.reply.specs.Refusals.{number_of}
use Rattle.reply.specs.declared.Refusal.{Refusal}
use Rattle.reply.proofs.Refusals.{not_done}
use Rattle.scaler.specs.Answer.{refusal, checked}
use Rattle.scaler.specs.Limits.{request_reply}
use Rattle.limits.specs.Replies.{limits_reply}
use Rattle.scaler.specs.declared.request.Request.{Request}
use Rattle.limits.proofs.Replies.{by_limits, scaled_reply}
use Rattle.checks.proofs.check.Goals as goal

refused : (q : Request) (r : Refusal) → number_of r ≡ request_reply q → refusal (number_of r) ≡ checked q
unfolding checked
refused q r e = rw (sym e, ne_eqb (number_of r) 0 (not_done r))

pub returns-in_err-limits_reply : goal.returns-in_err-limits_reply
returns-in_err-limits_reply c =
    let q = c.args.request in
    let p = err_from_is_err_and c.from_residual.result c.from_residual.ensures.1 in
    let r = c.in_err-limits_reply.field-0.0 in
    let e : number_of r ≡ limits_reply q = c.in_err-limits_reply.ensures in
    rw (p.1, p.2) (refused q r (e ∙ sym (by_limits q (λ z. not_done r (e ∙ z)))))

pub returns-in_err-answer : goal.returns-in_err-answer
returns-in_err-answer c =
    let q = c.args.request in
    let f = c.from_residual-in_err-answer in
    let p = err_from_is_err_and f.result f.ensures.1 in
    let e = scaled_reply q _ c.scale-answer.ensures.told (sym c.in_ok-limits_reply.ensures) in
    rw (p.1, p.2) (refused q c.in_err-answer.field-0.0 (rw c.in_err-answer.was at e))

pub numbers-requires : goal.numbers-requires
numbers-requires c =
    let s = c.scale-answer.ensures in
    rw (s.of, ← scaled_reply c.args.request _ s.told (sym c.in_ok-limits_reply.ensures), c.in_ok-answer.was)

pub returns : goal.returns
unfolding checked
returns c =
    let s = c.scale-answer.ensures in
    let e = scaled_reply c.args.request _ s.told (sym c.in_ok-limits_reply.ensures) in
    rw (sym e, c.numbers.ensures, s.of, c.in_ok-answer.was)
