-- `thymeflask::pictures::lent_check` meets its contract: a refusal leaves the fields.
-- Assumes nothing.
use mathlib.Core.Path.{ap}
use borrow.Author.Tests.{eq-eqb, ne_eqb}
use Rattle.std.proofs.lemmas.Result.{err_from_is_err_and}
use Rattle.reply.proofs.Refusals.{not_done}
use Rattle.scaler.specs.Answer.{Checked, refusal}
use Rattle.thymeflask.specs.Pictures.{check_reply, check_after}
use Rattle.thymeflask.proofs.pictures.lent_check.Goals as goal

pub returns-in_err-numbers-clause-reply : goal.returns-in_err-numbers-clause-reply
unfolding check_reply refusal
returns-in_err-numbers-clause-reply c =
    let p = err_from_is_err_and c.from_residual.result c.from_residual.ensures.1 in
    let e = ap (λ (answer : Checked). answer.reply) (rw c.request_of.ensures at c.in_err-numbers.ensures) in
    rw (
      p.1,
      p.2,
      eq-eqb _ 18 c.if-request-ne-REQUEST_LENGTH.false,
      eq-eqb _ 68 c.if-fields-ne-FIELDS_LENGTH.false,
    )
    e

pub returns-in_err-numbers-clause-left : goal.returns-in_err-numbers-clause-left
unfolding check_reply check_after refusal
returns-in_err-numbers-clause-left c =
    let e = ap (λ (answer : Checked). answer.reply) (rw c.request_of.ensures at c.in_err-numbers.ensures) in
    rw (
      eq-eqb _ 18 c.if-request-ne-REQUEST_LENGTH.false,
      eq-eqb _ 68 c.if-fields-ne-FIELDS_LENGTH.false,
      ← e,
      ne_eqb _ 0 (not_done c.in_err-numbers.field-0.0),
    )
