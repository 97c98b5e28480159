-- `thymeflask::pictures::lent_read` meets its contract: a refusal leaves the request.
-- Assumes nothing.
use mathlib.Core.Path.{ap}
use borrow.Author.Tests.{eq-eqb, ne_eqb}
use Rattle.std.proofs.lemmas.Result.{err_from_is_err_and}
use Rattle.reply.proofs.Refusals.{not_done}
use Rattle.readback.specs.Reading.{Found, not_found}
use Rattle.thymeflask.specs.Pictures.{read_reply, read_after}
use Rattle.thymeflask.proofs.pictures.lent_read.Goals as goal

pub returns-in_err-wanted-clause-reply : goal.returns-in_err-wanted-clause-reply
unfolding read_reply not_found
returns-in_err-wanted-clause-reply c =
    let p = err_from_is_err_and c.from_residual.result c.from_residual.ensures.1 in
    let e = ap (λ (found : Found). found.reply) c.in_err-wanted.ensures in
    rw (p.1, p.2, eq-eqb _ 18 c.if-request-ne-REQUEST_LENGTH.false) e

pub returns-in_err-wanted-clause-left : goal.returns-in_err-wanted-clause-left
unfolding read_reply read_after not_found
returns-in_err-wanted-clause-left c =
    let e = ap (λ (found : Found). found.reply) c.in_err-wanted.ensures in
    let r = c.in_err-wanted.field-0.0 in
    rw (eq-eqb _ 18 c.if-request-ne-REQUEST_LENGTH.false, ← e, ne_eqb _ 0 (not_done r))
