-- `readback::numbers::Numbers::picture` meets its contract: the check of the request that the numbers tell, and
-- the comparison.
-- Assumes nothing.
use mathlib.Core.Path.{◌≡◌, sym, ◌∙◌}
use Rattle.std.proofs.Common.{Result, Ok, Err, Some, None}
use Rattle.std.specs.Result.{result_ok}
use Rattle.reply.specs.declared.Refusal.{Refusal}
use Rattle.reply.proofs.Refusals.{not_done}
use Rattle.scaler.specs.Answer.{fields_of, values_of, checked, told_check}
use Rattle.scaler.specs.Limits.{request_reply}
use Rattle.scaler.specs.declared.request.Fields.{Fields}
use Rattle.scaler.specs.declared.request.Request.{Request}
use Rattle.scaler.proofs.Meaning.{told_fields, told_refusal}
use Rattle.readback.specs.Reading.{request_in, same}
use Rattle.readback.proofs.Answers.{refused_9, other_9, found_0}
use Rattle.readback.proofs.Same.{same_is}
use Rattle.readback.proofs.numbers.Numbers.picture.Goals.{After-eq}
use Rattle.readback.proofs.numbers.Numbers.picture.Goals as goal

-- what the check told
none_accepted : (q : Request) (r : Result Fields Refusal) → told_check r ≡ checked q → None ≡ result_ok r
    → request_reply q ≡ 0 → ⊥
none_accepted q (Ok f) t e z = cc
none_accepted q (Err d) t e z = not_done d (sym (told_refusal q _ t) ∙ z)

some_accepted : (q : Request) (r : Result Fields Refusal) (f : Fields) → told_check r ≡ checked q
    → Some f ≡ result_ok r
    → (request_reply q ≡ 0) × (f ≡ fields_of q)
some_accepted q (Ok g) f t e =
    let k : f ≡ g = cc in
    let h = told_fields q g t in (h.0, k ∙ h.1)
some_accepted q (Err d) f t e = absurd (cc)

-- the request is accepted, and its numbers are compared
module _ (c : After-eq) where
  told : (request_reply c.in_ok-request.request ≡ 0) × (c.in_ok-fields.fields ≡ fields_of c.in_ok-request.request)
  told =
      some_accepted c.in_ok-request.request c.check.result c.in_ok-fields.fields c.check.ensures
      c.in_ok-fields.ensures.value

  accepted : request_reply (request_in c.args.self.now.values) ≡ 0
  accepted = rw c.in_ok-request.ensures at told.0

  compared : c.eq.result ≡ same c.args.self.now.values (values_of (fields_of (request_in c.args.self.now.values)))
  compared =
      c.eq.ensures
      ∙ rw (c.from.ensures, told.1, c.in_ok-request.ensures) (sym (same_is c.args.self.now.values _))

pub returns-in_err-request : goal.returns-in_err-request
returns-in_err-request c = rw c.from_residual.ensures (sym (refused_9 c.args.self.now.values c.in_err-request.ensures))

pub returns-in_err-fields : goal.returns-in_err-fields
returns-in_err-fields c =
    let q = c.in_ok-request.request in
    let n = none_accepted q c.check.result c.check.ensures c.in_err-fields.ensures.value in
    rw c.from_residual-in_err-fields.ensures
    (sym (refused_9 c.args.self.now.values (rw c.in_ok-request.ensures at n)))

pub returns-then-eq : goal.returns-then-eq
returns-then-eq c =
    let k = (goal.at.returns-then-eq c).After-eq in
    rw c.in_ok-request.ensures
    (sym (found_0 c.args.self.now.values (accepted k) (sym (compared k) ∙ c.if-eq.true)))

pub returns-else-eq : goal.returns-else-eq
returns-else-eq c =
    let k = (goal.at.returns-else-eq c).After-eq in
    sym (other_9 c.args.self.now.values (accepted k) (sym (compared k) ∙ c.if-eq.false))
