-- `picture::write::write_picture` meets its contract: a refusal leaves the file; else the numbers are put
-- into it.
-- Assumes nothing.
use mathlib.Core.Path.{◌≡◌, sym, ◌∙◌}
use native.Mathlib.Omega.{arith}
use Prim.Native.Nat.{ℕ}
use mathlib.Core.List.{List}
use Rattle.std.proofs.lemmas.Result.{err_from_is_err_and}
use Rattle.reply.specs.Refusals.{number_of}
use Rattle.reply.specs.declared.Refusal.{Refusal}
use Rattle.reply.proofs.Refusals.{not_done}
use Rattle.scaler.specs.declared.request.Request.{Request}
use Rattle.scaler.proofs.Meaning.{told_fields, told_refusal}
use Rattle.picture.specs.Writing.{write_reply, written, file_after}
use Rattle.picture.proofs.Accepted.{write_short, write_long, after_refused, after_done}
use Rattle.picture.proofs.write.write_picture.Goals as goal

-- a refusal leaves the file
refused : (file : List ℕ) (q : Request) (r : Refusal) → write_reply file q ≡ number_of r
    → (number_of r ≡ write_reply file q) × (file ≡ file_after file q)
refused file q r e = (sym e, sym (after_refused file q (λ z. not_done r (sym e ∙ z))))

pub returns-in_default : goal.returns-in_default
returns-in_default c =
    let a = c.args in
    let e = write_short a.file.now a.request c.in_default.ensures.cases in
    (sym e, sym (after_refused a.file.now a.request (λ z. omega arith)))

pub returns-in_err-check : goal.returns-in_err-check
returns-in_err-check c =
    let a = c.args in
    let p = err_from_is_err_and c.from_residual.result c.from_residual.ensures.1 in
    let l = c.in-Some.ensures.cases in
    let e = write_long a.file.now a.request l.long ∙ told_refusal a.request _ c.in_err-check.ensures in
    rw (p.1, p.2, l.same) (refused a.file.now a.request c.in_err-check.field-0.0 e)

pub returns : goal.returns
unfolding written
returns c =
    let a = c.args in
    let l = c.in-Some.ensures.cases in
    let k = told_fields a.request c.in_ok-check.field-0 c.in_ok-check.ensures in
    let e = write_long a.file.now a.request l.long ∙ k.0 in (
      sym e,
      rw (after_done a.file.now a.request e, c.put_values.ensures, c.into-values.ensures, k.1, l.same),
    )
