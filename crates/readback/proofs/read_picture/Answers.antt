-- `readback::read_picture` meets its contract: a file of another length is refused, and else its numbers decide.
-- Assumes nothing.
use mathlib.Core.Path.{◌≡◌, refl, sym, ap, ◌∙◌}
use Rattle.std.proofs.Common.{Option, Some, None}
use Rattle.std.specs.Option.{ok_or}
use Rattle.reply.specs.declared.Refusal.TheVariants.{NoPicture}
use Rattle.scaler.specs.declared.request.Request.{Request}
use Rattle.readback.specs.Reading.{answer_for, numbers_in}
use Rattle.readback.specs.Told.{told_read, told_picture}
use Rattle.readback.proofs.Answers.{short_1, by_numbers}
use Rattle.readback.proofs.read_picture.Goals as goal

told_is : (o : Option Request) → told_read (ok_or o NoPicture) ≡ told_picture o
told_is (Some q) = refl
told_is None = refl

pub returns-in_default : goal.returns-in_default
returns-in_default c = sym (short_1 c.args.file.now c.in_default.ensures.cases)

pub returns : goal.returns
returns c =
    let l = c.in-Some.ensures.cases in
    let n : c.in_file.result.values ≡ numbers_in c.args.file.now = c.in_file.ensures ∙ ap numbers_in l.same in
    rw c.ok_or.ensures.value
    (told_is c.picture.result ∙ c.picture.ensures ∙ ap answer_for n ∙ sym (by_numbers c.args.file.now l.long))
