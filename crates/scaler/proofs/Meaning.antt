-- What the answer to a request means, from its definition.
-- Assumes nothing.
use mathlib.Core.Bool.{false, not, cond}
use mathlib.Core.List.{map}
use mathlib.Core.Logic.{◌↔◌, inl}
use mathlib.Core.Path.{◌≡◌, refl, sym, ap, ◌∙◌}
use Prim.Native.Nat.{ℕ, zero, suc, ◌-◌}
use native.Mathlib.Omega.{arith}
use borrow.Author.Tests.{le-ltb, ne_eqb, not-false}
use lib.Dec.{eqb, eqb-suc-zero}
use lib.IntN.{pos}
use lib.ListN.{replicate}
use Rattle.bits.proofs.Tests.{or_in, is_false}
use Rattle.pieces.specs.Piece.{width}
use Rattle.chip.specs.Fields.{picture_fields}
use Rattle.reply.specs.Reply.{applies}
use Rattle.scaler.specs.Acceptable.{Acceptable}
use Rattle.scaler.specs.Answer.{numbers_of, fields_of, values_of, no_fields, Checked, refusal, checked}
use Rattle.scaler.specs.Limits.{lines_for, num_for, den_for, output_holds, numbers_pass, request_tests}
use Rattle.scaler.specs.Limits.{request_reply}
use Rattle.scaler.specs.Meaning.{AnswersMean}
use Rattle.scaler.specs.Numbers.{yinc_of, yofse_of}
use Rattle.scaler.specs.declared.request.Fields.{Fields}
use Rattle.scaler.specs.declared.request.Request.{Request}
use Rattle.scaler.proofs.Bounds.{all_fit}
use Rattle.scaler.proofs.Fits.{below_pos, not_over, weights_iff, fits_at, fits_natural}
use Rattle.scaler.proofs.Kept.{number_facts, clock_fact, source_passes, output_passes, clock_passes_lem}
use Rattle.scaler.proofs.Kept.{request_lowest, Passed, passed, unrefused, source_facts, output_facts}
use Rattle.scaler.proofs.Weights.{never_weights}
use Rattle.scaler.proofs.Windows.{hlen_is}

-- ---- the reply

reply_or_0 : (r : ℕ) (f : Fields)
    → (cond {A = Checked} (eqb r 0) (record { reply = 0; fields = f }) (refusal r)).reply ≡ r
unfolding refusal
reply_or_0 zero f = refl
reply_or_0 (suc r) f = rw (eqb-suc-zero r)

pub reply_is : (q : Request) → (checked q).reply ≡ request_reply q
unfolding checked
reply_is q = reply_or_0 (request_reply q) (fields_of q)

pub fields_are : (q : Request) → request_reply q ≡ 0 → (checked q).fields ≡ fields_of q
unfolding checked
fields_are q e = rw e

-- what code tells by the record
pub told_fields : (q : Request) (f : Fields) → record { reply = 0; fields = f } ≡ checked q
    → (request_reply q ≡ 0) × (f ≡ fields_of q)
told_fields q f e =
    let r = sym (reply_is q) ∙ sym (ap (λ x. x.reply) e) in (r, ap (λ x. x.fields) e ∙ fields_are q r)

pub told_refusal : (q : Request) (n : ℕ) → refusal n ≡ checked q → request_reply q ≡ n
unfolding refusal
told_refusal q n e = sym (reply_is q) ∙ sym (ap (λ x. x.reply) e)

-- ---- accepted, and acceptable

acceptable : (q : Request) → Passed q → Acceptable q
acceptable q p =
    record {
      source = source_facts q p.source;
      output = output_facts q p.output;
      clock = clock_fact q.standard q.inppl (lines_for q) p.clock;
      fit = all_fit q p;
    }

-- each number is taken out by its place in the table
all_passed : (q : Request) → Acceptable q → Passed q
unfolding numbers_pass picture_fields numbers_of width
all_passed q a =
    let nth = fits_at picture_fields (numbers_of q) a.fit in
    let s = a.source in
    let hlen = rw (hlen_is q.inppl (omega arith)) at (nth 11) in
    record {
      source = source_passes q a.source;
      output = output_passes q a.output;
      numbers = rw (
        not_over 1023 q.xofs.0 (nth 6),
        not_over 1023 q.yofso (nth 8),
        not_over 1023 (yofse_of (num_for q) (den_for q) q.yskip q.yofso) (nth 9),
        le-ltb 2048 q.inppl (omega (arith, (below_pos 2048 (q.inppl - 1)).0 hlen)),
        not_over 4095 q.yskip (nth 16),
        not_over 4095 (yinc_of (num_for q) (den_for q)) (nth 13),
      );
      clock = clock_passes_lem q.standard q.inppl (lines_for q) a.clock;
      weights = (weights_iff (num_for q) (den_for q) q.yskip).1 (nth 14, nth 15);
    }

exactly : (q : Request) → ((checked q).reply ≡ 0) ↔ Acceptable q
exactly q =
    (λ e. acceptable q (passed q (sym (reply_is q) ∙ e)), λ a. reply_is q ∙ unrefused q (all_passed q a))

numbers : (q : Request) → (checked q).reply ≡ 0 → map pos (values_of (checked q).fields) ≡ numbers_of q
unfolding checked fields_of values_of numbers_of
numbers q e = rw (sym (reply_is q) ∙ e) (fits_natural picture_fields (numbers_of q) ((exactly q).0 e).fit)

zeros : (q : Request) → ((checked q).reply ≡ 0 → ⊥) → values_of (checked q).fields ≡ replicate 17 0
unfolding checked refusal no_fields values_of
zeros q n = rw (ne_eqb (request_reply q) 0 (λ e. n (reply_is q ∙ e)))

-- ---- number 8

never : (q : Request) → request_reply q ≡ 8 → ⊥
unfolding request_reply request_tests applies
never q e =
    let lower = (request_lowest q).least in
    let b = not (output_holds q) in
    let d = numbers_pass q in
    let o = output_facts q (not-false (output_holds q)
    (is_false b (λ u. let l = lower 5 (or_in b false (inl u)) in omega arith))) in
    let n = number_facts q (is_false d (λ u. let l = lower 6 (or_in d false (inl u)) in omega arith)) in
    let w = never_weights q.outlin q.inlin q.yskip o.outlin_quarter n.yskip_le n.yinc_le in
    rw (e, w) at ((request_lowest q).given (λ z. omega arith))

pub answers_mean : AnswersMean
unfolding request_reply
answers_mean q =
    record {
      exactly = exactly q;
      numbers = numbers q;
      reply = reply_is q;
      least = request_lowest q;
      zeros = zeros q;
      never = λ e. never q (sym (reply_is q) ∙ e);
    }
