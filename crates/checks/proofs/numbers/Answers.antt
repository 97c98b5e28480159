-- `checks::numbers` meets its contract: the reply 0 says what each leaf asks and that every number
-- fits its type; the leaves say what each number is.
-- Assumes nothing.
use mathlib.Core.Bool.{cond}
use mathlib.Core.Path.{◌≡◌, ◌∙◌}
use Prim.Native.Nat.{ℕ, ◌-◌, ◌≤◌}
use native.Mathlib.Omega.{arith}
use lib.IntN.{pos}
use mir.Facts.{to_z-of_z}
use mir.Syntax.{w8}
use mir.Val.{of_z, to_z}
use Rattle.bits.proofs.Tests.{from_true}
use Rattle.scaler.specs.Acceptable.{SourceLimits, OutputLimits}
use Rattle.scaler.specs.Answer.{fields_of}
use Rattle.scaler.specs.Limits.{offset_holds, num_for, den_for, request_reply}
use Rattle.scaler.specs.Numbers.{by, adwhs_of, adwhe_of, fal_of, lal_of, pcl_of, yofse_of, reached}
use Rattle.steps.specs.Parts.{vertical_of}
use Rattle.scaler.proofs.Kept.{NumberFacts, number_facts}
use Rattle.scaler.proofs.Kept.{clock_fact, offset_holds_lem, passed, source_facts, output_facts}
use Rattle.scaler.proofs.Steps.{den_pos, Weights, weights_kept, weight_is, yofse_late}
use Rattle.scaler.proofs.Windows.{offset_small, at_both, by_le, first, fal_is, adwhs_is, hlen_is}
use Rattle.reply.specs.Reply.{done}
use Rattle.scaler.specs.declared.request.Request.{Request}
use Rattle.checks.proofs.numbers.Goals as goal

-- what the reply 0 says
module _ (q : Request) (ok : request_reply q ≡ done) where
  source : SourceLimits q
  source = source_facts q (passed q ok).source

  output : OutputLimits q
  output = output_facts q (passed q ok).output

  numbers : NumberFacts q
  numbers = number_facts q (passed q ok).numbers

  weights : Weights (num_for q) (den_for q) q.yskip (den_pos q.inlin)
  weights = weights_kept _ _ _ _ (passed q ok).weights

  -- so it reads back from them as itself
  offset_is : to_z w8 (of_z w8 q.offset) ≡ q.offset
  offset_is = to_z-of_z {w = w8} {z = q.offset} (record { sfits = offset_small q.offset (offset_holds_lem q output) })

  pixels : q.outpix ≤ 800
  pixels = omega (arith, output.outpix_in, source.inpix_le)

  clock_le : (r : ℕ) → pos r ≡ adwhs_of q.standard q.outpix → r ≤ 986
  clock_le r e =
      let b = by_le q.standard 966 986 986 (omega arith) (omega arith) in
      let k = e ∙ adwhs_is q.standard q.outpix output.outpix_le in
      let h : r ≡ by q.standard 966 986 - q.outpix = cc in
      omega arith

  line_le : (r : ℕ) → pos r ≡ fal_of q.standard q.outlin q.offset → r ≤ 182
  line_le r e =
      let a = by_le q.standard 19 23 23 (omega arith) (omega arith) in
      let b = by_le q.standard 240 287 287 (omega arith) (omega arith) in
      let m = first q.standard q.outlin q.offset output.outlin_le (offset_holds_lem q output) in
      let k = e ∙ fal_is q.standard q.outlin q.offset output.outlin_le (offset_holds_lem q output) in
      let h : r ≡ m.line = cc in
      omega arith

pub first_clock-adwhs-requires : goal.first_clock-adwhs-requires
first_clock-adwhs-requires c = (output c.args.scaled.now.request c.requires).outpix_le

pub first_line-fal-requires : goal.first_line-fal-requires
first_line-fal-requires c = rw (offset_is c.args.scaled.now.request c.requires)
    ((output c.args.scaled.now.request c.requires).outlin_le, from_true (offset_holds c.args.scaled.now.request.offset) (offset_holds_lem c.args.scaled.now.request (output c.args.scaled.now.request c.requires)))

pub lines-requires : goal.lines-requires
lines-requires c = omega (arith, (output c.args.scaled.now.request c.requires).outlin_ge)

pub pixel_step-pcl-requires : goal.pixel_step-pcl-requires
pixel_step-pcl-requires c = rw c.lines.ensures (clock_fact _ _ _ (passed c.args.scaled.now.request c.requires).clock)

pub pixel_ratio-xinc-requires : goal.pixel_ratio-xinc-requires
pixel_ratio-xinc-requires c = (omega (arith, (source c.args.scaled.now.request c.requires).inpix_ge), (output c.args.scaled.now.request c.requires).outpix_in)

pub overflow_sub-yiwgte : goal.overflow_sub-yiwgte
unfolding vertical_of
overflow_sub-yiwgte c = rw c.args.scaled.now.vertical_is (weights c.args.scaled.now.request c.requires).reaches

pub overflow_mul-result : goal.overflow_mul-result
overflow_mul-result c = omega (
  arith,
  pixels c.args.scaled.now.request c.requires,
)

pub overflow_add-result : goal.overflow_add-result
overflow_add-result c = omega (
  arith,
  pixels c.args.scaled.now.request c.requires,
  clock_le c.args.scaled.now.request c.requires c.first_clock-adwhs.result c.first_clock-adwhs.ensures,
)

pub overflow_add-result-2 : goal.overflow_add-result-2
overflow_add-result-2 c = let f = c.first_line-fal in
    let b = by_le c.args.scaled.now.request.standard 240 287 287 (omega arith) (omega arith) in
    let e = rw (offset_is c.args.scaled.now.request c.requires) at f.ensures in
    omega (arith, line_le c.args.scaled.now.request c.requires f.result e, (output c.args.scaled.now.request c.requires).outlin_le)

pub overflow_add-result-3 : goal.overflow_add-result-3
unfolding vertical_of
overflow_add-result-3 c = let b = at_both (λ t. cond t 0 1 ≤ 1) (reached (num_for c.args.scaled.now.request) (den_for c.args.scaled.now.request) c.args.scaled.now.request.yskip) (omega arith) (omega arith) in
    rw c.args.scaled.now.vertical_is (omega (arith, (numbers c.args.scaled.now.request c.requires).yofso_le))

pub overflow_sub-result : goal.overflow_sub-result
overflow_sub-result c = omega (
  arith,
  (source c.args.scaled.now.request c.requires).inpix_ge,
  (source c.args.scaled.now.request c.requires
      ).ends,
)

pub overflow_cast-result : goal.overflow_cast-result
unfolding vertical_of
overflow_cast-result c = rw c.args.scaled.now.vertical_is (omega (arith, (numbers c.args.scaled.now.request c.requires).yinc_le))

pub overflow_cast-result-2 : goal.overflow_cast-result-2
unfolding vertical_of
overflow_cast-result-2 c = rw c.args.scaled.now.vertical_is (omega (arith, (weights c.args.scaled.now.request c.requires).odd_le))

pub overflow_cast-result-3 : goal.overflow_cast-result-3
unfolding vertical_of
overflow_cast-result-3 c = rw c.args.scaled.now.vertical_is (omega (arith, (weights c.args.scaled.now.request c.requires).even_le))

pub returns : goal.returns
unfolding fields_of adwhe_of lal_of pcl_of yofse_of vertical_of
returns c = let q = c.args.scaled.now.request in
    let e = rw (offset_is c.args.scaled.now.request c.requires) at c.first_line-fal.ensures in
    rw (
      c.by_standard.ensures,
      ← c.first_clock-adwhs.ensures,
      ← e,
      c.pixel_step-pcl.ensures,
      c.pixel_ratio-xinc.ensures,
      c.args.scaled.now.vertical_is,
      c.lines.ensures,
      hlen_is q.inppl (omega (arith, (source c.args.scaled.now.request c.requires).inpix_ge, (source c.args.scaled.now.request c.requires).ends)),
      weight_is (num_for q) (den_for q) q.yskip (den_pos q.inlin) (weights c.args.scaled.now.request c.requires).reaches,
      yofse_late _ q.yofso,
    )
