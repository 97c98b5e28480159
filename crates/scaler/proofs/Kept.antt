-- What the reply 0 to a request says of it, each fact by its name.
-- Assumes nothing.
use mathlib.Core.Bool.{false, true, not}
use mathlib.Core.Logic.{inl}
use mathlib.Core.Path.{◌≡◌}
use Prim.Native.Nat.{ℕ, ◌*◌, ◌≤◌}
use borrow.Author.Tests.{not-false, le-ltb}
use lib.IntN.{pos, negsuc}
use lib.Signed.{le_z, le_z_yes}
use Rattle.bits.proofs.Tests.{refusals, or_in, is_false, is_true, from_true}
use Rattle.reply.specs.Reply.{lowest, applies, rising, LowestMeans}
use Rattle.reply.proofs.Lowest.{lowest_means}
use Rattle.scaler.specs.Acceptable.{SourceLimits, OutputLimits}
use Rattle.scaler.specs.Limits.{lines_for, num_for, den_for, wrong_source, pixels_hold, lines_hold}
use Rattle.scaler.specs.Limits.{offset_holds, output_holds, numbers_pass, clock_passes, weights_pass}
use Rattle.scaler.specs.Limits.{request_tests, request_reply}
use Rattle.scaler.specs.Numbers.{field_clocks, yinc_of, yofse_of}
use Rattle.scaler.specs.declared.request.Request.{Request}

-- ---- the numbers rise, so the reply is the lowest that applies

pub request_lowest : (q : Request) → LowestMeans (request_tests q)
unfolding request_tests rising
request_lowest q = lowest_means 0 (request_tests q) tt

-- ---- each test that failed

pub record Passed (q : Request) : Type 0 where
  pub source : wrong_source q ≡ false
  pub output : output_holds q ≡ true
  pub numbers : numbers_pass q ≡ false
  pub clock : clock_passes q.standard q.inppl (lines_for q) ≡ false
  pub weights : weights_pass (num_for q) (den_for q) q.yskip ≡ false

pub passed : (q : Request) → request_reply q ≡ 0 → Passed q
unfolding request_reply request_tests applies
passed q e =
    let none = (request_lowest q).none e in
    let a = wrong_source q in
    let b = not (output_holds q) in
    let d = numbers_pass q in
    let f = clock_passes q.standard q.inppl (lines_for q) in
    let g = weights_pass (num_for q) (den_for q) q.yskip in
    record {
      source = is_false a (λ u. none 4 (or_in a false (inl u)));
      output = not-false (output_holds q) (is_false b (λ u. none 5 (or_in b false (inl u))));
      numbers = is_false d (λ u. none 6 (or_in d false (inl u)));
      clock = is_false f (λ u. none 7 (or_in f false (inl u)));
      weights = is_false g (λ u. none 8 (or_in g false (inl u)));
    }

pub unrefused : (q : Request) → Passed q → request_reply q ≡ 0
unfolding request_reply request_tests lowest
unrefused q p = rw (p.source, p.output, p.numbers, p.clock, p.weights)

-- ---- the facts of each

pub source_facts : (q : Request) → wrong_source q ≡ false → SourceLimits q
unfolding wrong_source
source_facts q e =
    let h = simp refusals at e in
    record {
      standard_le = h.0;
      inpix_even = h.1.0.0;
      inpix_ge = h.1.0.1.0;
      inpix_le = h.1.0.1.1;
      inlin_ge = h.1.1.0.0;
      inlin_le = h.1.1.0.1;
      ends = h.1.1.1;
    }

pub output_facts : (q : Request) → output_holds q ≡ true → OutputLimits q
unfolding output_holds pixels_hold lines_hold offset_holds
output_facts q e =
    let h = simp refusals at e in
    record {
      outpix_ge = h.0.0.0;
      outpix_le = h.0.0.1;
      outpix_in = h.0.1.0;
      outpix_half = h.0.1.1;
      outlin_ge = h.1.0.0.0;
      outlin_le = h.1.0.0.1;
      outlin_quarter = h.1.0.1;
      offset_ge = le_z_yes (from_true _ h.1.1.0);
      offset_le = le_z_yes (from_true _ h.1.1.1);
    }

-- and back
pub source_passes : (q : Request) → SourceLimits q → wrong_source q ≡ false
unfolding wrong_source
source_passes q h =
    simp refusals
    (h.standard_le, ((h.inpix_even, (h.inpix_ge, h.inpix_le)), ((h.inlin_ge, h.inlin_le), h.ends)))

pub offset_holds_lem : (q : Request) → OutputLimits q → offset_holds q.offset ≡ true
unfolding offset_holds
offset_holds_lem q h =
    rw (
      is_true (le_z (negsuc 7) q.offset) h.offset_ge.le,
      is_true (le_z q.offset (pos 8)) h.offset_le.le,
    )

pub output_passes : (q : Request) → OutputLimits q → output_holds q ≡ true
unfolding output_holds pixels_hold lines_hold
output_passes q h =
    simp refusals (
      ((h.outpix_ge, h.outpix_le), (h.outpix_in, h.outpix_half)),
      (((h.outlin_ge, h.outlin_le), h.outlin_quarter), offset_holds_lem q h),
    )

pub record NumberFacts (q : Request) : Type 0 where
  pub xofs_le : q.xofs.0 ≤ 1023
  pub yofso_le : q.yofso ≤ 1023
  pub yofse_le : yofse_of (num_for q) (den_for q) q.yskip q.yofso ≤ 1023
  pub inppl_le : q.inppl ≤ 2048
  pub yskip_le : q.yskip ≤ 4095
  pub yinc_le : yinc_of (num_for q) (den_for q) ≤ 4095

pub number_facts : (q : Request) → numbers_pass q ≡ false → NumberFacts q
unfolding numbers_pass
number_facts q e =
    let h = simp refusals at e in
    record {
      xofs_le = h.0.0;
      yofso_le = h.0.1.0;
      yofse_le = h.0.1.1;
      inppl_le = h.1.0;
      yskip_le = h.1.1.0;
      yinc_le = h.1.1.1;
    }

pub clock_fact : (standard inppl lines : ℕ) → clock_passes standard inppl lines ≡ false
    → 3 * (inppl * lines) ≤ 5 * field_clocks standard
unfolding clock_passes
clock_fact standard inppl lines e = simp refusals at e

pub clock_passes_lem : (standard inppl lines : ℕ) → 3 * (inppl * lines) ≤ 5 * field_clocks standard
    → clock_passes standard inppl lines ≡ false
unfolding clock_passes
clock_passes_lem standard inppl lines l = le-ltb (5 * field_clocks standard) (3 * (inppl * lines)) l
