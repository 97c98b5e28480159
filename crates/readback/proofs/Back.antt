-- The numbers of an accepted request tell the request.
-- Assumes nothing.
use mathlib.Core.Bool.{true}
use mathlib.Core.Path.{◌≡◌, refl}
use Prim.Native.Nat.{ℕ, zero, suc, ◌+◌, ◌-◌, ◌*◌, ◌/◌, ◌≤◌}
use native.Mathlib.Omega.{arith}
use lib.IntN.{ℤ, pos, nat_abs, ◌-ℤ◌, +ℤ_comm, +ℤ-neg_ℤ_cancel}
use Rattle.scaler.specs.Answer.{fields_of, values_of}
use Rattle.scaler.specs.Limits.{most_pixels, most_lines, offset_holds, request_reply}
use Rattle.scaler.specs.Numbers.{middle_clock, fise_of, adwhs_of, centred_line, fal_of, lal_of, hlen_of}
use Rattle.scaler.specs.declared.request.Request.{Request}
use Rattle.scaler.proofs.Kept.{passed, source_facts, output_facts, offset_holds_lem}
use Rattle.scaler.proofs.Windows.{most_below, adwhs_is, fal_is, lal_is, hlen_is}
use Rattle.readback.specs.Reading.{request_in}

-- ---- one number each

standard_back : (standard : ℕ) → standard ≤ 1 → 1 - fise_of standard ≡ standard
standard_back zero l = refl
standard_back (suc zero) l = refl
standard_back (suc (suc n)) l = absurd (omega arith)

outpix_back : (standard outpix : ℕ) → outpix ≤ most_pixels standard
    → middle_clock standard - nat_abs (adwhs_of standard outpix) ≡ outpix
outpix_back standard outpix l =
    rw (adwhs_is standard outpix l) (omega (arith, most_below standard outpix l))

inppl_back : (inppl : ℕ) → 1 ≤ inppl → nat_abs (hlen_of inppl) + 1 ≡ inppl
inppl_back inppl l = rw (hlen_is inppl l) (omega arith)

module _ (standard outlin : ℕ) (offset : ℤ) (l : outlin ≤ most_lines standard)
    (o : offset_holds offset ≡ true) where
  outlin_back : nat_abs (lal_of standard outlin offset) - nat_abs (fal_of standard outlin offset) ≡ outlin
  outlin_back = rw (lal_is standard outlin offset l o, fal_is standard outlin offset l o) (omega arith)

  offset_back : pos (nat_abs (fal_of standard outlin offset)) -ℤ centred_line standard outlin ≡ offset
  unfolding fal_of
  offset_back =
      let natural : pos (nat_abs (fal_of standard outlin offset)) ≡ fal_of standard outlin offset =
      rw (fal_is standard outlin offset l o) in
      rw (natural, +ℤ_comm (centred_line standard outlin) offset)
      (+ℤ-neg_ℤ_cancel offset (centred_line standard outlin))

pub request_back : (q : Request) → request_reply q ≡ 0 → request_in (values_of (fields_of q)) ≡ q
unfolding request_in values_of fields_of
request_back q e =
    let p = passed q e in
    let s = source_facts q p.source in
    let o = output_facts q p.output in
    let even : 2 * (q.inpix / 2) ≡ q.inpix = omega arith in
    rw (
      standard_back q.standard s.standard_le,
      even,
      inppl_back q.inppl (omega arith),
      outpix_back q.standard q.outpix o.outpix_le,
      outlin_back q.standard q.outlin q.offset o.outlin_le (offset_holds_lem q o),
      offset_back q.standard q.outlin q.offset o.outlin_le (offset_holds_lem q o),
    )
