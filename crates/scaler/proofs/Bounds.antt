-- Each number of an accepted request fits its field.
-- Assumes nothing.
use mathlib.Core.Bool.{true, cond}
use mathlib.Core.Logic.{⊎_elim}
use mathlib.Core.Path.{◌≡◌, refl}
use Prim.Native.Nat.{ℕ, ◌+◌, ◌*◌, ◌^◌, ◌<◌, ◌≤◌}
use native.Mathlib.Nat.{div-lt_iff_lt-mul, eq-or-lt_of_le}
use native.Mathlib.Omega.{arith}
use borrow.Author.Tests.{eq-eqb, ne_eqb}
use lib.Dec.{T, eqb}
use lib.IntN.{ℤ, pos}
use Rattle.pieces.specs.Piece.{width}
use Rattle.chip.specs.Fields.{picture_fields}
use Rattle.scaler.specs.Acceptable.{fits}
use Rattle.scaler.specs.Answer.{numbers_of}
use Rattle.scaler.specs.Limits.{lines_for, num_for, den_for, most_pixels, most_lines, offset_holds}
use Rattle.scaler.specs.Numbers.{by, fise_of, adwhs_of, adwhe_of, fal_of, lal_of, xpix_of, written_step}
use Rattle.scaler.specs.Numbers.{xinc_of, field_clocks, pcl_of, yinc_of, yofse_of}
use Rattle.scaler.specs.Rounding.{round_up}
use Rattle.scaler.specs.declared.request.Request.{Request}
use Rattle.scaler.proofs.Fits.{below, below_pos, is_below, weights_iff}
use Rattle.scaler.proofs.Kept.{Passed, source_facts, output_facts, number_facts, clock_fact}
use Rattle.scaler.proofs.Kept.{offset_holds_lem}
use Rattle.scaler.proofs.Rounds.{round_up_le}
use Rattle.scaler.proofs.Windows.{at_both, by_le, first, adwhs_is, adwhe_is, fal_is, lal_is, hlen_is}

fise_fits : (standard : ℕ) → below 2 (pos (fise_of standard)) ≡ true
fise_fits standard = at_both (λ t. below 2 (pos (cond t 1 0)) ≡ true) (eqb standard 0) refl refl

-- ---- where the picture lies

module _ (standard outpix : ℕ) (l : outpix ≤ most_pixels standard) where
  start_le : by standard 966 986 ≤ 986
  start_le = by_le standard 966 986 986 (omega arith) (omega arith)

  adwhs_fits : below 2048 (adwhs_of standard outpix) ≡ true
  adwhs_fits = is_below 2048 (adwhs_is standard outpix l) (omega (arith, start_le))

  adwhe_fits : below 2048 (adwhe_of standard outpix) ≡ true
  adwhe_fits =
      let most = by_le standard 710 702 710 (omega arith) (omega arith) in
      is_below 2048 (adwhe_is standard outpix l) (omega (arith, start_le))

module _ (standard outlin : ℕ) (offset : ℤ) (l : outlin ≤ most_lines standard)
    (o : offset_holds offset ≡ true) where
  end_lt : (first standard outlin offset l o).line + outlin < 512
  end_lt =
      let top = by_le standard 19 23 23 (omega arith) (omega arith) in
      let most = by_le standard 240 287 287 (omega arith) (omega arith) in
      let high = (first standard outlin offset l o).high in
      omega arith

  fal_fits : below 512 (fal_of standard outlin offset) ≡ true
  fal_fits = is_below 512 (fal_is standard outlin offset l o) (omega (arith, end_lt))

  lal_fits : below 512 (lal_of standard outlin offset) ≡ true
  lal_fits = is_below 512 (lal_is standard outlin offset l o) end_lt

-- ---- PCL and XINC

pcl_lt : (standard inppl lines : ℕ) → 3 * (inppl * lines) ≤ 5 * field_clocks standard
    → pcl_of standard inppl lines < 2 ^ 24
unfolding pcl_of
pcl_lt standard inppl lines l =
    let h = at_both (λ t. 0 < cond t 450450 540000) (eqb standard 0) (omega arith) (omega arith) in
    (div-lt_iff_lt-mul h).1 (omega arith)

written_lt : (step : ℕ) → step ≤ 4096 → written_step step < 4096
unfolding written_step
written_lt step l =
    ⊎_elim (λ e. rw (eq-eqb step 4096 e) (omega arith)) (λ k. rw (ne_eqb step 4096 (λ e. omega arith)) k)
    (eq-or-lt_of_le l)

xinc_lt : (outpix inpix : ℕ) → outpix ≤ inpix → 0 < inpix → xinc_of outpix inpix < 4096
unfolding xinc_of
xinc_lt outpix inpix l h =
    written_lt (round_up (4096 * outpix) inpix)
    (round_up_le (4096 * outpix) inpix 4096 h (omega arith))

-- ---- all, in the order of the table

pub all_fit : (q : Request) → Passed q → T (fits picture_fields (numbers_of q))
unfolding fits picture_fields numbers_of width
all_fit q p =
    let s = source_facts q p.source in
    let o = output_facts q p.output in
    let n = number_facts q p.numbers in
    let k = clock_fact q.standard q.inppl (lines_for q) p.clock in
    let w = (weights_iff (num_for q) (den_for q) q.yskip).0 p.weights in
    rw (
      fise_fits q.standard,
      adwhs_fits q.standard q.outpix o.outpix_le,
      adwhe_fits q.standard q.outpix o.outpix_le,
      fal_fits q.standard q.outlin q.offset o.outlin_le (offset_holds_lem q o),
      lal_fits q.standard q.outlin q.offset o.outlin_le (offset_holds_lem q o),
      (below_pos (2 ^ 24) (pcl_of q.standard q.inppl (lines_for q))).1
          (pcl_lt q.standard q.inppl (lines_for q) k),
      (below_pos 1024 q.xofs.0).1 (omega arith),
      (below_pos 1024 (xpix_of q.inpix)).1 (omega arith),
      (below_pos 1024 q.yofso).1 (omega arith),
      (below_pos 1024 (yofse_of (num_for q) (den_for q) q.yskip q.yofso)).1 (omega arith),
      (below_pos 1024 q.inlin).1 (omega arith),
      is_below 2048 (hlen_is q.inppl (omega arith)) (omega arith),
      (below_pos 4096 (xinc_of q.outpix q.inpix)).1
          (xinc_lt q.outpix q.inpix o.outpix_in (omega arith)),
      (below_pos 4096 (yinc_of (num_for q) (den_for q))).1 (omega arith),
      w.0,
      w.1,
      (below_pos 4096 q.yskip).1 (omega arith),
    ) tt
