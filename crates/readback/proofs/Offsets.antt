-- The offset as the machine works it out.
-- Assumes nothing.
use mathlib.Core.List.{List}
use mathlib.Core.Path.{◌≡◌}
use Prim.Native.Nat.{ℕ, zero, suc, ◌+◌, ◌^◌, ◌<◌, ◌≤◌}
use native.Mathlib.Omega.{arith}
use lib.Dec.{T}
use lib.IntN.{ℤ, pos, negsuc, neg_ℤ, ◌-ℤ◌}
use lib.Signed.{mag}
use mir.Facts.{to_z-of_z}
use mir.Syntax.{w64}
use mir.Val.{SFits, of_z, to_z}
use Rattle.pieces.specs.Piece.{width}
use Rattle.fields.specs.Fields.{fit_all}
use Rattle.fields.proofs.Fitting.{fit_at}
use Rattle.chip.specs.Fields.{picture_fields}
use Rattle.scaler.specs.Numbers.{centred_line}
use Rattle.scaler.proofs.Machine.{mag_add, natural, centred_small}
use Rattle.readback.specs.Reading.{fal_in, standard_in, outlin_in}

mag_neg : (z : ℤ) → mag (neg_ℤ z) ≤ mag z + 1
mag_neg (pos zero) = omega arith
mag_neg (pos (suc n)) = omega arith
mag_neg (negsuc n) = omega arith

-- a line less another, read back from its bits
pub record Difference (a : ℕ) (z : ℤ) : Type 0 where
  pub fits : SFits w64 (to_z w64 a -ℤ to_z w64 (of_z w64 z))
  pub is : to_z w64 (of_z w64 (to_z w64 a -ℤ to_z w64 (of_z w64 z))) ≡ pos a -ℤ z
  pub small : mag (pos a -ℤ z) < 2 ^ 19

pub difference : (a : ℕ) (z : ℤ) → a < 2 ^ 17 → mag z < 2 ^ 17 → Difference a z
difference a z l m =
    let most : mag (pos a -ℤ z) < 2 ^ 19 = omega (arith, mag_add a (neg_ℤ z), mag_neg z) in
    let wide : SFits w64 (pos a -ℤ z) = record { sfits = omega arith } in
    let e : to_z w64 a -ℤ to_z w64 (of_z w64 z) ≡ pos a -ℤ z =
    rw (natural a (omega arith), to_z-of_z {w = w64} {z = z} (record { sfits = omega arith })) in
    record { fits = rw e wide; is = rw (e, to_z-of_z wide); small = most }

-- the offset that the numbers of a file tell
pub offset_of : (vs : List ℕ) → T (fit_all picture_fields vs)
    → Difference (fal_in vs) (centred_line (standard_in vs) (outlin_in vs))
unfolding picture_fields width
offset_of vs t =
    let f = fit_at picture_fields vs t 3 in
    let l = fit_at picture_fields vs t 4 in
    difference (fal_in vs) (centred_line (standard_in vs) (outlin_in vs)) (omega arith)
    (centred_small (standard_in vs) (outlin_in vs) (omega arith))
