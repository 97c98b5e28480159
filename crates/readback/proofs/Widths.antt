-- The numbers that tell the request, each below 2 to its field's width.
-- Assumes nothing.
use mathlib.Core.List.{List}
use Prim.Native.Nat.{ℕ, ◌^◌, ◌<◌}
use native.Mathlib.Omega.{arith}
use lib.Dec.{T}
use lib.ListN.{get_or}
use Rattle.pieces.specs.Piece.{width}
use Rattle.fields.specs.Fields.{fit_all}
use Rattle.fields.proofs.Fitting.{fit_at}
use Rattle.chip.specs.Fields.{picture_fields}

pub record Widths (vs : List ℕ) : Type 0 where
  pub fise : get_or vs 0 0 < 2
  pub fal : get_or vs 3 0 < 2 ^ 9
  pub lal : get_or vs 4 0 < 2 ^ 9
  pub xofs : get_or vs 6 0 < 2 ^ 10
  pub xpix : get_or vs 7 0 < 2 ^ 10
  pub yofso : get_or vs 8 0 < 2 ^ 10
  pub ypix : get_or vs 10 0 < 2 ^ 10
  pub hlen : get_or vs 11 0 < 2 ^ 11
  pub yskip : get_or vs 16 0 < 2 ^ 12

pub widths : (vs : List ℕ) → T (fit_all picture_fields vs) → Widths vs
unfolding picture_fields width
widths vs t =
    let at = fit_at picture_fields vs t in
    record {
      fise = omega (arith, at 0);
      fal = omega (arith, at 3);
      lal = omega (arith, at 4);
      xofs = omega (arith, at 6);
      xpix = omega (arith, at 7);
      yofso = omega (arith, at 8);
      ypix = omega (arith, at 10);
      hlen = omega (arith, at 11);
      yskip = omega (arith, at 16);
    }
