-- When a picture is acceptable (demand 2): it keeps every written limit, and every number fits its bits. The
-- limits are those of document 01, "Reply numbers" 4 and "From picture to fields", here as facts.
-- Assumes nothing.
use Rattle.std.specs.Prelude.{Bool, true, false, ◌&&◌, List, [], ◌∷◌, ◌≡◌, ◌+◌, ◌*◌, ◌%◌, ◌^◌, ◌≤◌, T, ℤ, pos, negsuc, ◌≤ℤ◌}
use Rattle.std.specs.Int.Signed.{le_z, lt_z}
use Rattle.pieces.specs.Piece.{Field, width}
use Rattle.chip.specs.Fields.{picture_fields}
use Rattle.scaler.specs.Answer.{numbers_of}
use Rattle.scaler.specs.Limits.{lines_for, most_pixels, most_lines}
use Rattle.scaler.specs.Numbers.{field_clocks}
use Rattle.scaler.specs.declared.request.Request.{Request}

-- the standard, and the source picture
pub record SourceLimits (q : Request) : Type 0 where
  pub standard_le : q.standard ≤ 1
  pub inpix_even : q.inpix % 2 ≡ 0
  pub inpix_ge : 2 ≤ q.inpix
  pub inpix_le : q.inpix ≤ 800
  pub inlin_ge : 1 ≤ q.inlin
  pub inlin_le : q.inlin ≤ 600
  pub ends : q.xofs.0 + q.inpix ≤ q.inppl

-- the picture on the monitor; the offset is from -8 to 8
pub record OutputLimits (q : Request) : Type 0 where
  pub outpix_ge : 1 ≤ q.outpix
  pub outpix_le : q.outpix ≤ most_pixels q.standard
  pub outpix_in : q.outpix ≤ q.inpix
  pub outpix_half : q.inpix ≤ 2 * q.outpix
  pub outlin_ge : 1 ≤ q.outlin
  pub outlin_le : q.outlin ≤ most_lines q.standard
  pub outlin_quarter : q.inlin + 2 ≤ 4 * q.outlin
  pub offset_ge : negsuc 7 ≤ℤ q.offset
  pub offset_le : q.offset ≤ℤ pos 8

-- as many numbers as fields, and each fits its field: not below 0, and below 2 to the field's width
unfoldable pub fits : List Field → List ℤ → Bool
fits [] [] = true
fits [] (z ∷ zs) = false
fits (f ∷ fs) [] = false
fits (f ∷ fs) (z ∷ zs) = (le_z (pos 0) z && lt_z z (pos (2 ^ width f))) && fits fs zs

pub record Acceptable (q : Request) : Type 0 where
  pub source : SourceLimits q
  pub output : OutputLimits q
  pub clock : 3 * (q.inppl * lines_for q) ≤ 5 * field_clocks q.standard
  pub fit : T (fits picture_fields (numbers_of q))
