-- The answer to a request: the reply, and the fields' numbers (document 01, "From picture to fields").
-- Assumes nothing.
use Rattle.std.specs.Prelude.{cond, List, [], ◌∷◌, ℕ, eqb, ℤ, pos, nat_abs, Result}
use Rattle.reply.specs.Refusals.{told}
use Rattle.reply.specs.Reply.{done}
use Rattle.reply.specs.declared.Refusal.{Refusal}
use Rattle.scaler.specs.Limits.{lines_for, num_for, den_for, request_reply}
use Rattle.scaler.specs.Numbers.{fise_of, adwhs_of, adwhe_of, fal_of, lal_of, xpix_of, hlen_of, xinc_of, pcl_of}
use Rattle.scaler.specs.Numbers.{yinc_of, yiwgto_of, yiwgte_of, yofse_of}
use Rattle.scaler.specs.declared.request.Fields.{Fields}
use Rattle.scaler.specs.declared.request.Request.{Request}

-- the numbers of a request, in the order of the table of fields
unfoldable pub numbers_of : Request → List ℤ
numbers_of q =
    pos (fise_of q.standard)
    ∷ adwhs_of q.standard q.outpix
    ∷ adwhe_of q.standard q.outpix
    ∷ fal_of q.standard q.outlin q.offset
    ∷ lal_of q.standard q.outlin q.offset
    ∷ pos (pcl_of q.standard q.inppl (lines_for q))
    ∷ pos q.xofs.0
    ∷ pos (xpix_of q.inpix)
    ∷ pos q.yofso
    ∷ pos (yofse_of (num_for q) (den_for q) q.yskip q.yofso)
    ∷ pos q.inlin
    ∷ hlen_of q.inppl
    ∷ pos (xinc_of q.outpix q.inpix)
    ∷ pos (yinc_of (num_for q) (den_for q))
    ∷ pos (yiwgto_of (num_for q) (den_for q))
    ∷ yiwgte_of (num_for q) (den_for q) q.yskip
    ∷ pos q.yskip
    ∷ []

-- the same as a struct; none is below 0 where a request is accepted
unfoldable pub fields_of : Request → Fields
fields_of q =
    record {
      fise = fise_of q.standard;
      adwhs = record { 0 = nat_abs (adwhs_of q.standard q.outpix) };
      adwhe = record { 0 = nat_abs (adwhe_of q.standard q.outpix) };
      fal = nat_abs (fal_of q.standard q.outlin q.offset);
      lal = nat_abs (lal_of q.standard q.outlin q.offset);
      pcl = pcl_of q.standard q.inppl (lines_for q);
      xofs = q.xofs;
      xpix = xpix_of q.inpix;
      yofso = q.yofso;
      yofse = yofse_of (num_for q) (den_for q) q.yskip q.yofso;
      ypix = q.inlin;
      hlen = record { 0 = nat_abs (hlen_of q.inppl) };
      xinc = xinc_of q.outpix q.inpix;
      yinc = yinc_of (num_for q) (den_for q);
      yiwgto = yiwgto_of (num_for q) (den_for q);
      yiwgte = nat_abs (yiwgte_of (num_for q) (den_for q) q.yskip);
      yskip = q.yskip;
    }

-- a struct's numbers, in the same order
unfoldable pub values_of : Fields → List ℕ
values_of f =
    f.fise ∷ f.adwhs.0 ∷ f.adwhe.0 ∷ f.fal ∷ f.lal ∷ f.pcl ∷ f.xofs.0 ∷ f.xpix ∷ f.yofso
    ∷ f.yofse ∷ f.ypix ∷ f.hlen.0 ∷ f.xinc ∷ f.yinc ∷ f.yiwgto ∷ f.yiwgte ∷ f.yskip ∷ []

-- beside a refusal each number is 0
unfoldable pub no_fields : Fields
no_fields =
    record {
      fise = 0;
      adwhs = record { 0 = 0 };
      adwhe = record { 0 = 0 };
      fal = 0;
      lal = 0;
      pcl = 0;
      xofs = record { 0 = 0 };
      xpix = 0;
      yofso = 0;
      yofse = 0;
      ypix = 0;
      hlen = record { 0 = 0 };
      xinc = 0;
      yinc = 0;
      yiwgto = 0;
      yiwgte = 0;
      yskip = 0;
    }

-- the reply, and the fields beside it
pub record Checked : Type 0 where
  pub reply : ℕ
  pub fields : Fields

unfoldable pub refusal : ℕ → Checked
refusal reply = record { reply = reply; fields = no_fields }

-- accepted with reply 0, or refused
unfoldable pub checked : Request → Checked
checked q =
    cond (eqb (request_reply q) done)
    (record { reply = done; fields = fields_of q })
    (refusal (request_reply q))

-- what code answers, as the reply with the fields beside it
abbrev pub told_check : Result Fields Refusal → Checked
told_check = told (λ f. record { reply = done; fields = f }) refusal
