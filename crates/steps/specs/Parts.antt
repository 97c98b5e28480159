-- What a leaf of the code hands on: the vertical part, from one division.
-- Assumes nothing.
use Rattle.std.specs.Prelude.{cond, ℕ, ◌*◌, ◌/◌}
use Rattle.scaler.specs.Limits.{num_for, den_for}
use Rattle.scaler.specs.Numbers.{reached, yinc_of, yiwgto_of}
use Rattle.scaler.specs.declared.request.Request.{Request}
use Rattle.steps.specs.declared.vertical.Vertical.{Vertical}

-- `top` is what YSKIP is taken from for YIWGTE, before it is halved; `late` is what YOFSE has more than YOFSO
unfoldable pub vertical_of : ℕ → ℕ → ℕ → Vertical
vertical_of n d yskip =
    record {
      yinc = yinc_of n d;
      yiwgto = yiwgto_of n d;
      top = cond (reached n d yskip) n (3 * n) / d;
      late = cond (reached n d yskip) 0 1;
    }

abbrev pub vertical_for : Request → Vertical
vertical_for q = vertical_of (num_for q) (den_for q) q.yskip
