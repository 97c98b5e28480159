-- `chip::map::mask_table` meets its contract: the array and the table of the printed rows are compared by
-- computing both.
-- Assumes nothing.
use mathlib.Core.Path.{refl}
use Rattle.chip.specs.Map.{masks, masks_from, named_at, printed}
use Rattle.chip.proofs.map.mask_table.Goals as goal

pub returns : goal.returns
unfolding masks masks_from named_at printed
returns c = refl
