-- `effects::effect::write_cell` meets its contract: one cell lies in the map.
-- Assumes nothing.
use Rattle.std.proofs.Common.{rules}
use Rattle.effects.proofs.Effects.{cell_fits, whole_cell}
use Rattle.effects.proofs.effect.write_cell.Goals as goal

pub write_cells-requires : goal.write_cells-requires
write_cells-requires c = let r = c.requires in
    let b = c.args.body.now in
    (r.0, r.1, rw (whole_cell c.args.width b r.2) (cell_fits c.args.width b r.0 r.2 (search rules)))
