-- `cursor::cursor_row` meets its contract: each answer is a part of the map, where it begins and how long it
-- is.
-- Assumes nothing.
use mathlib.Core.Path.{refl}
use Prim.Native.Nat.{◌*◌}
use native.Mathlib.Nat.{add-sub_cancel_left}
use native.Mathlib.Omega.{arith}
use borrow.Author.Tests.{eq-eqb, ne_eqb, lt-leb, le-leb}
use Rattle.cursor.specs.Cursor.{row_start, row_count}
use Rattle.cursor.proofs.cursor_row.Goals as goal

pub returns-then-map-ne-MAP : goal.returns-then-map-ne-MAP
unfolding row_start row_count
returns-then-map-ne-MAP c = rw (ne_eqb _ _ c.if-map-ne-MAP.true)
    (record { block = refl; offset = omega arith; bytes = refl })

pub returns-then-row-ge-ROWS : goal.returns-then-row-ge-ROWS
unfolding row_start row_count
returns-then-row-ge-ROWS c = rw (eq-eqb _ _ c.if-map-ne-MAP.false, lt-leb _ _ c.if-row-ge-ROWS.true)
    (record { block = refl; offset = omega arith; bytes = refl })

pub returns : goal.returns
unfolding row_start row_count
returns c = rw (
  eq-eqb _ _ c.if-map-ne-MAP.false,
  le-leb c.args.row 31 (omega arith),
)
    (record {
      block = refl;
      offset = omega arith;
      bytes =
          rw (add-sub_cancel_left (8 * c.args.row) 8);
    })
