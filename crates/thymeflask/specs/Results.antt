-- What a number that a function of the C interface answers says, where it says more than a reply.
-- Assumes nothing.
use Rattle.std.specs.Prelude.{cond, List, ℕ, ◌+◌, ◌*◌, ◌/◌, ◌%◌, length}
use Rattle.cursor.specs.Cursor.{has_row}
use Rattle.plan.specs.Plan.{Planned}
use Rattle.states.specs.Lent.{Got}

-- a read: the reply in bits 0 to 7, the byte in bits 8 to 15
unfoldable pub read_result : Got → ℕ
read_result got = got.reply + 256 * got.byte

-- a plan: the reply in bits 0 to 7, the bytes in bits 8 to 31, the bursts in bits 32 to 63
unfoldable pub planned_in : ℕ → Planned
planned_in r =
    record { reply = r % 256; bytes = r / 256 % 16777216; bursts = r / 4294967296 }

-- a row of the cursor map: where it begins, or the map's length for none
unfoldable pub row_place : List ℕ → ℕ → ℕ
row_place map row = cond (has_row map row) (8 * row) (length map)
