-- Document 01, "Bus writes and reads": a write is the write address, a subaddress and the data, from the
-- third byte on.
-- Assumes nothing.
use Rattle.std.specs.Prelude.{Bool, false, cond, not, ◌||◌, List, [], ◌∷◌, ℕ, ◌+◌, ◌/◌, ◌%◌, eqb, ltb, length, get_or, drop}
use Rattle.chip.specs.File.{registers_end}
use Rattle.reply.specs.Reply.{lowest, wrong_length, wrong_address, passes_end}

abbrev pub write_address : ℕ
write_address = 0x88

-- Subaddress FEh is the cursor map's and FFh the colour table's; every other one is a register's.
abbrev pub cursor_at : ℕ
cursor_at = 0xFE

abbrev pub colours_at : ℕ
colours_at = 0xFF

-- one of three, by the subaddress
abbrev pub by_target : {A : Type 0} → ℕ → A → A → A → A
by_target subaddress cursor colours registers =
    cond (eqb subaddress cursor_at) cursor (cond (eqb subaddress colours_at) colours registers)

-- At both of them the first data byte is a start cell: `none` where there is no data, else `some` of the
-- start cell and the bytes behind it.
unfoldable pub from_start : {A : Type 0} → A → (ℕ → List ℕ → A) → List ℕ → A
from_start none some [] = none
from_start none some (start ∷ bytes) = some start bytes

-- ---- a run that passes its end

-- registers: subaddress + count must be at most FEh
unfoldable pub registers_pass : ℕ → List ℕ → Bool
registers_pass subaddress bytes = ltb registers_end (subaddress + length bytes)

-- a cell is one byte of the cursor map, and three of the colour table: red, green and blue
abbrev pub cursor_cell : ℕ
cursor_cell = 1

abbrev pub colour_cell : ℕ
colour_cell = 3

-- cells of `width` bytes: the bytes must make whole cells, and start + cells must be at most 256
unfoldable pub cells_pass : ℕ → List ℕ → Bool
cells_pass width =
    from_start false
    (λ start bytes. not (eqb (length bytes % width) 0) || ltb 256 (start + length bytes / width))

unfoldable pub passes : ℕ → List ℕ → Bool
passes subaddress bytes =
    by_target subaddress
    (cells_pass cursor_cell bytes)
    (cells_pass colour_cell bytes)
    (registers_pass subaddress bytes)

-- what may be refused of a write, and its number
unfoldable pub write_tests : List ℕ → List (ℕ × Bool)
write_tests t =
    (wrong_length, ltb (length t) 2)
    ∷ (wrong_address, not (eqb (get_or t 0 0) write_address))
    ∷ (passes_end, passes (get_or t 1 0) (drop 2 t))
    ∷ []

unfoldable pub write_reply : List ℕ → ℕ
write_reply t = lowest (write_tests t)
