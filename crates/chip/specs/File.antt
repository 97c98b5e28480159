-- Document 01, "The part of the chip we use" and "The list of writes": the register file, and the places in
-- it that a list of writes reaches.
-- Assumes nothing.
use Rattle.std.specs.Prelude.{Bool, not, ◌&&◌, List, ℕ, eqb, leb, length}

-- a register file has 256 places; reply number 1: a lent file is exactly so long
abbrev pub file_length : ℕ
file_length = 256

abbrev pub wrong_file : List ℕ → Bool
wrong_file file = not (eqb (length file) file_length)

-- registers are written at 00h to FDh
abbrev pub registers_end : ℕ
registers_end = 0xFE

-- the caption bytes are 67h to 6Ah
unfoldable pub caption : ℕ → Bool
caption p = leb 0x67 p && leb p 0x6A
