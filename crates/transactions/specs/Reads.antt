-- Document 01, "Bus writes and reads": a read is the write address, a place and the read address, and gives
-- one byte. The readable places are those of source document 003, Table 105.
-- Assumes nothing.
use Rattle.std.specs.Prelude.{Bool, cond, not, ◌||◌, List, [], ◌∷◌, ℕ, eqb, length, get_or}
use Rattle.reply.specs.Reply.{lowest, done, wrong_length, wrong_address, not_readable}
use Rattle.transactions.specs.Writes.{write_address}

abbrev pub read_address : ℕ
read_address = 0x89

abbrev pub status_at : ℕ
status_at = 0x00

abbrev pub chip_at : ℕ
chip_at = 0x1C

abbrev pub fifo_at : ℕ
fifo_at = 0x80

abbrev pub readable : ℕ → Bool
readable place = eqb place status_at || (eqb place chip_at || eqb place fifo_at)

-- what may be refused of a read, and its number
unfoldable pub read_tests : List ℕ → List (ℕ × Bool)
read_tests t =
    (wrong_length, not (eqb (length t) 3))
    ∷ (wrong_address, not (eqb (get_or t 0 0) write_address) || not (eqb (get_or t 2 0) read_address))
    ∷ (not_readable, not (readable (get_or t 1 0)))
    ∷ []

unfoldable pub read_reply : List ℕ → ℕ
read_reply t = lowest (read_tests t)

-- the byte at a readable place, of the three
unfoldable pub byte_of : ℕ → ℕ → ℕ → ℕ → ℕ
byte_of status chip fifo place = cond (eqb place status_at) status (cond (eqb place chip_at) chip fifo)

-- what a read gives, of the three readable bytes: 0 beside a refusal
abbrev pub byte_read : ℕ → ℕ → ℕ → List ℕ → ℕ
byte_read status chip fifo t = cond (eqb (read_reply t) done) (byte_of status chip fifo (get_or t 1 0)) 0
