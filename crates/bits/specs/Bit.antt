-- Bits of a number, bit 0 the lowest, and the number that given bits make.
-- Assumes nothing.
use Rattle.std.specs.Prelude.{Bool, ℕ, zero, suc, ◌+◌, ◌*◌, ◌/◌, ◌%◌, ◌^◌, eqb}

-- bit j of x, 0 or 1
unfoldable pub bit : ℕ → ℕ → ℕ
bit x j = x / 2 ^ j % 2

-- whether the mask m has bit j
abbrev pub has : ℕ → ℕ → Bool
has m j = eqb (bit m j) 1

-- the number of n bits whose bit j is b j
unfoldable pub number : ℕ → (ℕ → ℕ) → ℕ
number zero b = 0
number (suc n) b = b n * 2 ^ n + number n b
