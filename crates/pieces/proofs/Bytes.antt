-- A byte with some of its bits taken from a number, bit by bit.
-- Assumes nothing.
use mathlib.Core.Path.{◌≡◌}
use mathlib.Core.Bool.{cond}
use Prim.Native.Nat.{ℕ, ◌-◌, ◌<◌}
use Rattle.bits.specs.Bit.{bit}
use Rattle.bits.proofs.Digits.{Bits, bit_lt, number_lt, bit_number}
use Rattle.bits.proofs.Merging.{cond_lt}
use Rattle.pieces.specs.Piece.{within, with_bits}

taken_bits : (byte position width v : ℕ)
    → Bits (λ j. cond (within position width j) (bit v (j - position)) (bit byte j))
taken_bits byte position width v j =
    cond_lt (within position width j) (bit v (j - position)) (bit byte j) (bit_lt v (j - position))
    (bit_lt byte j)

pub with_bits_lt : (byte position width v : ℕ) → with_bits byte position width v < 256
unfolding with_bits
with_bits_lt byte position width v = number_lt 8 _ (taken_bits byte position width v)

pub with_bits_bit : (byte position width v j : ℕ) → j < 8
    → bit (with_bits byte position width v) j
    ≡ cond (within position width j) (bit v (j - position)) (bit byte j)
unfolding with_bits
with_bits_bit byte position width v j l = bit_number 8 _ (taken_bits byte position width v) j l
