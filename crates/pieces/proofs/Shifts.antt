-- Shifts and masks of 32 bits, as the code has them, are the bits of a piece.
-- Assumes nothing.
use mathlib.Core.Path.{◌≡◌, refl, sym, ◌∙◌, ap}
use mathlib.Core.Bool.{Bool, true, false, cond}
use Prim.Native.Nat.{ℕ, ◌+◌, ◌-◌, ◌*◌, ◌/◌, ◌%◌, ◌^◌, ◌<◌, ◌≤◌}
use native.Mathlib.Nat.{lt_of_lt_of_le}
use native.Mathlib.Decide.{dec_lt}
use native.Mathlib.Omega.{arith}
use borrow.Author.Tests.{le-leb, lt-leb, lt-ltb, le-ltb}
use lib.Bits.{bit_and, and_mask}
use lib.Dec.{eqb}
use lib.Pow.{shl_lt, ones_lt, pow_mono}
use Rattle.bits.specs.Bit.{bit, has}
use Rattle.bits.specs.Merge.{merge}
use Rattle.bits.proofs.Digits.{bit_ext, bit_shr, bit_mod, bit_high, bit_shl_low, bit_shl, bit_ones}
use Rattle.bits.proofs.Digits.{number_bit, number_cong}
use Rattle.bits.proofs.Merging.{merge_bit, merge_lt}
use Rattle.bits.proofs.Tests.{tests, from_true}
use Rattle.pieces.specs.Piece.{within, bits_at, with_bits}
use Rattle.pieces.proofs.Bytes.{with_bits_lt, with_bits_bit}

-- the bits of a piece, moved down
pub masked_bits_at : (x p w : ℕ) → bit_and (x / 2 ^ p) (2 ^ w - 1) ≡ bits_at x p w
unfolding bits_at
masked_bits_at x p w =
    and_mask (x / 2 ^ p) w ∙ sym (number_cong w _ _ (λ i l. sym (bit_shr x p i)) ∙ number_bit w (x / 2 ^ p))

-- the ones of a piece are the bits within it
ones_bit : (p w j : ℕ) → bit ((2 ^ w - 1) * 2 ^ p) j ≡ cond (within p w j) 1 0
ones_bit p w j = from (dec_lt j p) (dec_lt j (p + w))
  where
    from : Dec (j < p) → Dec (j < p + w) → bit ((2 ^ w - 1) * 2 ^ p) j ≡ cond (within p w j) 1 0
    from (yes l) d = rw (lt-leb p j l) (bit_shl_low (2 ^ w - 1) p j l)
    from (no l) (yes k) =
        let e : p + (j - p) ≡ j = omega arith in
        rw (le-leb p j (omega arith), lt-ltb j (p + w) k)
        (ap (bit ((2 ^ w - 1) * 2 ^ p)) (sym e) ∙ bit_shl (2 ^ w - 1) p (j - p)
        ∙ bit_ones w (j - p) (omega arith))
    from (no l) (no k) =
        let e : p + (j - p) ≡ j = omega arith in
        let m : 2 ^ w ≤ 2 ^ (j - p) = pow_mono (omega arith) in
        rw (le-leb p j (omega arith), le-ltb j (p + w) (omega arith))
        (ap (bit ((2 ^ w - 1) * 2 ^ p)) (sym e) ∙ bit_shl (2 ^ w - 1) p (j - p)
        ∙ bit_high (2 ^ w - 1) (j - p) (lt_of_lt_of_le (ones_lt w) m))

chosen : (t : Bool) → eqb (cond t 1 0) 1 ≡ t
chosen true = refl
chosen false = refl

-- the mask and the moved number that the code hands to the merge
module _ (p w : ℕ) (fits : p + w ≤ 8) where
  pub mask_has : (j : ℕ) → has ((2 ^ w - 1) * 2 ^ p % 4294967296 % 256) j ≡ within p w j
  mask_has j =
      let l : (2 ^ w - 1) * 2 ^ p < 2 ^ (w + p) = shl_lt w p (ones_lt w) in
      let m : 2 ^ (w + p) ≤ 256 = pow_mono {j = 8} (omega arith) in
      let e : (2 ^ w - 1) * 2 ^ p % 4294967296 % 256 ≡ (2 ^ w - 1) * 2 ^ p = omega arith in
      rw (e, ones_bit p w j) (chosen (within p w j))

  moved_bit : (v j : ℕ) → j < 8 → p ≤ j → bit (v % 256 * 2 ^ p % 4294967296 % 256) j ≡ bit v (j - p)
  moved_bit v j l k =
      let e : p + (j - p) ≡ j = omega arith in
      bit_mod 8 _ j l ∙ bit_mod 32 _ j (omega arith)
      ∙ ap (bit (v % 256 * 2 ^ p)) (sym e) ∙ bit_shl (v % 256) p (j - p) ∙ bit_mod 8 v (j - p) (omega arith)

  pub merge_piece : (byte v : ℕ)
      → merge ((2 ^ w - 1) * 2 ^ p % 4294967296 % 256) byte (v % 256 * 2 ^ p % 4294967296 % 256)
      ≡ with_bits byte p w v
  merge_piece byte v =
      bit_ext 8 _ _ (merge_lt _ byte _) (with_bits_lt byte p w v)
      (λ j l. merge_bit _ byte _ j l ∙ rw (mask_has j) (same j l (within p w j) refl)
      ∙ sym (with_bits_bit byte p w v j l))
    where
      same : (j : ℕ) → j < 8 → (t : Bool) → within p w j ≡ t
          → cond t (bit (v % 256 * 2 ^ p % 4294967296 % 256) j) (bit byte j)
          ≡ cond t (bit v (j - p)) (bit byte j)
      same j l true e = let k = simp tests at (from_true (within p w j) e) in moved_bit v j l (omega arith)
      same j l false e = refl
