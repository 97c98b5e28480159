-- Document 01, "Bus writes and reads": of a byte that is written, the bits that the map names take the new
-- value, the others stay.
-- Assumes nothing.
use Rattle.std.specs.Prelude.{◌≡◌, cond, true, false, ℕ, ◌<◌}
use Rattle.bits.specs.Bit.{bit, has, number}

-- the byte whose bit j is the new byte's where the mask has bit j, and the old byte's where it has not
unfoldable pub merge : ℕ → ℕ → ℕ → ℕ
merge m old new = number 8 (λ j. cond (has m j) (bit new j) (bit old j))

-- What the merge of any two bytes means, bit by bit.
pub record MergeMeans (m old new : ℕ) : Type 0 where
  pub byte : merge m old new < 256
  -- a bit that the mask has is the new byte's
  pub taken : (j : ℕ) → j < 8 → has m j ≡ true → bit (merge m old new) j ≡ bit new j
  -- any other is the old byte's
  pub kept : (j : ℕ) → j < 8 → has m j ≡ false → bit (merge m old new) j ≡ bit old j
  -- so a byte merged into itself stays
  pub same : old < 256 → merge m old old ≡ old
