-- Document 01, "Bus writes and reads": byte i of the data goes to place at + i, under the mask of that place.
-- The rule is stated over any table of masks. Assumes nothing.
use Rattle.std.specs.Prelude.{◌≡◌, true, false, List, [], ◌∷◌, ◌⊎◌, ℕ, suc, ◌+◌, ◌<◌, ◌≤◌, length, get_or, set}
use Rattle.bits.specs.Bit.{bit, has}
use Rattle.bits.specs.Merge.{merge}

-- the file after a run of bytes from a place on: that place takes the first byte, the next place the next
unfoldable pub merge_run : List ℕ → List ℕ → ℕ → List ℕ → List ℕ
merge_run masks file at [] = file
merge_run masks file at (b ∷ bytes) =
    merge_run masks (set file at (merge (get_or masks at 0) (get_or file at 0) b)) (suc at) bytes

-- What a run means, place by place and bit by bit; `after` is the file that it leaves.
pub record RunMeans (masks file : List ℕ) (at : ℕ) (bytes after : List ℕ) : Type 0 where
  -- the file keeps its length
  pub long : length after ≡ length file
  -- a place of the run takes its byte under its mask
  pub inside : (i : ℕ) → i < length bytes
      → get_or after (at + i) 0 ≡ merge (get_or masks (at + i) 0) (get_or file (at + i) 0) (get_or bytes i 0)
  -- a place before the run or behind it stays
  pub outside : (p : ℕ) → (p < at) ⊎ (at + length bytes ≤ p) → get_or after p 0 ≡ get_or file p 0
  -- a named bit of a place of the run is the new byte's
  pub named : (i j : ℕ) → i < length bytes → j < 8 → has (get_or masks (at + i) 0) j ≡ true
      → bit (get_or after (at + i) 0) j ≡ bit (get_or bytes i 0) j
  -- a bit that the mask of its place does not have stays, wherever it stands
  pub unnamed : (p j : ℕ) → j < 8 → has (get_or masks p 0) j ≡ false
      → bit (get_or after p 0) j ≡ bit (get_or file p 0) j

-- Every run that lies in the file means that, under every table of masks.
abbrev pub RunLaw : Type 0
RunLaw =
    (masks file : List ℕ) (at : ℕ) (bytes : List ℕ) → at + length bytes ≤ length file
    → RunMeans masks file at bytes (merge_run masks file at bytes)
