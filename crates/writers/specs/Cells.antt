-- Document 01, "Bus writes and reads": what a run of cells stores in the cursor map or in the colour table.
-- Assumes nothing.
use Rattle.std.specs.Prelude.{◌≡◌, List, ◌⊎◌, ℕ, ◌+◌, ◌*◌, ◌<◌, ◌≤◌, length, get_or}
use Rattle.std.proofs.lemmas.List.Edits.{sets}
use Rattle.transactions.specs.Writes.{from_start}

-- bytes go to the cells from the start cell on, `width` to a cell; with no data nothing changes
unfoldable pub cells_run : ℕ → List ℕ → List ℕ → List ℕ
cells_run width map = from_start map (λ start bytes. sets map (width * start) bytes)

-- Cells of `width` bytes from a start cell on, in a map: byte h of cell start + k is byte width x k + h of
-- the bytes.
pub record CellsMean (width : ℕ) (map : List ℕ) (start : ℕ) (bytes after : List ℕ) : Type 0 where
  pub long : length after ≡ length map
  pub inside : (k h : ℕ) → width * k + h < length bytes
      → get_or after (width * (start + k) + h) 0 ≡ get_or bytes (width * k + h) 0
  pub outside : (p : ℕ) → (p < width * start) ⊎ (width * start + length bytes ≤ p)
      → get_or after p 0 ≡ get_or map p 0
