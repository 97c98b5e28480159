-- Document 01, "The list of writes": the runs of changed places of two register files, as they are found,
-- with the caption bytes barred, and whether a changed place can't be written.
-- Assumes nothing.
use Rattle.std.specs.Prelude.{◌≡◌, Bool, true, false, List, [], ◌∷◌, ℕ, ◌+◌, ◌-◌, ◌*◌, ◌<◌, ◌≤◌, length, take}
use Rattle.std.specs.Prelude.{Option, None, Some}
use Rattle.bursts.specs.Burst.{heading}
use Rattle.bursts.specs.Runs.{Run, run, changed, runs_from}
use Rattle.bursts.specs.Stuck.{fixed_at, some_from}
use Rattle.chip.specs.File.{caption, file_length, registers_end}
use Rattle.chip.specs.Map.{masks}
use Rattle.runs.specs.declared.find.Extent.{Extent}
use Rattle.runs.specs.declared.find.Heading.{Heading}

-- the runs of the places from p on, and whether one of these places can't be written
unfoldable pub runs_at : List ℕ → List ℕ → ℕ → List Run
runs_at from to p = runs_from (changed from to) caption p (file_length - p)

unfoldable pub stuck_at : List ℕ → List ℕ → ℕ → Bool
stuck_at from to p = some_from (fixed_at masks caption from to) p (file_length - p)

-- what is asked of two files and a place: the place is changed, and every changed one can be written
pub record ChangeAt (from to : List ℕ) (p : ℕ) : Type 0 where
  pub from_long : length from ≡ file_length
  pub to_long : length to ≡ file_length
  pub low : p < file_length
  pub differs : changed from to p ≡ true
  pub free : stuck_at from to 0 ≡ false

-- the first run from its start on, which is changed
pub record RunFound (from to : List ℕ) (start : ℕ) (r : Extent) : Type 0 where
  pub runs : runs_at from to start ≡ run start r.end ∷ runs_at from to r.next
  pub more : start < r.end
  -- behind it an unchanged place, unless the file ends
  pub gap : r.next < file_length → r.end < r.next
  pub inside : r.next ≤ file_length
  pub differs : r.next < file_length → changed from to r.next ≡ true
  -- it can be written, so that it ends with the registers
  pub low : r.end ≤ registers_end

-- headings, one behind the other, and their bytes on the bus
unfoldable pub headings : List Run → List ℕ
headings [] = []
headings (r ∷ rs) = r.start ∷ (r.end - r.start) ∷ headings rs

unfoldable pub run_bytes : List Run → ℕ
run_bytes [] = 0
run_bytes (r ∷ rs) = heading + (r.end - r.start) + run_bytes rs

-- Whether a place can't be written, and the bytes and bursts of the runs.
pub record Found : Type 0 where
  pub fixed : Bool
  pub bytes : ℕ
  pub bursts : ℕ

-- all runs of two files
pub record RunsFound (from to : List ℕ) (r : Found) (heads : List ℕ) : Type 0 where
  pub stuck : r.fixed ≡ stuck_at from to 0
  -- of places that can't be written nothing is counted
  pub none : r.fixed ≡ true → (r.bytes ≡ 0) × (r.bursts ≡ 0)
  pub bytes : r.fixed ≡ false → r.bytes ≡ run_bytes (runs_at from to 0)
  pub bursts : r.fixed ≡ false → r.bursts ≡ length (runs_at from to 0)
  pub few : r.fixed ≡ false → 2 * r.bursts ≤ file_length
  pub listed : r.fixed ≡ false → take (2 * r.bursts) heads ≡ headings (runs_at from to 0)

-- headings of the code, as bytes one behind the other
unfoldable pub heading_bytes : List Heading → List ℕ
heading_bytes [] = []
heading_bytes (h ∷ hs) = h.start ∷ h.count ∷ heading_bytes hs

-- what the code answers beside its headings, in these words: nothing is counted where a place can't be written
abbrev pub told_found : Option ℕ → List Heading → Found
told_found None hs = record { fixed = true; bytes = 0; bursts = 0 }
told_found (Some bytes) hs = record { fixed = false; bytes = bytes; bursts = length hs }
