-- Two register files compared, place by place.
-- Assumes nothing.
use Rattle.std.specs.Prelude.{◌≡◌, Bool, true, false, ◌&&◌, List, ℕ, ◌+◌, ◌^◌, ◌<◌, ◌≤◌, eqb, get_or, length}
use Rattle.bursts.specs.Runs.{changed}
use Rattle.chip.specs.File.{file_length}

-- a register file: 256 bytes
pub record IsFile (file : List ℕ) : Type 0 where
  pub long : length file ≡ file_length
  pub bytes : (p : ℕ) → get_or file p 0 < 2 ^ 8

-- two files agree at a place, at four from a place on, and at eight
abbrev pub same_at : List ℕ → List ℕ → ℕ → Bool
same_at from to p = eqb (get_or from p 0) (get_or to p 0)

abbrev pub same_four : List ℕ → List ℕ → ℕ → Bool
same_four from to p =
    same_at from to p && (same_at from to (p + 1) && (same_at from to (p + 2) && same_at from to (p + 3)))

abbrev pub same_eight : List ℕ → List ℕ → ℕ → Bool
same_eight from to p = same_four from to p && same_four from to (p + 4)

-- no place from p up to r is changed; r is at most 256
pub record Unchanged (from to : List ℕ) (p r : ℕ) : Type 0 where
  pub above : p ≤ r
  pub inside : r ≤ file_length
  pub same : (q : ℕ) → p ≤ q → q < r → changed from to q ≡ false

-- so that r is the first changed place from p on, or 256 where there is none
pub record NextChange (from to : List ℕ) (p r : ℕ) : Type 0 where
  pub passed : Unchanged from to p r
  pub differs : r < file_length → changed from to r ≡ true
