-- The cells that a run fills, and the length that it keeps.
-- Assumes nothing.
use mathlib.Core.Path.{◌≡◌, refl}
use mathlib.Core.List.{List, [], ◌∷◌}
use Prim.Native.Nat.{ℕ, ◌+◌, ◌*◌, ◌≤◌}
use native.Mathlib.Omega.{arith}
use lib.ListN.{length}
use lib.Seq.{sets, length-sets}
use Rattle.bits.proofs.Runs.{rule_outside, rule_inside}
use Rattle.transactions.specs.Writes.{from_start}
use Rattle.writers.specs.Cells.{cells_run, CellsMean}

-- what a place takes: the byte itself
abbrev plain : ℕ → ℕ → ℕ → ℕ
plain p old b = b

pub cells_mean : (width : ℕ) (map : List ℕ) (start : ℕ) (bytes : List ℕ)
    → width * start + length bytes ≤ length map
    → CellsMean width map start bytes (cells_run width map (start ∷ bytes))
unfolding cells_run from_start
cells_mean width map start bytes f =
    record {
      long = length-sets map (width * start) bytes;
      inside = λ k h m.
          let e : width * (start + k) + h ≡ width * start + (width * k + h) = omega arith in
          rw e (rule_inside sets plain (λ l i. refl) (λ l i v vs. refl) map (width * start) bytes f
          (width * k + h) m);
      outside = rule_outside sets plain (λ l i. refl) (λ l i v vs. refl) map (width * start) bytes;
    }

pub cells_long : (width : ℕ) (map bytes : List ℕ) → length (cells_run width map bytes) ≡ length map
unfolding cells_run from_start
cells_long width map [] = refl
cells_long width map (start ∷ bytes) = length-sets map (width * start) bytes
