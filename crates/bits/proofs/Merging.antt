-- The merge of two bytes under a mask, bit by bit, and what follows from it.
-- Assumes nothing.
use mathlib.Core.Path.{◌≡◌, refl, ◌∙◌}
use mathlib.Core.Bool.{Bool, true, false, cond}
use Prim.Native.Nat.{ℕ, zero, suc, ◌-◌, ◌<◌, min, max}
use native.Mathlib.Omega.{arith}
use lib.Dec.{eqb}
use lib.Bits.{bit_and, bit_or, or_lt, and_lt}
use Rattle.bits.specs.Bit.{bit, has}
use Rattle.bits.specs.Merge.{merge, MergeMeans}
use Rattle.bits.proofs.Digits.{Bits, bit_lt, number_lt, bit_number, bit_ext, bit_and_lem, bit_or_lem, bit_not}

pub cond_lt : (t : Bool) (x y : ℕ) → x < 2 → y < 2 → cond t x y < 2
cond_lt true x y hx hy = hx
cond_lt false x y hx hy = hy

merged_bits : (m old new : ℕ) → Bits (λ j. cond (has m j) (bit new j) (bit old j))
merged_bits m old new j = cond_lt (has m j) (bit new j) (bit old j) (bit_lt new j) (bit_lt old j)

pub merge_lt : (m old new : ℕ) → merge m old new < 256
unfolding merge
merge_lt m old new = number_lt 8 _ (merged_bits m old new)

pub merge_bit : (m old new j : ℕ) → j < 8 → bit (merge m old new) j ≡ cond (has m j) (bit new j) (bit old j)
unfolding merge
merge_bit m old new j l = bit_number 8 _ (merged_bits m old new) j l

choose : (d x y : ℕ) → d < 2 → x < 2 → y < 2 → max (min x (1 - d)) (min y d) ≡ cond (eqb d 1) y x
choose zero x y h hx hy = omega arith
choose (suc zero) x y h hx hy = omega arith
choose (suc (suc d)) x y h hx hy = absurd (omega arith)

-- two masked halves joined are the merge
pub merge_halves : (m old new : ℕ) → m < 256 → old < 256 → new < 256
    → bit_or (bit_and old (255 - m)) (bit_and new m) ≡ merge m old new
merge_halves m old new hm ho hn =
    bit_ext 8 _ _ (or_lt 8 _ _ (and_lt 8 _ _ ho (omega arith)) (and_lt 8 _ _ hn hm)) (merge_lt m old new)
    (λ j l. simp (bit_or_lem, bit_and_lem)
    (rw (bit_not 8 m j hm l, merge_bit m old new j l)
    (choose (bit m j) (bit old j) (bit new j) (bit_lt m j) (bit_lt old j) (bit_lt new j))))

pub cond_same : (t : Bool) (x : ℕ) → cond t x x ≡ x
cond_same true x = refl
cond_same false x = refl

-- a byte merged with itself is that byte, whatever the mask
pub merge_same : (m x : ℕ) → x < 256 → merge m x x ≡ x
merge_same m x h =
    bit_ext 8 _ _ (merge_lt m x x) h (λ j l. merge_bit m x x j l ∙ cond_same (has m j) (bit x j))

pub merge_means : (m old new : ℕ) → MergeMeans m old new
merge_means m old new =
    record {
      byte = merge_lt m old new;
      taken = λ j l h. merge_bit m old new j l ∙ rw h;
      kept = λ j l h. merge_bit m old new j l ∙ rw h;
      same = merge_same m old;
    }
