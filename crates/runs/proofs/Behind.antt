-- Behind the registers no bit is named, so that a changed place there can't be written.
-- Assumes nothing.
use mathlib.Core.Path.{◌≡◌, refl, ap, ◌∙◌}
use mathlib.Core.Bool.{true}
use mathlib.Core.List.{List, [], ◌∷◌}
use Prim.Native.Nat.{ℕ, zero, suc, ◌+◌, ◌-◌, ◌<◌, ◌≤◌}
use native.Mathlib.Omega.{arith}
use borrow.Author.Tests.{ne_eqb}
use lib.Dec.{eqb}
use lib.ListN.{get_or, drop}
use lib.Pow.{pow_pos}
use lib.Seq.{get_or-drop}
use Rattle.bits.specs.Merge.{merge}
use Rattle.bits.proofs.Digits.{bit_ext, bit_high}
use Rattle.bits.proofs.Merging.{merge_lt, merge_means}
use Rattle.bursts.specs.Runs.{changed}
use Rattle.bursts.specs.Stuck.{fixed_at}
use Rattle.bursts.proofs.Unstuck.{changed_differs}
use Rattle.chip.specs.File.{registers_end, caption}
use Rattle.chip.specs.Map.{masks, masks_from, named_at, printed}
use Rattle.runs.proofs.Fixing.{fixed_change}

last_masks : drop registers_end masks ≡ (0 ∷ 0 ∷ [])
unfolding masks masks_from named_at printed
last_masks = refl

none_left : (i : ℕ) → ◌≡◌ {A = ℕ} (get_or (0 ∷ 0 ∷ []) i 0) 0
none_left zero = refl
none_left (suc zero) = refl
none_left (suc (suc i)) = refl

pub masks_behind : (p : ℕ) → registers_end ≤ p → get_or masks p 0 ≡ 0
masks_behind p l =
    let e : registers_end + (p - registers_end) ≡ p = omega arith in
    rw (← e, ← get_or-drop registers_end masks (p - registers_end) 0, last_masks) (none_left (p - registers_end))

-- under no mask a byte stays
merge_none : (old new : ℕ) → old < 256 → merge 0 old new ≡ old
merge_none old new l =
    bit_ext 8 _ _ (merge_lt 0 old new) l
    (λ j k. (merge_means 0 old new).kept j k (ap (λ (x : ℕ). eqb x 1) (bit_high 0 j (pow_pos j))))

pub fixed_behind : (from to : List ℕ) (p : ℕ) → get_or from p 0 < 256 → get_or to p 0 < 256 → registers_end ≤ p
    → changed from to p ≡ true → fixed_at masks caption from to p ≡ true
fixed_behind from to p lf lt l e =
    fixed_change masks caption from to p lt e
    ∙ rw (
      masks_behind p l,
      merge_none (get_or from p 0) (get_or to p 0) lf,
      ne_eqb _ _
          (changed_differs from to p e),
    )
