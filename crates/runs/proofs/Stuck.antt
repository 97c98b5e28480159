-- Two files that differ where no write reaches: first the caption bytes, then the bits of every place.
-- Assumes nothing.
use mathlib.Core.Path.{◌≡◌, sym, ◌∙◌}
use mathlib.Core.Bool.{Bool, true, false, not, ◌&&◌, ◌||◌, and-eq-true_iff, or_assoc, true≢false}
use mathlib.Core.List.{List}
use mathlib.Core.Logic.{⊎_elim}
use Prim.Native.Nat.{ℕ, zero, suc, ◌+◌, ◌-◌, ◌<◌, ◌≤◌}
use native.Mathlib.Omega.{arith}
use borrow.Author.Tests.{le-leb, leb-true, not-false}
use lib.Dec.{eqb, leb}
use lib.ListN.{get_or}
use Rattle.bits.specs.Merge.{merge}
use Rattle.bits.proofs.Tests.{or_left, or_right}
use Rattle.bursts.specs.Runs.{changed}
use Rattle.bursts.specs.Stuck.{bits_agree, fixed_at}
use Rattle.bursts.proofs.Bridges.{either}
use Rattle.chip.specs.File.{caption}
use Rattle.chip.specs.Map.{masks}
use Rattle.changes.specs.Places.{same_at, same_four}
use Rattle.runs.specs.Found.{stuck_at}
use Rattle.runs.proofs.Fixing.{fixed_free, fixed_unchanged}
use Rattle.runs.proofs.Joining.{stuck_step}
use Rattle.changes.proofs.Places.{unchanged_at, four_at}

-- the first caption byte
abbrev captions : ℕ
captions = 0x67

caption_at : (d : ℕ) → d < 4 → caption (captions + d) ≡ true
unfolding caption
caption_at d l = rw (le-leb 0x67 (0x67 + d) (omega arith), le-leb (0x67 + d) 0x6A (omega arith))

module _ (from to : List ℕ) where
  -- files that are not stuck are so at no place
  free_from : stuck_at from to 0 ≡ false → (p : ℕ) → p ≤ 256 → stuck_at from to p ≡ false
  free_from f zero l = f
  free_from f (suc p) l =
      or_right (fixed_at masks caption from to p) (stuck_at from to (suc p))
      (sym (stuck_step from to p (omega arith)) ∙ free_from f p (omega arith))

  pub free_at : stuck_at from to 0 ≡ false → (p : ℕ) → p < 256 → fixed_at masks caption from to p ≡ false
  free_at f p l =
      or_left (fixed_at masks caption from to p) (stuck_at from to (suc p))
      (sym (stuck_step from to p l) ∙ free_from f p (omega arith))

  same_caption : stuck_at from to 0 ≡ false → (d : ℕ) → d < 4 → same_at from to (captions + d) ≡ true
  unfolding fixed_at
  same_caption f d l =
      let p = captions + d in
      let o = or_right (not (bits_agree (get_or masks p 0) (get_or from p 0) (get_or to p 0) 8))
      (caption p && not (same_at from to p)) (free_at f p (omega arith)) in
      not-false (same_at from to p) (rw (caption_at d l) at o)

  pub captions_stuck : same_four from to captions ≡ false → stuck_at from to 0 ≡ true
  captions_stuck e =
      ⊎_elim (λ t. t)
      (λ f. let s = same_caption f in
      let t : same_four from to captions ≡ true =
      rw (s 0 (omega arith), s 1 (omega arith), s 2 (omega arith), s 3 (omega arith)) in
      absurd (true≢false (sym t ∙ e)))
      (either (stuck_at from to 0))

  module _ (same : same_four from to captions ≡ true) where
    captions_same : (p : ℕ) → caption p ≡ true → changed from to p ≡ false
    unfolding caption
    captions_same p c =
        let k = (and-eq-true_iff (leb 0x67 p) (leb p 0x6A)).0 c in
        let l = leb-true 0x67 p k.0 in
        let m = leb-true p 0x6A k.1 in
        let e : captions + (p - captions) ≡ p = omega arith in
        unchanged_at from to p (rw e at (four_at from to captions same (p - captions) (omega arith)))

    -- the test of the code
    abbrev pub unnamed : ℕ → Bool
    unnamed p = not (eqb (merge (get_or masks p 0) (get_or from p 0) (get_or to p 0)) (get_or to p 0))

    fixed_unbarred : (p : ℕ) → get_or to p 0 < 256 → fixed_at masks caption from to p ≡ unnamed p
    fixed_unbarred p l =
        ⊎_elim (λ c. fixed_unchanged masks caption from to p l (captions_same p c))
        (λ n. fixed_free masks caption from to p l n)
        (either (caption p))

    pub stuck_more : (p : ℕ) (f : Bool) → get_or to p 0 < 256 → p < 256
        → stuck_at from to 0 ≡ (f || stuck_at from to p)
        → stuck_at from to 0 ≡ ((f || unnamed p) || stuck_at from to (suc p))
    stuck_more p f b l e =
        e ∙ rw (stuck_step from to p l, fixed_unbarred p b)
        (sym (or_assoc f (unnamed p) (stuck_at from to (suc p))))
