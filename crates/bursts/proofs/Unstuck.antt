-- Files that are not stuck: a write of a wanted byte leaves it, no changed place is barred, and none lies
-- behind the end of the map.
-- Assumes nothing.
use mathlib.Core.Path.{◌≡◌, ◌∙◌}
use mathlib.Core.Bool.{Bool, true, false}
use mathlib.Core.List.{List}
use mathlib.Core.Logic.{inl, inr, ⊎_elim}
use Prim.Native.Nat.{ℕ, ◌<◌}
use borrow.Author.Tests.{eqb-false, eqb-true, not-true, not-false}
use lib.Dec.{eqb}
use lib.ListN.{get_or}
use lib.Pow.{pow_pos}
use Rattle.bits.specs.Bit.{bit, has}
use Rattle.bits.specs.Merge.{merge}
use Rattle.bits.proofs.Digits.{bit_ext, bit_high}
use Rattle.bits.proofs.Merging.{merge_lt, merge_means}
use Rattle.bits.proofs.Tests.{le_or_lt}
use Rattle.bursts.specs.Runs.{changed}
use Rattle.bursts.specs.Stuck.{Stuck}
use Rattle.bursts.specs.Shortest.{Files}
use Rattle.bursts.proofs.Bridges.{either}

-- a changed place is one where the files differ
module _ (from to : List ℕ) (p : ℕ) where
  pub changed_differs : changed from to p ≡ true → get_or from p 0 ≡ get_or to p 0 → ⊥
  unfolding changed
  changed_differs t = eqb-false (get_or from p 0) (get_or to p 0) (not-true _ t)

  pub unchanged_same : changed from to p ≡ false → get_or from p 0 ≡ get_or to p 0
  unfolding changed
  unchanged_same f = eqb-true (get_or from p 0) (get_or to p 0) (not-false _ f)

module _ (masks : List ℕ) (barred : ℕ → Bool) (end : ℕ) (from to : List ℕ) (files : Files masks end from to)
    (unstuck : Stuck masks barred from to → ⊥) where
  agrees : (p j : ℕ) → j < 8 → has (get_or masks p 0) j ≡ false → bit (get_or from p 0) j ≡ bit (get_or to p 0) j
  agrees p j l h =
      ⊎_elim (λ t. eqb-true _ _ t)
      (λ f. absurd (unstuck (inl (record {
        place = p;
        bit_at = j;
        low = l;
        unnamed = h;
        differs = eqb-false _ _ f;
      }))))
      (either (eqb (bit (get_or from p 0) j) (bit (get_or to p 0) j)))

  pub changed_free : (p : ℕ) → changed from to p ≡ true → barred p ≡ false
  changed_free p t =
      ⊎_elim (λ b. absurd (unstuck (inr (record {
        place = p;
        is_barred = b;
        differs = changed_differs from to p t;
      }))))
      (λ f. f) (either (barred p))

  pub merges : (p : ℕ) → merge (get_or masks p 0) (get_or from p 0) (get_or to p 0) ≡ get_or to p 0
  merges p =
      bit_ext 8 _ _ (merge_lt _ _ _) (files.to_bytes p)
      (λ j l. ⊎_elim ((merge_means _ _ _).taken j l)
      (λ h. (merge_means _ _ _).kept j l h ∙ agrees p j l h) (either (has (get_or masks p 0) j)))

  -- behind the end the map names nothing
  pub changed_below : (p : ℕ) → changed from to p ≡ true → p < end
  changed_below p t =
      ⊎_elim (λ l. absurd (changed_differs from to p t
      (bit_ext 8 _ _ (files.from_bytes p) (files.to_bytes p)
      (λ j k. agrees p j k (rw (files.behind p l, bit_high 0 j (pow_pos j)))))))
      (λ l. l) (le_or_lt end p)
