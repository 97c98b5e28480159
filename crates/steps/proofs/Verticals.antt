-- The vertical part, from one division of N by D.
-- Assumes nothing.
use mathlib.Core.Bool.{cond}
use mathlib.Core.Logic.{⊎_elim}
use mathlib.Core.Path.{◌≡◌}
use Prim.Native.Nat.{ℕ, ◌+◌, ◌*◌, ◌/◌, ◌%◌, ◌<◌, ◌≤◌}
use native.Mathlib.Omega.{arith}
use borrow.Author.Tests.{le-leb, lt-leb}
use lib.Dec.{leb}
use Rattle.bits.proofs.Tests.{le_or_lt}
use Rattle.scaler.specs.Numbers.{yiwgto_of}
use Rattle.scaler.specs.Rounding.{nearest}
use Rattle.scaler.proofs.Rounds.{nearest_up, nearest_down, half, thrice, reached_yes, reached_no}
use Rattle.steps.specs.Parts.{vertical_of}

module _ (n d s : ℕ) (h : 0 < d) where
  nearest_half : nearest n d ≡ n / d + cond (leb d (2 * (n % d))) 1 0
  nearest_half =
      ⊎_elim (λ l. rw (le-leb d (2 * (n % d)) l) (nearest_up n d h l))
      (λ l. rw (lt-leb d (2 * (n % d)) l, nearest_down n d h l) (omega arith))
      (le_or_lt d (2 * (n % d)))

  pub vertical_early : s ≤ n / d
      → vertical_of n d s ≡ record {
        yinc = n / d + cond (leb d (2 * (n % d))) 1 0;
        yiwgto = 2048 + n / d / 2;
        top = n / d;
        late = 0;
      }
  unfolding vertical_of yiwgto_of
  vertical_early e =
      rw (nearest_half, half n d h, le-leb (s * d) n (reached_yes n d h s e))

  pub vertical_late : n / d < s
      → vertical_of n d s
      ≡ record {
        yinc = n / d + cond (leb d (2 * (n % d))) 1 0;
        yiwgto = 2048 + n / d / 2;
        top = 3 * (n / d) + 3 * (n % d) / d;
        late = 1;
      }
  unfolding vertical_of yiwgto_of
  vertical_late e =
      rw (nearest_half, half n d h, lt-leb (s * d) n (reached_no n d h s e), thrice n d h)
