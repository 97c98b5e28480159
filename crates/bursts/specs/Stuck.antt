-- Document 01, "The list of writes": a bit that can't be written is one that the map doesn't name; barred
-- bytes are never written. Two files that differ in either can't be brought together.
-- Assumes nothing.
use Rattle.std.specs.Prelude.{◌≡◌, Bool, true, false, not, ◌&&◌, ◌||◌, List, ◌⊎◌, ℕ, zero, suc, ◌<◌, eqb, length, get_or}
use Rattle.bits.specs.Bit.{bit, has}

-- a bit that the map does not name differs
pub record UnnamedDiffers (masks from to : List ℕ) : Type 0 where
  pub place : ℕ
  pub bit_at : ℕ
  pub low : bit_at < 8
  pub unnamed : has (get_or masks place 0) bit_at ≡ false
  pub differs : bit (get_or from place 0) bit_at ≡ bit (get_or to place 0) bit_at → ⊥

-- a barred byte differs
pub record BarredDiffers (barred : ℕ → Bool) (from to : List ℕ) : Type 0 where
  pub place : ℕ
  pub is_barred : barred place ≡ true
  pub differs : get_or from place 0 ≡ get_or to place 0 → ⊥

abbrev pub Stuck : List ℕ → (ℕ → Bool) → List ℕ → List ℕ → Type 0
Stuck masks barred from to = UnnamedDiffers masks from to ⊎ BarredDiffers barred from to

-- ---- the same as a test

-- the n lowest bits of two bytes agree wherever the mask lacks them
unfoldable pub bits_agree : ℕ → ℕ → ℕ → ℕ → Bool
bits_agree mask old new zero = true
bits_agree mask old new (suc n) = (has mask n || eqb (bit old n) (bit new n)) && bits_agree mask old new n

-- a place at which the files differ where no write reaches
unfoldable pub fixed_at : List ℕ → (ℕ → Bool) → List ℕ → List ℕ → ℕ → Bool
fixed_at masks barred from to p =
    not (bits_agree (get_or masks p 0) (get_or from p 0) (get_or to p 0) 8)
    || (barred p && not (eqb (get_or from p 0) (get_or to p 0)))

-- one of n places from p on
unfoldable pub some_from : (ℕ → Bool) → ℕ → ℕ → Bool
some_from test p zero = false
some_from test p (suc n) = test p || some_from test (suc p) n

unfoldable pub stuck : List ℕ → (ℕ → Bool) → List ℕ → List ℕ → Bool
stuck masks barred from to = some_from (fixed_at masks barred from to) 0 (length from)
