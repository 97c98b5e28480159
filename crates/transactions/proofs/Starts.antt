-- The data of a write: the start cell that it may begin with, and the part of the transaction that it is.
-- Assumes nothing.
use mathlib.Core.Path.{◌≡◌, refl}
use mathlib.Core.List.{List, [], ◌∷◌}
use Prim.Native.Nat.{ℕ, ◌-◌, ◌<◌}
use native.Mathlib.Nat.{not-suc-le-zero, le_refl}
use lib.ListN.{length, get_or, take, drop, length-drop}
use lib.Seq.{take_all}
use Rattle.transactions.specs.Writes.{from_start}

pub some_start : {A : Type 0} (none : A) (some : ℕ → List ℕ → A) (l : List ℕ) → 0 < length l
    → from_start none some l ≡ some (get_or l 0 0) (drop 1 l)
unfolding from_start
some_start none some [] h = absurd (not-suc-le-zero h)
some_start none some (x ∷ l) h = refl

-- the part of a list from k on, as a lent part has it
pub tail_part : (k : ℕ) (l : List ℕ) → take (length l - k) (drop k l) ≡ drop k l
tail_part k l = take_all (length l - k) (drop k l) (rw length-drop (le_refl (length l - k)))
