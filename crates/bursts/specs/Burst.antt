-- Document 01, "The list of writes": bursts, what a list of them does to a file, and what it costs. All of it
-- is over any table of masks, any barred places, and any end of the places that a burst may write.
-- Assumes nothing.
use Rattle.std.specs.Prelude.{◌≡◌, Bool, false, List, [], ◌∷◌, ◌++◌, ℕ, suc, ◌+◌, ◌<◌, ◌≤◌, length, take, drop}
use Rattle.bits.specs.Run.{merge_run}

-- data for one place after the other, from a first place on
pub record Burst : Type 0 where
  pub place : ℕ
  pub bytes : List ℕ

abbrev pub count : Burst → ℕ
count b = length b.bytes

-- a list done in turn on a file: each burst is a bus write's run, on the file that the one before left
unfoldable pub replay : List ℕ → List ℕ → List Burst → List ℕ
replay masks file [] = file
replay masks file (b ∷ bs) = replay masks (merge_run masks file b.place b.bytes) bs

-- the bytes of heading that each burst has on the bus
abbrev pub heading : ℕ
heading = 2

-- the bytes of a list on the bus: the sum of 2 + n. Its bursts are its length.
unfoldable pub bus_bytes : List Burst → ℕ
bus_bytes [] = 0
bus_bytes (b ∷ bs) = heading + count b + bus_bytes bs

-- a list in a buffer: subaddress, count and data of each burst
unfoldable pub encoded : List Burst → List ℕ
encoded [] = []
encoded (b ∷ bs) = b.place ∷ count b ∷ b.bytes ++ encoded bs

-- something holds of every burst of a list
unfoldable pub Every : (Burst → Type 0) → List Burst → Type 0
Every P [] = Unit
Every P (b ∷ bs) = P b × Every P bs

-- a burst that has data, ends at `end` at the latest, and writes no barred place
pub record Allowed (barred : ℕ → Bool) (end : ℕ) (b : Burst) : Type 0 where
  pub some : 0 < count b
  pub inside : b.place + count b ≤ end
  pub clear : (i : ℕ) → i < count b → barred (b.place + i) ≡ false

-- A list competes where all its bursts are allowed, in any order, with any data, overlaps among them; the
-- empty list competes.
abbrev pub Competes : (ℕ → Bool) → ℕ → List Burst → Type 0
Competes barred end bs = Every (Allowed barred end) bs

-- the data of a burst is the file's own, at its places
abbrev pub CarriedBy : List ℕ → Burst → Type 0
CarriedBy file b = b.bytes ≡ take (count b) (drop b.place file)

-- ascending bursts, the first at p or behind it: one or more places lie between each and the next
unfoldable pub Ascending : ℕ → List Burst → Type 0
Ascending p [] = Unit
Ascending p (b ∷ bs) = (p ≤ b.place) × Ascending (suc (b.place + count b)) bs
