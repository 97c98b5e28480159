-- Demand 3: one claim about whole lists, ours and any other, over any bit map.
-- Assumes nothing.
use Rattle.std.specs.Prelude.{◌≡◌, Bool, List, ◌↔◌, ℕ, ◌<◌, ◌≤◌, T, length, get_or, replicate}
use Rattle.bursts.specs.Burst.{Burst, replay, bus_bytes, Every, Competes, CarriedBy, Ascending}
use Rattle.bursts.specs.Runs.{bursts_for}
use Rattle.bursts.specs.Stuck.{Stuck, stuck}

-- A list gets from one file to another: done in order on the first, it leaves exactly the second.
abbrev pub GetsThere : List ℕ → List ℕ → List ℕ → List Burst → Type 0
GetsThere masks from to bs = replay masks from bs ≡ to

-- A list is the shortest of all that compete and get there.
pub record Shortest (masks : List ℕ) (barred : ℕ → Bool) (end : ℕ) (from to : List ℕ) (ours : List Burst)
    : Type 0 where
  pub competes : Competes barred end ours
  pub arrives : GetsThere masks from to ours
  -- every other has at least as many bytes on the bus
  pub bytes : (other : List Burst) → Competes barred end other → GetsThere masks from to other
      → bus_bytes ours ≤ bus_bytes other
  -- and, with just as many bytes, at least as many bursts
  pub bursts : (other : List Burst) → Competes barred end other → GetsThere masks from to other
      → bus_bytes other ≡ bus_bytes ours → length ours ≤ length other
  -- its bursts ascend, and each data byte is the wanted file's
  pub ascends : Ascending 0 ours
  pub carries : Every (CarriedBy to) ours

-- Two files of bytes, as long as each other, under a map that names nothing from `end` on.
pub record Files (masks : List ℕ) (end : ℕ) (from to : List ℕ) : Type 0 where
  pub long : length to ≡ length from
  pub inside : end ≤ length from
  pub from_bytes : (p : ℕ) → get_or from p 0 < 256
  pub to_bytes : (p : ℕ) → get_or to p 0 < 256
  pub behind : (p : ℕ) → end ≤ p → get_or masks p 0 ≡ 0

-- What is asked of two files can be met where a burst may write every place, under a map that names every
-- bit.
abbrev pub WholeMap : Type 0
WholeMap =
    (from to : List ℕ) → length to ≡ length from → ((p : ℕ) → get_or from p 0 < 256)
    → ((p : ℕ) → get_or to p 0 < 256) → Files (replicate (length from) 255) (length from) from to

-- For every map, all barred places and any end: unless the files are stuck, our list is the shortest.
pub record ListLaw (masks : List ℕ) (barred : ℕ → Bool) (end : ℕ) (from to : List ℕ) : Type 0 where
  pub shortest : (Stuck masks barred from to → ⊥) → Shortest masks barred end from to
      (bursts_for barred from to)
  -- and where they are, no list that competes gets there
  pub none : Stuck masks barred from to → (other : List Burst) → Competes barred end other
      → GetsThere masks from to other → ⊥
  -- the test says which
  pub test : T (stuck masks barred from to) ↔ Stuck masks barred from to

abbrev pub ListLaws : Type 0
ListLaws =
    (masks : List ℕ) (barred : ℕ → Bool) (end : ℕ) (from to : List ℕ) → Files masks end from to
    → ListLaw masks barred end from to
