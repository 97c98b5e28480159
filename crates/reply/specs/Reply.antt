-- Document 01, "Reply numbers": the number of each answer, and the choice among several.
-- Assumes nothing.
use Rattle.std.specs.Prelude.{◌≡◌, Bool, true, false, cond, ◌&&◌, ◌||◌, List, [], ◌∷◌, ℕ, ◌≤◌, T, eqb, ltb}

abbrev pub done : ℕ
done = 0

-- a transaction, a read or a lent file of the wrong length
abbrev pub wrong_length : ℕ
wrong_length = 1

-- another first byte than the write address, or another third byte of a read than the read address
abbrev pub wrong_address : ℕ
wrong_address = 2

-- a run that passes its end, or colour bytes that are not whole threes
abbrev pub passes_end : ℕ
passes_end = 3

-- a standard or a source picture that cannot be, or a wrong chip byte
abbrev pub wrong_request : ℕ
wrong_request = 4

-- an output limit is broken
abbrev pub output_limit : ℕ
output_limit = 5

-- a number does not fit its field
abbrev pub too_large : ℕ
too_large = 6

-- the pixel clock is over 45 MHz
abbrev pub too_fast : ℕ
too_fast = 7

-- a weight is below 0 or does not fit its field
abbrev pub wrong_weight : ℕ
wrong_weight = 8

-- the file is no accepted picture's
abbrev pub no_picture : ℕ
no_picture = 9

-- two files that differ in a bit that the map does not name, or in a caption byte
abbrev pub not_writable : ℕ
not_writable = 10

-- a list of writes that is longer than the lent buffer
abbrev pub too_long : ℕ
too_long = 11

-- a read of another place than the readable three
abbrev pub not_readable : ℕ
not_readable = 12

-- Numbers, the lowest first, each with the test of whether it applies: the lowest that applies, and 0 where
-- none does.
unfoldable pub lowest : List (ℕ × Bool) → ℕ
lowest [] = done
lowest (n ∷ ns) = cond n.1 n.0 (lowest ns)

-- whether a number applies, and whether the numbers rise, all above b
unfoldable pub applies : List (ℕ × Bool) → ℕ → Bool
applies [] n = false
applies (m ∷ ms) n = (eqb n m.0 && m.1) || applies ms n

unfoldable pub rising : ℕ → List (ℕ × Bool) → Bool
rising b [] = true
rising b (m ∷ ms) = ltb b m.0 && rising m.0 ms

-- What the number given means.
pub record LowestMeans (ns : List (ℕ × Bool)) : Type 0 where
  -- a number that is given applies
  pub given : (lowest ns ≡ done → ⊥) → T (applies ns (lowest ns))
  -- none that applies is lower
  pub least : (n : ℕ) → T (applies ns n) → lowest ns ≤ n
  -- and 0 is given only where none applies
  pub none : lowest ns ≡ done → (n : ℕ) → T (applies ns n) → ⊥

-- It means that for every list of rising numbers.
abbrev pub LowestLaw : Type 0
LowestLaw = (b : ℕ) (ns : List (ℕ × Bool)) → T (rising b ns) → LowestMeans ns
