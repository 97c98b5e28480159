-- Where a field may stand: the bits of each of its pieces lie in one byte of the file.
-- Assumes nothing.
use Rattle.std.specs.Prelude.{List, [], ◌∷◌, ℕ, ◌+◌, ◌<◌, ◌≤◌}
use Rattle.pieces.specs.Piece.{Piece}

-- every piece lies in a byte of a file of n bytes
abbrev pub Lies : ℕ → List Piece → Type 0
Lies n [] = Unit {0}
Lies n (p ∷ ps) = (p.place < n) × (p.position + p.width ≤ 8) × Lies n ps
