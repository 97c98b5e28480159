-- A low byte and the bits above it, as the code joins them, are the field of all.
-- Assumes nothing.
use mathlib.Core.Path.{◌≡◌}
use mathlib.Core.List.{List, [], ◌∷◌}
use Prim.Native.Nat.{ℕ, ◌+◌, ◌*◌, ◌%◌, ◌<◌, ◌≤◌}
use native.Mathlib.Nat.{lt_of_lt_of_le}
use native.Mathlib.Omega.{arith}
use lib.Pow.{pow_mono}
use Rattle.pieces.specs.Piece.{Field, piece, get, width}
use Rattle.fields.proofs.Fitting.{get_lt}

module _ (file : List ℕ) (place : ℕ) (f : Field) (narrow : width f ≤ 16) where
  high_lt : get file f < 65536
  high_lt = lt_of_lt_of_le (get_lt file f) (pow_mono {j = 16} narrow)

  low_lt : get file (piece place 0 8 ∷ []) < 256
  unfolding width
  low_lt = get_lt file (piece place 0 8 ∷ [])

  pub fits : get file f * 256 % 4294967296 + get file (piece place 0 8 ∷ []) < 4294967296
  fits = let h = high_lt in let l = low_lt in omega arith

  pub joined : get file f * 256 % 4294967296 + get file (piece place 0 8 ∷ [])
      ≡ get file (piece place 0 8 ∷ f)
  unfolding get
  joined = let h = high_lt in omega arith
