-- Where the dots of a cursor map lie.
-- Assumes nothing.
use mathlib.Core.Path.{◌≡◌}
use mathlib.Core.List.{List}
use Prim.Native.Nat.{ℕ, ◌+◌, ◌*◌, ◌/◌, ◌%◌, ◌<◌}
use native.Mathlib.Omega.{arith}
use borrow.Author.Tests.{eq-eqb, le-leb}
use lib.Dec.{T}
use lib.ListN.{length, get_or, drop}
use lib.Seq.{get_or-take, get_or-drop}
use Rattle.bits.proofs.Tests.{tests}
use Rattle.pieces.specs.Piece.{holds, bits_at, get_piece}
use Rattle.fields.specs.Fields.{lies}
use Rattle.cursor.specs.Cursor.{row_start, row_count, row_bytes, dot, DotsLie}

dots_lie_in : (column row : ℕ) → column < 32 → row < 32 → T (lies 256 (dot column row))
dots_lie_in column row h k = simp tests (omega arith, (omega arith, omega arith))

in_row_lem : (map : List ℕ) (column row : ℕ) → length map ≡ 256 → column < 32 → row < 32
    → get_piece map (dot column row) ≡ bits_at (get_or (row_bytes map row) (column / 4) 0) (2 * (column % 4)) 2
unfolding get_piece row_start row_count
in_row_lem map column row l h k =
    let q : column / 4 < 8 = omega arith in
    rw (
      eq-eqb (length map) 256 l,
      le-leb row 31 (omega arith),
      get_or-take 8 (drop (8 * row) map) (column / 4) 0 q,
      get_or-drop (8 * row) map (column / 4) 0,
    )

alone : (q j c₁ r₁ c₂ r₂ : ℕ) → c₁ < 32 → c₂ < 32 → T (holds (dot c₁ r₁) q j) → T (holds (dot c₂ r₂) q j)
    → (c₁ ≡ c₂) × (r₁ ≡ r₂)
alone q j c₁ r₁ c₂ r₂ h k s t =
    let a = simp tests at s in
    let b = simp tests at t in
    (omega arith, omega arith)

every_bit : (q j : ℕ) → j < 8 → T (holds (dot (4 * (q % 8) + j / 2) (q / 8)) q j)
every_bit q j h = simp tests (omega arith, (omega arith, omega arith))

pub dots_lie : DotsLie
dots_lie = record { lie = dots_lie_in; in_row = in_row_lem; alone = alone; every = every_bit }
