-- A row of the cursor map is empty exactly where there is none.
-- Assumes nothing.
use mathlib.Core.Path.{◌≡◌, refl, sym, ◌∙◌}
use mathlib.Core.Bool.{Bool, true, false, cond, and-eq-true_iff}
use mathlib.Core.List.{List}
use Prim.Native.Nat.{ℕ, ◌*◌}
use native.Mathlib.Omega.{arith}
use borrow.Author.Tests.{eqb-true, leb-true}
use lib.Dec.{eqb, leb}
use lib.ListN.{length, take, drop, length-drop}
use lib.Seq.{length-take-le}
use Rattle.cursor.specs.Cursor.{has_row, row_start, row_count, row_bytes}

-- how many bytes a row has, by whether there is one
abbrev bytes_by : Bool → ℕ
bytes_by t = cond t 8 0

module _ (map : List ℕ) (row : ℕ) where
  long_by : (t : Bool) → has_row map row ≡ t → length (take (bytes_by t) (drop (cond t (8 * row) 0) map))
      ≡ bytes_by t
  long_by true e =
      let both = (and-eq-true_iff (eqb (length map) 256) (leb row 31)).0 e in
      let l = eqb-true (length map) 256 both.0 in
      let r = leb-true row 31 both.1 in
      length-take-le 8 (drop (8 * row) map) (rw (length-drop (8 * row) map) (omega arith))
  long_by false e = refl

  row_long : length (row_bytes map row) ≡ bytes_by (has_row map row)
  unfolding row_start row_count
  row_long = long_by (has_row map row) refl

  empty_by : (t : Bool) → bytes_by t ≡ 0 → t ≡ false
  empty_by true e = absurd (omega arith)
  empty_by false e = refl

  full_by : (t : Bool) → (bytes_by t ≡ 0 → ⊥) → t ≡ true
  full_by true n = refl
  full_by false n = absurd (n refl)

  pub no_row : length (row_bytes map row) ≡ 0 → has_row map row ≡ false
  no_row e = empty_by (has_row map row) (sym row_long ∙ e)

  pub some_row : (length (row_bytes map row) ≡ 0 → ⊥) → has_row map row ≡ true
  some_row n = full_by (has_row map row) (λ e. n (row_long ∙ e))
