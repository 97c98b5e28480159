-- The picture's fields lie in the printed bit map: each fact is computed over the whole table.
-- Assumes nothing.
use mathlib.Core.Path.{◌≡◌, refl}
use mathlib.Core.Bool.{Bool, true, false, cond}
use mathlib.Core.List.{List, [], ◌∷◌, ◌++◌, map, cons-ne-nil}
use mathlib.Core.Logic.{⊎_elim}
use Prim.Native.Nat.{ℕ, zero, suc, ◌+◌, ◌-◌, ◌<◌}
use native.Mathlib.Nat.{eq-or-lt_of_le, not-suc-le-zero}
use native.Mathlib.Omega.{arith}
use lib.Dec.{T}
use lib.ListN.{get_or}
use Rattle.bits.specs.Bit.{bit, has, number}
use Rattle.bits.proofs.Tests.{tests, or_cases}
use Rattle.pieces.specs.Piece.{Field, holds, owns, width}
use Rattle.fields.specs.Fields.{pieces, lie_all, apart_all, distinct}
use Rattle.fields.proofs.Lists.{field_laws}
use Rattle.chip.specs.Map.{masks, masks_from, named_at, printed}
use Rattle.chip.specs.Fields.{listed_fields, picture_fields, widths_with, field_rows, owned_from, unnamed_of}
use Rattle.chip.specs.Fields.{unnamed, FieldsInMap}

-- two lists that make none together are none each
left_none : {A : Type 0} (s t : List A) → s ++ t ≡ [] → s ≡ []
left_none [] t e = refl
left_none (x ∷ s) t e = absurd (cons-ne-nil x (s ++ t) e)

right_none : {A : Type 0} (s t : List A) → s ++ t ≡ [] → t ≡ []
right_none [] t e = e
right_none (x ∷ s) t e = absurd (cons-ne-nil x (s ++ t) e)

named_one : (b : Bool) (x : ℕ × ℕ) → cond b [] (x ∷ []) ≡ [] → b ≡ true
named_one true x e = refl
named_one false x e = absurd (cons-ne-nil x [] e)

named_piece : (mask place position n : ℕ) → unnamed_of mask place position n ≡ [] → (i : ℕ) → i < n
    → has mask (position + i) ≡ true
unfolding unnamed_of
named_piece mask place position zero e i l = absurd (not-suc-le-zero l)
named_piece mask place position (suc n) e i l =
    ⊎_elim (λ k. rw k
    (named_one (has mask (position + n)) (place, position + n)
    (right_none (unnamed_of mask place position n) _ e)))
    (λ k. named_piece mask place position n (left_none (unnamed_of mask place position n) _ e) i k)
    (eq-or-lt_of_le (omega arith))

-- a table names every bit of a field in which it leaves none unnamed
pub named_field : (table : List ℕ) (f : Field) → unnamed table f ≡ [] → (q j : ℕ) → T (owns f q j)
    → has (get_or table q 0) j ≡ true
unfolding unnamed owns
named_field table [] e q j t = absurd t
named_field table (p ∷ ps) e q j t =
    let here = unnamed_of (get_or table p.place 0) p.place p.position p.width in
    ⊎_elim
    (λ h.
    let k = simp tests at h in
    let s : p.position + (j - p.position) ≡ j = omega arith in
    rw (k.0, ← s)
    (named_piece _ p.place p.position p.width (left_none here (unnamed table ps) e)
    (j - p.position) (omega arith)))
    (named_field table ps (right_none here (unnamed table ps) e) q j)
    (or_cases (holds p q j) (owns ps q j) t)

fields_apart : T (distinct (pieces picture_fields))
unfolding distinct apart_all pieces picture_fields
fields_apart = tt

fields_lie : T (lie_all 256 (pieces picture_fields))
unfolding lie_all pieces picture_fields
fields_lie = tt

all_named : unnamed masks (pieces picture_fields) ≡ []
unfolding unnamed unnamed_of bit masks masks_from named_at printed pieces picture_fields
all_named = refl

one_differs : unnamed masks (pieces listed_fields) ≡ ((0x99, 3) ∷ [])
unfolding unnamed unnamed_of bit masks masks_from named_at printed pieces listed_fields
one_differs = refl

field_widths : map width picture_fields ≡ widths_with 11
unfolding width picture_fields
field_widths = refl

listed_widths : map width listed_fields ≡ widths_with 12
unfolding width listed_fields
listed_widths = refl

field_bits : owned_from (pieces picture_fields) 0 256 ≡ masks_from field_rows 0 256
unfolding owned_from number owns pieces picture_fields masks_from named_at field_rows
field_bits = refl

pub fields_in_map : FieldsInMap
fields_in_map =
    record {
      lie = fields_lie;
      apart = fields_apart;
      shared = field_laws.shared (pieces picture_fields) fields_apart;
      widths = field_widths;
      listed = listed_widths;
      owned = field_bits;
      named = named_field masks (pieces picture_fields) all_named;
      differs = one_differs;
    }
