-- The fields of a picture: document 01, "From picture to fields", table of fields; and what holds of them in
-- the printed bit map.
-- Assumes nothing.
use Rattle.std.specs.Prelude.{◌≡◌, cond, true, List, [], ◌∷◌, ◌++◌, map, ℕ, zero, suc, ◌+◌, T, get_or}
use Rattle.bits.specs.Bit.{has, number}
use Rattle.pieces.specs.Piece.{Field, piece, owns, width}
use Rattle.fields.specs.Fields.{pieces, lie_all, distinct}
use Rattle.fields.specs.Laws.{NoneShared}
use Rattle.chip.specs.Map.{Row, row, rows, masks_from, masks}

-- Every field but HLEN, low bits first, in the order of the table.
abbrev pub before_HLEN : List Field
before_HLEN =
    (piece 0x61 0 1 ∷ [])  -- FISE
    ∷ (piece 0x70 0 8 ∷ piece 0x72 0 3 ∷ [])  -- ADWHS
    ∷ (piece 0x71 0 8 ∷ piece 0x72 4 3 ∷ [])  -- ADWHE
    ∷ (piece 0x7A 0 8 ∷ piece 0x7C 4 1 ∷ [])  -- FAL
    ∷ (piece 0x7B 0 8 ∷ piece 0x7C 6 1 ∷ [])  -- LAL
    ∷ (piece 0x81 0 8 ∷ piece 0x82 0 8 ∷ piece 0x83 0 8 ∷ [])  -- PCL
    ∷ (piece 0x90 0 8 ∷ piece 0x94 0 2 ∷ [])  -- XOFS
    ∷ (piece 0x91 0 8 ∷ piece 0x94 2 2 ∷ [])  -- XPIX
    ∷ (piece 0x92 0 8 ∷ piece 0x94 4 2 ∷ [])  -- YOFSO
    ∷ (piece 0x93 0 8 ∷ piece 0x94 6 2 ∷ [])  -- YOFSE
    ∷ (piece 0x95 0 8 ∷ piece 0x96 0 2 ∷ [])  -- YPIX
    ∷ []

abbrev pub after_HLEN : List Field
after_HLEN =
    (piece 0x9A 0 8 ∷ piece 0x9C 0 4 ∷ [])  -- XINC
    ∷ (piece 0x9B 0 8 ∷ piece 0x9C 4 4 ∷ [])  -- YINC
    ∷ (piece 0x9D 0 8 ∷ piece 0x9F 0 4 ∷ [])  -- YIWGTO
    ∷ (piece 0x9E 0 8 ∷ piece 0x9F 4 4 ∷ [])  -- YIWGTE
    ∷ (piece 0xA0 0 8 ∷ piece 0xA1 0 4 ∷ [])  -- YSKIP
    ∷ []

-- HLEN, with so many bits at 99h: document 01's table has four there, the printed map names three and decides
abbrev pub with_HLEN : ℕ → List Field
with_HLEN high = before_HLEN ++ ((piece 0x98 0 8 ∷ piece 0x99 0 high ∷ []) ∷ after_HLEN)

-- the table of document 01, and the fields that are used
unfoldable pub listed_fields : List Field
listed_fields = with_HLEN 4

unfoldable pub picture_fields : List Field
picture_fields = with_HLEN 3

-- The bits that the fields have, place by place, D7 first: a second reading of the two tables.
unfoldable pub field_rows : List Row
field_rows =
    row 0x61 0b0000_0001 ∷  -- FISE
    rows 0x70 0x71 0b1111_1111 ∷  -- ADWHS, ADWHE
    row 0x72 0b0111_0111 ∷  -- ADWHE, ADWHS
    rows 0x7A 0x7B 0b1111_1111 ∷  -- FAL, LAL
    row 0x7C 0b0101_0000 ∷  -- LAL8, FAL8
    rows 0x81 0x83 0b1111_1111 ∷  -- PCL
    rows 0x90 0x94 0b1111_1111 ∷  -- XOFS, XPIX, YOFSO, YOFSE, and their high bits
    row 0x95 0b1111_1111 ∷  -- YPIX
    row 0x96 0b0000_0011 ∷  -- YPIX9, YPIX8
    row 0x98 0b1111_1111 ∷  -- HLEN
    row 0x99 0b0000_0111 ∷  -- HLEN10 to HLEN8
    rows 0x9A 0xA0 0b1111_1111 ∷  -- XINC, YINC, YIWGTO, YIWGTE, YSKIP
    row 0xA1 0b0000_1111 ∷  -- YSKIP11 to YSKIP8
    []

-- the bits of n places from p on that a field has
unfoldable pub owned_from : Field → ℕ → ℕ → List ℕ
owned_from f p zero = []
owned_from f p (suc n) = number 8 (λ j. cond (owns f p j) 1 0) ∷ owned_from f (suc p) n

-- the bits of a field, as place and bit, that a table of masks does not name: of n bits of a place, and of
-- all pieces
unfoldable pub unnamed_of : ℕ → ℕ → ℕ → ℕ → List (ℕ × ℕ)
unnamed_of mask place position zero = []
unnamed_of mask place position (suc n) =
    unnamed_of mask place position n ++ cond (has mask (position + n)) [] ((place, position + n) ∷ [])

unfoldable pub unnamed : List ℕ → Field → List (ℕ × ℕ)
unnamed table [] = []
unnamed table (p ∷ ps) =
    unnamed_of (get_or table p.place 0) p.place p.position p.width ++ unnamed table ps

-- the fields' widths, in the order of the table, with that of HLEN
abbrev pub widths_with : ℕ → List ℕ
widths_with hlen = 1 ∷ 11 ∷ 11 ∷ 9 ∷ 9 ∷ 24 ∷ 10 ∷ 10 ∷ 10 ∷ 10 ∷ 10 ∷ hlen ∷ 12 ∷ 12 ∷ 12 ∷ 12 ∷ 12 ∷ []

-- Document 01: no two fields share a bit, and all lie in named bits.
pub record FieldsInMap : Type 0 where
  pub lie : T (lie_all 256 (pieces picture_fields))
  pub apart : T (distinct (pieces picture_fields))
  pub shared : NoneShared (pieces picture_fields)
  -- how wide each field is, here and in document 01's table
  pub widths : map width picture_fields ≡ widths_with 11
  pub listed : map width listed_fields ≡ widths_with 12
  -- which bits of each place the fields have
  pub owned : owned_from (pieces picture_fields) 0 256 ≡ masks_from field_rows 0 256
  pub named : (q j : ℕ) → T (owns (pieces picture_fields) q j) → has (get_or masks q 0) j ≡ true
  -- 99h bit 3 is the one bit of document 01's table that the printed map does not name
  pub differs : unnamed masks (pieces listed_fields) ≡ ((0x99, 3) ∷ [])
