-- One piece of a field: which bits a put changes, and what a get then gives.
-- Assumes nothing.
use mathlib.Core.Path.{◌≡◌, refl, sym, ◌∙◌, ap}
use mathlib.Core.Bool.{Bool, true, false, not, cond}
use mathlib.Core.List.{List, [], ◌∷◌}
use mathlib.Core.Logic.{⊎_elim}
use Prim.Native.Nat.{ℕ, zero, suc, ◌+◌, ◌-◌, ◌%◌, ◌^◌, ◌<◌, ◌≤◌}
use native.Mathlib.Nat.{add-sub_cancel_left}
use native.Mathlib.Decide.{ℕ_discrete}
use native.Mathlib.Omega.{arith}
use borrow.Author.Tests.{eq-eqb, ne_eqb}
use lib.Dec.{T, eqb, leb, T_not}
use lib.ListN.{length, get_or, set, length-set}
use lib.Seq.{get_or-set_same, get_or-set_other, set-get_or}
use Rattle.bits.specs.Bit.{bit}
use Rattle.bits.proofs.Digits.{bit_lt, number_lt, bit_number, number_bit, number_cong, bit_ext}
use Rattle.bits.proofs.Tests.{tests, or_cases, is_true, from_true, eqb_iff}
use Rattle.pieces.specs.Piece.{Piece, within, holds, bits_at, with_bits, get_piece, put_piece}
use Rattle.pieces.proofs.Bytes.{with_bits_lt, with_bits_bit}
use Rattle.fields.specs.Fields.{apart}
use Rattle.fields.specs.Laws.{Bytes}

pub length_put_piece : (file : List ℕ) (p : Piece) (v : ℕ) → length (put_piece file p v) ≡ length file
unfolding put_piece
length_put_piece file p v = length-set file p.place _

-- a put changes the bits that the piece has, and no other of any place
pub put_piece_bit : (file : List ℕ) (p : Piece) (v : ℕ) → p.place < length file → (q j : ℕ) → j < 8
    → bit (get_or (put_piece file p v) q 0) j
    ≡ cond (holds p q j) (bit v (j - p.position)) (bit (get_or file q 0) j)
unfolding put_piece
put_piece_bit file p v l q j k = at_place (ℕ_discrete q p.place)
  where
    at_place : Dec (q ≡ p.place)
        → bit (get_or (set file p.place
        (with_bits (get_or file p.place 0) p.position p.width v)) q 0) j
        ≡ cond (holds p q j) (bit v (j - p.position)) (bit (get_or file q 0) j)
    at_place (yes e) =
        rw (
          e,
          get_or-set_same file p.place
              (with_bits (get_or file p.place 0) p.position p.width v) 0 l,
          eq-eqb p.place p.place refl,
        )
        (with_bits_bit (get_or file p.place 0) p.position p.width v j k)
    at_place (no n) = rw (get_or-set_other file p.place q _ 0 n, ne_eqb q p.place n)

-- a list of bytes stays one
bytes_set : (file : List ℕ) (i x : ℕ) → x < 256 → Bytes file → Bytes (set file i x)
bytes_set [] i x l b q = b q
bytes_set (y ∷ ys) zero x l b zero = l
bytes_set (y ∷ ys) zero x l b (suc q) = b (suc q)
bytes_set (y ∷ ys) (suc i) x l b zero = b zero
bytes_set (y ∷ ys) (suc i) x l b (suc q) = bytes_set ys i x l (λ r. b (suc r)) q

pub put_piece_bytes : (file : List ℕ) (p : Piece) (v : ℕ) → Bytes file → Bytes (put_piece file p v)
unfolding put_piece
put_piece_bytes file p v =
    bytes_set file p.place _ (with_bits_lt (get_or file p.place 0) p.position p.width v)

-- a get depends on the piece's own bits alone
pub get_piece_cong : (a b : List ℕ) (p : Piece)
    → ((i : ℕ) → i < p.width → bit (get_or a p.place 0) (p.position + i)
    ≡ bit (get_or b p.place 0) (p.position + i))
    → get_piece a p ≡ get_piece b p
unfolding get_piece bits_at
get_piece_cong a b p h = number_cong p.width _ _ h

pub get_piece_lt : (file : List ℕ) (p : Piece) → get_piece file p < 2 ^ p.width
unfolding get_piece bits_at
get_piece_lt file p = number_lt p.width _ (λ i. bit_lt (get_or file p.place 0) (p.position + i))

pub get_piece_bit : (file : List ℕ) (p : Piece) (i : ℕ) → i < p.width → bit (get_piece file p) i
    ≡ bit (get_or file p.place 0) (p.position + i)
unfolding get_piece bits_at
get_piece_bit file p i l =
    bit_number p.width _ (λ k. bit_lt (get_or file p.place 0) (p.position + k)) i l

-- the piece has its own bits
pub holds_own : (p : Piece) (i : ℕ) → i < p.width → T (holds p p.place (p.position + i))
holds_own p i l = simp tests (refl, (omega arith, omega arith))

pub get_put_piece : (file : List ℕ) (p : Piece) (v : ℕ) → p.place < length file → p.position + p.width ≤ 8
    → get_piece (put_piece file p v) p ≡ v % 2 ^ p.width
unfolding get_piece bits_at
get_put_piece file p v l k =
    number_cong p.width _ (bit v)
    (λ i h. put_piece_bit file p v l p.place (p.position + i) (omega arith)
    ∙ rw (
      is_true (holds p p.place (p.position + i)) (holds_own p i h),
      add-sub_cancel_left p.position i,
    ))
    ∙ number_bit p.width v

-- what is in a piece, put back, changes nothing, whatever stands above it in v
pub put_get_piece : (file : List ℕ) (p : Piece) (v : ℕ) → ((q : ℕ) → get_or file q 0 < 256)
    → ((i : ℕ) → i < p.width → bit v i ≡ bit (get_or file p.place 0) (p.position + i)) → put_piece file p v
    ≡ file
unfolding put_piece
put_get_piece file p v bytes h =
    ap (set file p.place)
    (bit_ext 8 _ _ (with_bits_lt _ _ _ v) (bytes p.place)
    (λ j k. with_bits_bit _ p.position p.width v j k ∙ kept j _ refl))
    ∙ set-get_or file p.place 0
  where
    kept : (j : ℕ) (t : Bool) → within p.position p.width j ≡ t
        → cond t (bit v (j - p.position)) (bit (get_or file p.place 0) j) ≡ bit (get_or file p.place 0) j
    kept j true e =
        let t = simp tests at (from_true (within p.position p.width j) e) in
        let k : p.position + (j - p.position) ≡ j = omega arith in
        h (j - p.position) (omega arith) ∙ ap (bit (get_or file p.place 0)) k
    kept j false e = refl

-- two pieces that are apart have no bit in common
pub apart_sound : (p q : Piece) → T (apart p q) → (r j : ℕ) → T (holds p r j) → T (holds q r j) → ⊥
apart_sound p q t r j a b =
    let ha = simp tests at a in
    let hb = simp tests at b in
    ⊎_elim
    (λ n. T_not (eqb p.place q.place) n ((eqb_iff p.place q.place).1 (sym ha.0 ∙ hb.0)))
    (λ o. ⊎_elim (λ u. let hu = simp tests at u in omega arith) (λ u. let hu = simp tests at u in omega arith)
    (or_cases (leb (p.position + p.width) q.position) (leb (q.position + q.width) p.position) o))
    (or_cases (not (eqb p.place q.place)) _ t)
