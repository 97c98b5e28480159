-- A number put into a field of several pieces, and what a get then gives.
-- Assumes nothing.
use mathlib.Core.Path.{◌≡◌, refl, sym, ◌∙◌, ap}
use mathlib.Core.Bool.{false}
use mathlib.Core.List.{List, [], ◌∷◌}
use mathlib.Core.Logic.{inl, inr, ⊎_elim}
use Prim.Native.Nat.{ℕ, zero, suc, ◌+◌, ◌*◌, ◌/◌, ◌%◌, ◌^◌, ◌<◌}
use native.Mathlib.Nat.{mod-eq_of_lt, not-suc-le-zero, le_of_suc-le-suc}
use native.Mathlib.Omega.{arith}
use lib.Dec.{T}
use lib.ListN.{length, get_or}
use lib.Pow.{mod-pow-add, high}
use Rattle.bits.specs.Bit.{bit}
use Rattle.bits.proofs.Digits.{bit_under}
use Rattle.bits.proofs.Tests.{or_left, or_right, or_in, tests, and_iff, or_cases, is_false}
use Rattle.pieces.specs.Piece.{Piece, Field, holds, owns, get_piece, put_piece, get, put, width}
use Rattle.fields.specs.Fields.{lies, lie_all, apart, apart_all, distinct}
use Rattle.fields.specs.Laws.{Bytes, PutMeans, nowhere, NoneShared}
use Rattle.fields.proofs.Pieces.{length_put_piece, put_piece_bytes, put_piece_bit, get_piece_cong}
use Rattle.fields.proofs.Pieces.{get_piece_lt}
use Rattle.fields.proofs.Pieces.{get_piece_bit, holds_own, get_put_piece, put_get_piece, apart_sound}

-- ---- tests

-- the pieces of a tail own no bit of a piece that is apart from them all
pub apart_all_lem : (p : Piece) (qs : Field) → T (apart_all p qs) → (r j : ℕ) → T (holds p r j) → T (owns qs r j)
    → ⊥
unfolding apart_all owns
apart_all_lem p [] t r j a b = b
apart_all_lem p (q ∷ qs) t r j a b =
    let h = (and_iff (apart p q) (apart_all p qs)).0 t in
    ⊎_elim (apart_sound p q h.0 r j a) (apart_all_lem p qs h.1 r j a)
    (or_cases (holds q r j) (owns qs r j) b)

-- ---- bits

pub length_put : (file : List ℕ) (f : Field) (v : ℕ) → length (put file f v) ≡ length file
unfolding put
length_put file [] v = refl
length_put file (p ∷ ps) v = length_put (put_piece file p v) ps _ ∙ length_put_piece file p v

pub put_bytes : (file : List ℕ) (f : Field) (v : ℕ) → Bytes file → Bytes (put file f v)
unfolding put
put_bytes file [] v b = b
put_bytes file (p ∷ ps) v b = put_bytes (put_piece file p v) ps _ (put_piece_bytes file p v b)

module _ (n : ℕ) where
  pub put_outside : (file : List ℕ) (f : Field) (v : ℕ) → n ≡ length file → T (lie_all n f) → (q j : ℕ)
      → j < 8 → owns f q j ≡ false
      → bit (get_or (put file f v) q 0) j ≡ bit (get_or file q 0) j
  unfolding put lie_all owns
  put_outside file [] v e t q j l o = refl
  put_outside file (p ∷ ps) v e t q j l o =
      let h = (and_iff (lies n p) (lie_all n ps)).0 t in
      let k = simp tests at h.0 in
      put_outside (put_piece file p v) ps (v / 2 ^ p.width) (e ∙ sym (length_put_piece file p v))
      h.1 q j l (or_right (holds p q j) (owns ps q j) o)
      ∙ put_piece_bit file p v (omega arith) q j l ∙ rw (or_left (holds p q j) (owns ps q j) o)

  -- a get depends on the field's own bits alone
  pub get_cong : (a b : List ℕ) (f : Field) → T (lie_all n f)
      → ((q j : ℕ) → j < 8 → T (owns f q j) → bit (get_or a q 0) j ≡ bit (get_or b q 0) j)
      → get a f ≡ get b f
  unfolding get lie_all owns
  get_cong a b [] t h = refl
  get_cong a b (p ∷ ps) t h =
      let k = (and_iff (lies n p) (lie_all n ps)).0 t in
      let s = simp tests at k.0 in
      rw (
        get_cong a b ps k.1 (λ q j l o. h q j l (or_in (holds p q j) (owns ps q j) (inr o))),
        get_piece_cong a b p
            (λ i l. h p.place (p.position + i) (omega arith)
            (or_in (holds p p.place (p.position + i)) (owns ps p.place (p.position + i))
            (inl (holds_own p i l)))),
      )

  -- the field gives what fits it of the number that was put
  pub get_put : (file : List ℕ) (f : Field) (v : ℕ) → n ≡ length file → T (lie_all n f) → T (distinct f)
      → get (put file f v) f ≡ v % 2 ^ width f
  unfolding get put lie_all distinct width
  get_put file [] v e t d = omega arith
  get_put file (p ∷ ps) v e t d =
      let k = (and_iff (lies n p) (lie_all n ps)).0 t in
      let s = simp tests at k.0 in
      let a = (and_iff (apart_all p ps) (distinct ps)).0 d in
      let file' = put_piece file p v in
      let e' : n ≡ length file' = e ∙ sym (length_put_piece file p v) in
      let own = get_piece_cong (put file' ps (v / 2 ^ p.width)) file' p
      (λ i l. put_outside file' ps (v / 2 ^ p.width) e' k.1 p.place (p.position + i) (omega arith)
      (is_false (owns ps p.place (p.position + i))
      (apart_all_lem p ps a.0 p.place (p.position + i) (holds_own p i l)))) in
      rw (
        get_put file' ps (v / 2 ^ p.width) e' k.1 a.1,
        own,
        get_put_piece file p v (omega arith) (omega arith),
        mod-pow-add v (width ps) p.width,
      )

  -- what a field gives, put back, changes nothing
  pub put_get : (file : List ℕ) (f : Field) → Bytes file → n ≡ length file → T (lie_all n f)
      → put file f (get file f) ≡ file
  unfolding get put lie_all
  put_get file [] b e t = refl
  put_get file (p ∷ ps) b e t =
      let k = (and_iff (lies n p) (lie_all n ps)).0 t in
      let s = simp tests at k.0 in
      let g = get file ps in
      let lt = get_piece_lt file p in
      rw (
        put_get_piece file p (g * 2 ^ p.width + get_piece file p) b
            (λ i l. bit_under g p.width _ i l ∙ get_piece_bit file p i l),
        high g p.width lt,
      )
      (put_get file ps b e k.1)

-- ---- the law of one field

pub put_means : (file : List ℕ) (f : Field) (v : ℕ) → T (lie_all (length file) f) → T (distinct f)
    → PutMeans file f v (put file f v)
put_means file f v t d =
    record {
      long = length_put file f v;
      bytes = put_bytes file f v;
      reads = λ l. get_put (length file) file f v refl t d ∙ mod-eq_of_lt l;
      outside = put_outside (length file) file f v refl t;
      others = λ g tg h.
          get_cong (length file) (put file f v) file g tg
          (λ q j l o. put_outside (length file) file f v refl t q j l
          (is_false (owns f q j) (λ u. h q j u o)));
    }

-- ---- no bit of any place is in two pieces of a field that passes the test

-- a bit of one of its pieces is a bit of the field
owned : (ps : Field) (q j k : ℕ) → k < length ps → T (holds (get_or ps k nowhere) q j) → T (owns ps q j)
unfolding owns
owned [] q j k l h = absurd (not-suc-le-zero l)
owned (p ∷ ps) q j zero l h = or_in (holds p q j) (owns ps q j) (inl h)
owned (p ∷ ps) q j (suc k) l h =
    or_in (holds p q j) (owns ps q j) (inr (owned ps q j k (le_of_suc-le-suc l) h))

pub none_shared : (ps : Field) → T (distinct ps) → NoneShared ps
unfolding distinct
none_shared [] d q j i k li lk hi hk = absurd (not-suc-le-zero li)
none_shared (p ∷ ps) d q j zero zero li lk hi hk = refl
none_shared (p ∷ ps) d q j zero (suc k) li lk hi hk =
    let a = (and_iff (apart_all p ps) (distinct ps)).0 d in
    absurd (apart_all_lem p ps a.0 q j hi (owned ps q j k (le_of_suc-le-suc lk) hk))
none_shared (p ∷ ps) d q j (suc i) zero li lk hi hk =
    let a = (and_iff (apart_all p ps) (distinct ps)).0 d in
    absurd (apart_all_lem p ps a.0 q j hk (owned ps q j i (le_of_suc-le-suc li) hi))
none_shared (p ∷ ps) d q j (suc i) (suc k) li lk hi hk =
    let a = (and_iff (apart_all p ps) (distinct ps)).0 d in
    ap suc (none_shared ps a.1 q j i k (le_of_suc-le-suc li) (le_of_suc-le-suc lk) hi hk)
