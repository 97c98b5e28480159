-- Numbers put into a whole list of fields that share no bit.
-- Assumes nothing.
use mathlib.Core.Path.{◌≡◌, refl, sym, ◌∙◌}
use mathlib.Core.Bool.{false}
use mathlib.Core.List.{List, [], ◌∷◌, ◌++◌}
use mathlib.Core.Logic.{⊎_elim}
use Prim.Native.Nat.{ℕ, ◌<◌, ◌^◌}
use native.Mathlib.Nat.{mod-eq_of_lt}
use lib.Dec.{T, ltb, ltb→lt}
use lib.ListN.{length, get_or}
use Rattle.bits.specs.Bit.{bit}
use Rattle.bits.proofs.Tests.{or_left, or_right, and_iff, or_cases, is_false}
use Rattle.pieces.specs.Piece.{Piece, Field, holds, owns, put, width}
use Rattle.fields.specs.Fields.{pieces, put_all, get_all, lies, lie_all, apart, apart_all, distinct, fit_all}
use Rattle.fields.specs.Laws.{Bytes, Disjoint, AllMeans, FieldLaws}
use Rattle.fields.proofs.Putting.{apart_all_lem, length_put, put_bytes, put_outside, get_cong, get_put}
use Rattle.fields.proofs.Putting.{put_get}
use Rattle.fields.proofs.Putting.{put_means, none_shared}

-- ---- the tests of a joined list are those of its parts

pub lie_append : (n : ℕ) (f g : Field) → T (lie_all n (f ++ g)) → T (lie_all n f) × T (lie_all n g)
unfolding lie_all
lie_append n [] g t = (tt, t)
lie_append n (p ∷ f) g t =
    let h = (and_iff (lies n p) (lie_all n (f ++ g))).0 t in
    let r = lie_append n f g h.1 in
    ((and_iff (lies n p) (lie_all n f)).1 (h.0, r.0), r.1)

apart_append : (p : Piece) (f g : Field) → T (apart_all p (f ++ g)) → T (apart_all p f) × T (apart_all p g)
unfolding apart_all
apart_append p [] g t = (tt, t)
apart_append p (q ∷ f) g t =
    let h = (and_iff (apart p q) (apart_all p (f ++ g))).0 t in
    let r = apart_append p f g h.1 in
    ((and_iff (apart p q) (apart_all p f)).1 (h.0, r.0), r.1)

-- and the two parts have no bit in common
distinct_append : (f g : Field) → T (distinct (f ++ g)) → T (distinct f) × T (distinct g) × Disjoint f g
unfolding distinct owns
distinct_append [] g t = (tt, t, λ q j a b. a)
distinct_append (p ∷ f) g t =
    let h = (and_iff (apart_all p (f ++ g)) (distinct (f ++ g))).0 t in
    let a = apart_append p f g h.0 in
    let r = distinct_append f g h.1 in (
      (and_iff (apart_all p f) (distinct f)).1 (a.0, r.0),
      r.1,
      λ q j o u. ⊎_elim (λ k. apart_all_lem p g a.1 q j k u) (λ k. r.2 q j k u)
          (or_cases (holds p q j) (owns f q j) o),
    )

owns_append : (f g : Field) (q j : ℕ) → owns (f ++ g) q j ≡ false → (owns f q j ≡ false)
    × (owns g q j ≡ false)
unfolding owns
owns_append [] g q j e = (refl, e)
owns_append (p ∷ f) g q j e =
    let r = owns_append f g q j (or_right (holds p q j) (owns (f ++ g) q j) e) in
    (rw (or_left (holds p q j) (owns (f ++ g) q j) e) r.0, r.1)

-- ---- numbers put into a list of fields

length_put_all : (file : List ℕ) (fs : List Field) (vs : List ℕ) → length (put_all file fs vs) ≡ length file
unfolding put_all
length_put_all file [] vs = refl
length_put_all file (f ∷ fs) [] = refl
length_put_all file (f ∷ fs) (v ∷ vs) = length_put_all (put file f v) fs vs ∙ length_put file f v

put_all_bytes : (file : List ℕ) (fs : List Field) (vs : List ℕ) → Bytes file → Bytes (put_all file fs vs)
unfolding put_all
put_all_bytes file [] vs b = b
put_all_bytes file (f ∷ fs) [] b = b
put_all_bytes file (f ∷ fs) (v ∷ vs) b = put_all_bytes (put file f v) fs vs (put_bytes file f v b)

module _ (n : ℕ) where
  all_outside : (file : List ℕ) (fs : List Field) (vs : List ℕ) → n ≡ length file → T (lie_all n (pieces fs))
      → (q j : ℕ) → j < 8 → owns (pieces fs) q j ≡ false
      → bit (get_or (put_all file fs vs) q 0) j ≡ bit (get_or file q 0) j
  unfolding put_all pieces
  all_outside file [] vs e t q j l o = refl
  all_outside file (f ∷ fs) [] e t q j l o = refl
  all_outside file (f ∷ fs) (v ∷ vs) e t q j l o =
      let k = lie_append n f (pieces fs) t in
      let u = owns_append f (pieces fs) q j o in
      all_outside (put file f v) fs vs (e ∙ sym (length_put file f v)) k.1 q j l u.1
      ∙ put_outside n file f v e k.0 q j l u.0

  all_reads : (file : List ℕ) (fs : List Field) (vs : List ℕ) → n ≡ length file → T (lie_all n (pieces fs))
      → T (distinct (pieces fs)) → T (fit_all fs vs)
      → get_all (put_all file fs vs) fs ≡ vs
  unfolding put_all get_all pieces fit_all
  all_reads file [] [] e t d w = refl
  all_reads file [] (v ∷ vs) e t d w = absurd w
  all_reads file (f ∷ fs) [] e t d w = absurd w
  all_reads file (f ∷ fs) (v ∷ vs) e t d w =
      let k = lie_append n f (pieces fs) t in
      let a = distinct_append f (pieces fs) d in
      let h = (and_iff (ltb v (2 ^ width f)) (fit_all fs vs)).0 w in
      let file' = put file f v in
      let e' : n ≡ length file' = e ∙ sym (length_put file f v) in
      let own = get_cong n (put_all file' fs vs) file' f k.0
      (λ q j l o. all_outside file' fs vs e' k.1 q j l (is_false (owns (pieces fs) q j) (a.2 q j o)))
      ∙ get_put n file f v e k.0 a.0 ∙ mod-eq_of_lt (ltb→lt v (2 ^ width f) h.0) in
      rw (own, all_reads file' fs vs e' k.1 a.1 h.1)

  all_unchanged : (file : List ℕ) (fs : List Field) → Bytes file → n ≡ length file → T (lie_all n (pieces fs))
      → put_all file fs (get_all file fs) ≡ file
  unfolding put_all get_all pieces
  all_unchanged file [] b e t = refl
  all_unchanged file (f ∷ fs) b e t =
      let k = lie_append n f (pieces fs) t in
      rw (put_get n file f b e k.0) (all_unchanged file fs b e k.1)

-- ---- the laws

all_means : (file : List ℕ) (fs : List Field) (vs : List ℕ) → T (lie_all (length file) (pieces fs))
    → T (distinct (pieces fs)) → T (fit_all fs vs) → AllMeans file fs vs (put_all file fs vs)
all_means file fs vs t d w =
    record {
      long = length_put_all file fs vs;
      bytes = put_all_bytes file fs vs;
      reads = all_reads (length file) file fs vs refl t d w;
      outside = all_outside (length file) file fs vs refl t;
    }

pub field_laws : FieldLaws
field_laws =
    record {
      one = put_means;
      all = all_means;
      same = λ file f b t. put_get (length file) file f b refl t;
      same_all = λ file fs b t. all_unchanged (length file) file fs b refl t;
      shared = none_shared;
    }
