-- What stands at a place of a session, case by case, and what it tells.
-- Assumes nothing.
use mathlib.Core.Path.{◌≡◌, refl, sym, ap, subst, ◌∙◌}
use mathlib.Core.Bool.{Bool, true, false, ◌&&◌, and-false, and-eq-true_iff}
use mathlib.Core.List.{List, ◌∷◌}
use Prim.Native.Nat.{ℕ, zero, suc, ◌+◌, ◌<◌, ◌≤◌}
use native.Mathlib.Numerals.{add-one}
use native.Mathlib.Omega.{arith}
use borrow.Author.Tests.{ltb-true, lt-ltb, leb-true, leb-false, le-leb, lt-leb}
use lib.Dec.{ltb, leb}
use lib.ListN.{length, get_or, drop, drop_of_length-le, length-drop}
use lib.Seq.{drop-cons}
use Rattle.records.specs.Records.{body_length, whole, step_of, record_at}
use Rattle.records.specs.Records.{Step, Record, Broken, End}

-- ---- the kinds

-- a kind that is none of the five has no bytes
pub unknown : (kind : ℕ) → (kind ≡ 1 → ⊥) → (kind ≡ 2 → ⊥) → (kind ≡ 3 → ⊥) → (kind ≡ 4 → ⊥)
    → (kind ≡ 5 → ⊥) → 0 ≡ body_length kind
unfolding body_length
unknown zero one two three four five = refl
unknown (suc zero) one two three four five = absurd (one refl)
unknown (suc (suc zero)) one two three four five = absurd (two refl)
unknown (suc (suc (suc zero))) one two three four five = absurd (three refl)
unknown (suc (suc (suc (suc zero)))) one two three four five = absurd (four refl)
unknown (suc (suc (suc (suc (suc zero))))) one two three four five = absurd (five refl)
unknown (suc (suc (suc (suc (suc (suc n)))))) one two three four five = refl

-- ---- when a record is whole

module _ (kind : ℕ) (rest : List ℕ) where
  pub unknown_not_whole : body_length kind ≡ 0 → whole kind rest ≡ false
  unfolding whole
  unknown_not_whole e = rw e

  pub known_whole : 0 < body_length kind → body_length kind ≤ length rest → whole kind rest ≡ true
  unfolding whole
  known_whole k l =
      ap (λ b. b && leb (body_length kind) (length rest)) (lt-ltb 0 (body_length kind) k)
      ∙ le-leb (body_length kind) (length rest) l

  pub short_not_whole : length rest < body_length kind → whole kind rest ≡ false
  unfolding whole
  short_not_whole l =
      ap (λ b. ltb 0 (body_length kind) && b) (lt-leb (body_length kind) (length rest) l)
      ∙ and-false (ltb 0 (body_length kind))

  pub whole_known : whole kind rest ≡ true → 0 < body_length kind
  unfolding whole
  whole_known t = ltb-true _ _ ((and-eq-true_iff (ltb 0 (body_length kind)) _).0 t).0

  pub whole_long : whole kind rest ≡ true → body_length kind ≤ length rest
  unfolding whole
  whole_long t = leb-true _ _ ((and-eq-true_iff (ltb 0 (body_length kind)) _).0 t).1

-- ---- what stands behind the end, and in the session

pub at_end : (session : List ℕ) (at : ℕ) → length session ≤ at → record_at session at ≡ End
unfolding record_at step_of
at_end session at l = ap (step_of at) (drop_of_length-le session l)

module _ (session : List ℕ) (at : ℕ) (l : at < length session) where
  -- the kind byte, and what is left behind it
  abbrev kind : ℕ
  kind = get_or session at 0

  abbrev rest : List ℕ
  rest = drop (at + 1) session

  pub at_kind : record_at session at ≡ step_of at (kind ∷ rest)
  unfolding record_at
  at_kind =
      ap (step_of at) (drop-cons session at 0 l ∙ ap (λ n. kind ∷ drop n session) (sym (add-one at)))

  pub at_record : whole kind rest ≡ true
      → record_at session at ≡ Record kind (at + 1) (at + 1 + body_length kind)
  unfolding step_of
  at_record t = rw (at_kind, t)

  pub at_broken : whole kind rest ≡ false → record_at session at ≡ Broken kind
  unfolding step_of
  at_broken f = rw (at_kind, f)

-- ---- what a step tells of its place

pub record RecordTells (session : List ℕ) (at kind body next : ℕ) : Type 0 where
  pub inside : at < length session
  pub is_kind : kind ≡ get_or session at 0
  pub is_body : body ≡ at + 1
  pub is_next : next ≡ body + body_length kind
  pub is_whole : whole kind (drop body session) ≡ true
  pub fits : next ≤ length session

pub record BrokenTells (session : List ℕ) (at kind : ℕ) : Type 0 where
  pub inside : at < length session
  pub is_kind : kind ≡ get_or session at 0
  pub not_whole : whole kind (drop (at + 1) session) ≡ false

unfoldable pub Tells : List ℕ → ℕ → Step → Type 0
Tells session at (Record kind body next) = RecordTells session at kind body next
Tells session at (Broken kind) = BrokenTells session at kind
Tells session at End = length session ≤ at

module _ (session : List ℕ) (at : ℕ) where
  by_tests : (over some : Bool) → leb (length session) at ≡ over
      → whole (get_or session at 0) (drop (at + 1) session) ≡ some → Tells session at (record_at session at)
  unfolding Tells
  by_tests true some e t =
      let l = leb-true _ _ e in
      subst (Tells session at) (sym (at_end session at l)) l
  by_tests false true e t =
      let l = leb-false (length session) at e in
      let n = length-drop (at + 1) session in
      let k = whole_long (get_or session at 0) (drop (at + 1) session) t in
      let f : at + 1 + body_length (get_or session at 0) ≤ length session = omega arith in
      subst (Tells session at) (sym (at_record session at l t))
      (record { inside = l; is_kind = refl; is_body = refl; is_next = refl; is_whole = t; fits = f })
  by_tests false false e t =
      let l = leb-false _ _ e in
      subst (Tells session at) (sym (at_broken session at l t))
      (record { inside = l; is_kind = refl; not_whole = t })

  pub step_tells : Tells session at (record_at session at)
  step_tells = by_tests _ _ refl refl

  pub record_tells : (kind body next : ℕ) → record_at session at ≡ Record kind body next
      → RecordTells session at kind body next
  unfolding Tells
  record_tells k b n e = subst (Tells session at) e step_tells

  pub broken_tells : (kind : ℕ) → record_at session at ≡ Broken kind → BrokenTells session at kind
  unfolding Tells
  broken_tells k e = subst (Tells session at) e step_tells

  pub end_tells : record_at session at ≡ End → length session ≤ at
  unfolding Tells
  end_tells e = subst (Tells session at) e step_tells
