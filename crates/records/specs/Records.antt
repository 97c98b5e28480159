-- Document 01, "Sessions": one byte of kind, then a body whose length the kind fixes.
-- Assumes nothing.
use Rattle.std.specs.Prelude.{Bool, cond, ◌&&◌, List, [], ◌∷◌, ℕ, ◌+◌, ltb, leb, length, get_or, drop}

-- What stands at a place: a whole record with its kind, the place of its body and that of the next record; a
-- kind byte whose body is cut short, or which is no known kind; or nothing.
pub data Step : Type 0 where
  Record : (kind body next : ℕ) → Step
  Broken : ℕ → Step
  End : Step

-- how many bytes the body has, by kind from 01 on: request, register, colour cell, cursor byte, a register
-- that is shown; every other kind is unknown, and has none
unfoldable pub body_length : ℕ → ℕ
body_length kind = get_or (0 ∷ 18 ∷ 2 ∷ 4 ∷ 2 ∷ 1 ∷ []) kind 0

-- of a known kind, and all of the body is there
unfoldable pub whole : ℕ → List ℕ → Bool
whole kind rest = ltb 0 (body_length kind) && leb (body_length kind) (length rest)

-- what stands at a place, from what is left there: a record with the place of its body and that of the next
-- record, a broken one, or the end
unfoldable pub step_of : ℕ → List ℕ → Step
step_of at [] = End
step_of at (kind ∷ rest) =
    cond (whole kind rest) (Record kind (at + 1) (at + 1 + body_length kind)) (Broken kind)

unfoldable pub record_at : List ℕ → ℕ → Step
record_at session at = step_of at (drop at session)
