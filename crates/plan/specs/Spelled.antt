-- Document 01, "The list of writes": a list in the buffer, from its headings.
-- Assumes nothing.
use Rattle.std.specs.Prelude.{List, [], ◌∷◌, ◌++◌, ℕ, ◌+◌, ◌≤◌, length, take, drop}

-- each heading with its data behind it
unfoldable pub spelled : List ℕ → List ℕ → List ℕ
spelled to [] = []
spelled to (start ∷ []) = []
spelled to (start ∷ n ∷ hs) = start ∷ n ∷ take n (drop start to) ++ spelled to hs

-- every heading's places lie in the file
unfoldable pub HeadsFit : List ℕ → List ℕ → Type 0
HeadsFit to [] = Unit
HeadsFit to (start ∷ []) = Unit
HeadsFit to (start ∷ n ∷ hs) = (start + n ≤ length to) × HeadsFit to hs
