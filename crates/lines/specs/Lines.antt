-- Document 01, "Sessions": the line that a record prints.
-- Assumes nothing.
use Rattle.std.specs.Prelude.{cond, List, [], ◌∷◌, ◌++◌, ℕ, ◌+◌, ◌-◌, ◌/◌, ◌%◌, Option, None, Some, ltb}

-- the character of a digit: 0 to 9, then a to f in lower case
unfoldable pub glyph : ℕ → ℕ
glyph d = cond (ltb d 10) (0x30 + d) (0x61 + (d - 10))

-- a byte in two hex digits
unfoldable pub hex : ℕ → List ℕ
hex b = glyph (b / 16) ∷ glyph (b % 16) ∷ []

abbrev pub space : ℕ
space = 0x20

abbrev pub line_end : ℕ
line_end = 0x0A

-- a space and a byte, which a line may add
unfoldable pub added_byte : ℕ → List ℕ
added_byte b = space ∷ hex b

-- what a line adds: the byte that is shown, if one is
abbrev pub added : Option ℕ → List ℕ
added None = []
added (Some b) = added_byte b

-- a line: kind, a space, the reply, what is added, and a line end; in decimal the reply is one digit, since
-- every reply of a session is below 10
unfoldable pub line : ℕ → ℕ → List ℕ → List ℕ
line kind reply added = hex kind ++ (space ∷ glyph reply ∷ added ++ (line_end ∷ []))
