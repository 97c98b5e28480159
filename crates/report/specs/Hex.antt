-- What the programs print for bytes.
-- Assumes nothing.
use Rattle.std.specs.Prelude.{List, [], ◌∷◌, ℕ, ◌/◌, ◌%◌, false}
use Rattle.std.specs.List.{flat_map}
use Rattle.std.specs.Fmt.{digit_glyph}

-- a byte: a space, and its two hex digits, the letters in lower case
abbrev pub hex_byte : ℕ → List ℕ
hex_byte b = 32 ∷ digit_glyph false (b / 16) ∷ digit_glyph false (b % 16) ∷ []

-- bytes, one after another
abbrev pub hex_text : List ℕ → List ℕ
hex_text bs = flat_map hex_byte bs
