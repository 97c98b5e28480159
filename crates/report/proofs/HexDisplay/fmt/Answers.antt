-- `report::Hex` prints its bytes: each adds a space and its two digits.
-- Assumes nothing.
use Rattle.std.proofs.Common.{rules, ◌≡◌, ◌<◌, ◌+◌, ◌++◌, ◌∷◌, ℕ, List, length, take, false, ◌-◌, ◌^◌, [], refl, ap, ◌∙◌}
use Rattle.std.specs.Prelude.{get_or}
use Rattle.std.specs.Fmt.{padded_integral, format_spec, digits}
use Rattle.std.proofs.Output.{has_written_append, has_written_of_eq}
use Rattle.std.proofs.lemmas.Fmt.{hex_byte as two_digits}
use Rattle.std.proofs.lemmas.List.{flat_map_more, take_more}
use Rattle.report.specs.Hex.{hex_byte, hex_text}
use Rattle.report.proofs.HexDisplay.fmt.Goals as goal

-- what the format writes of a byte
abbrev formatted : ℕ → List ℕ
formatted b = 32 ∷ padded_integral (format_spec 32 0 4 2 (2 ^ 64 - 1)) false [] (digits 16 false b)

-- the text with a byte more
more : (xs : List ℕ) (i : ℕ) → i < length xs → get_or xs i 0 < 256
    → hex_text (take i xs) ++ formatted (get_or xs i 0) ≡ hex_text (take (i + 1) xs)
more xs i inside small =
    rw (two_digits false _ small) (flat_map_more hex_byte [] (take i xs) (get_or xs i 0) ∙ ap hex_text (search (rules, take_more)))

pub loop-byte-preserved : goal.loop-byte-preserved
loop-byte-preserved g c = λ plain.
    let bytes = c.args.self.now.0.now in
    let i = c.loop-byte.byte-index in
    let before = c.loop-byte.invariant plain in
    let written = rw (c.in_radix.ensures, c.laid_out.ensures) at c.in_ok-write.ensures.writes in
    has_written_of_eq _ _ (hex_text (take i bytes) ++ formatted (get_or bytes i 0)) (hex_text (take (i + 1) bytes)) _ (more bytes i (search rules) (search rules))
    (has_written_append _ _ (hex_text (take i bytes)) _ (formatted (get_or bytes i 0)) _ before (written before.plain refl))
