-- The characters of digits.
-- Assumes nothing.
use mathlib.Core.Path.{◌≡◌, sym, ◌∙◌}
use mathlib.Core.List.{List, [], ◌∷◌}
use Prim.Native.Nat.{ℕ, zero, suc, ◌+◌, ◌<◌}
use native.Mathlib.Omega.{arith}
use borrow.Author.Tests.{lt-ltb}
use lib.ListN.{length, get_or, length-append}
use Rattle.std.proofs.Common.{Option, None, Some, drop, ◌++◌, ◌≤◌}
use Rattle.std.proofs.lemmas.List.Edits.{sets, sets-eq}
use Rattle.lines.specs.Lines.{glyph, hex, added_byte, added, line}

-- the characters of n digits from d on
abbrev pub glyphs : ℕ → ℕ → List ℕ
glyphs d zero = []
glyphs d (suc n) = glyph d ∷ glyphs (suc d) n

pub glyph_at : (d n k : ℕ) → k < n → get_or (glyphs d n) k 0 ≡ glyph (d + k)
glyph_at d zero k l = absurd (omega arith)
glyph_at d (suc n) zero l = let e : d + 0 ≡ d = omega arith in rw e
glyph_at d (suc n) (suc k) l =
    let e : d + suc k ≡ suc d + k = omega arith in rw e (glyph_at (suc d) n k (omega arith))

-- that of a decimal digit
pub decimal : (d : ℕ) → d < 10 → glyph d ≡ 0x30 + d
unfolding glyph
decimal d l = rw (lt-ltb d 10 l)

-- ---- how long a line is

pub line_long : (kind reply : ℕ) (added : List ℕ) → length (line kind reply added) ≡ 5 + length added
unfolding line hex
line_long kind reply added =
    let e = length-append added (0x0A ∷ []) in
    omega arith

pub plain_long : (kind reply : ℕ) (shown : Option ℕ) → shown ≡ None
    → length (line kind reply (added shown)) ≡ 5
plain_long kind reply shown e = rw e (line_long kind reply [])

-- with a byte that is shown it is eight bytes long
pub shown_long : (kind reply : ℕ) (shown : Option ℕ) (b : ℕ) → shown ≡ Some b
    → length (line kind reply (added shown)) ≡ 8
unfolding added_byte hex
shown_long kind reply shown b e = rw e (line_long kind reply (added (Some b)))

-- so that eight bytes are lent for it
pub shown_room : (kind reply : ℕ) (shown : Option ℕ) (b : ℕ) → shown ≡ Some b
    → (out : List ℕ) → length (line kind reply (added shown)) ≤ length out → 8 ≤ length out
shown_room kind reply shown b e out l = let n = shown_long kind reply shown b e in omega arith

-- ---- the front of a list that is written at once

pub written : (out ys : List ℕ) (e : ℕ) → e ≡ length ys → e ≤ length out → ys ++ drop e out ≡ sets out 0 ys
written out ys e is l =
    let z : 0 + length ys ≡ e = omega arith in
    sym (sets-eq ys out 0 (omega arith) ∙ rw z)
