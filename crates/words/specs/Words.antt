-- Numbers of 32 bits as bytes, the low byte first.
-- Assumes nothing.
use Rattle.std.specs.Prelude.{◌≡◌, List, [], ◌∷◌, ◌++◌, ℕ, ◌+◌, ◌*◌, ◌/◌, ◌%◌, ◌<◌, length, get_or}

unfoldable pub word_bytes : ℕ → List ℕ
word_bytes v = v % 256 ∷ v / 256 % 256 ∷ v / 65536 % 256 ∷ v / 16777216 % 256 ∷ []

unfoldable pub words_of : List ℕ → List ℕ
words_of [] = []
words_of (v ∷ vs) = word_bytes v ++ words_of vs

-- the number that stands at a place of some bytes
unfoldable pub word_at : List ℕ → ℕ → ℕ
word_at bytes p =
    get_or bytes p 0 + 256 * get_or bytes (p + 1) 0 + 65536 * get_or bytes (p + 2) 0
    + 16777216 * get_or bytes (p + 3) 0

-- What the bytes mean: number i stands at place 4 x i, and there are no more bytes than they take.
pub record WordsMean : Type 0 where
  pub reads : (vs : List ℕ) (i : ℕ) → i < length vs → get_or vs i 0 < 4294967296
      → word_at (words_of vs) (4 * i) ≡ get_or vs i 0
  pub long : (vs : List ℕ) → length (words_of vs) ≡ 4 * length vs
