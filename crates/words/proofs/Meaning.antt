-- What the bytes of numbers mean.
-- Assumes nothing.
use mathlib.Core.Path.{◌≡◌, ◌∙◌}
use mathlib.Core.List.{List, [], ◌∷◌, ◌++◌}
use Prim.Native.Nat.{ℕ, zero, suc, ◌+◌, ◌*◌, ◌/◌, ◌%◌, ◌<◌}
use native.Mathlib.Nat.{div-add-mod}
use native.Mathlib.Omega.{arith}
use lib.ListN.{length, get_or}
use lib.Seq.{get_or-append-add}
use Rattle.words.specs.Words.{word_bytes, words_of, word_at, WordsMean}
use Rattle.words.proofs.Turns.{words_long}

first_word : (v : ℕ) (rest : List ℕ) → v < 4294967296 → word_at (word_bytes v ++ rest) 0 ≡ v
unfolding word_at word_bytes
first_word v rest h =
    let e : v / 65536 ≡ v / 256 / 256 = omega arith in
    let f : v / 16777216 ≡ v / 65536 / 256 = omega arith in
    let g : v / 16777216 % 256 ≡ v / 16777216 = omega arith in
    let a = div-add-mod v 256 in
    let b = div-add-mod (v / 256) 256 in
    let d = div-add-mod (v / 65536) 256 in
    rw (g, f, e) (omega (arith, a, b, rw e at d))

behind_word : (v : ℕ) (rest : List ℕ) (p : ℕ) → word_at (word_bytes v ++ rest) (4 + p) ≡ word_at rest p
unfolding word_at word_bytes
behind_word v rest p =
    let one : 4 + p + 1 ≡ 4 + (p + 1) = omega arith in
    let two : 4 + p + 2 ≡ 4 + (p + 2) = omega arith in
    let three : 4 + p + 3 ≡ 4 + (p + 3) = omega arith in
    let at : (i : ℕ) → get_or (word_bytes v ++ rest) (4 + i) 0 ≡ get_or rest i 0 =
    λ i. get_or-append-add (word_bytes v) rest i 0 in
    rw (one, two, three, at p, at (p + 1), at (p + 2), at (p + 3))

reads_back : (vs : List ℕ) (i : ℕ) → i < length vs → get_or vs i 0 < 4294967296
    → word_at (words_of vs) (4 * i) ≡ get_or vs i 0
unfolding words_of
reads_back [] i h l = absurd (omega arith)
reads_back (v ∷ vs) zero h l = first_word v (words_of vs) l
reads_back (v ∷ vs) (suc i) h l =
    let e : 4 * suc i ≡ 4 + 4 * i = omega arith in
    rw e (behind_word v (words_of vs) (4 * i) ∙ reads_back vs i (omega arith) l)

pub words_mean : WordsMean
words_mean = record { reads = reads_back; long = words_long }
