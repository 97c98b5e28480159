-- Numbers put into bytes one by one.
-- Assumes nothing.
use Rattle.std.proofs.Common.{◌≡◌, ℕ, ◌+◌, ◌*◌, ◌<◌, List, [], ◌∷◌, ◌++◌, length, get_or, take, refl, sym, arith, append_assoc, append-nil}
use Rattle.std.proofs.lemmas.List.{take_more}
use Rattle.words.specs.Words.{word_bytes, words_of}

pub words_long : (vs : List ℕ) → length (words_of vs) ≡ 4 * length vs
unfolding words_of word_bytes
words_long [] = refl
words_long (v ∷ vs) = let e = words_long vs in omega arith

words_append : (us vs : List ℕ) → words_of (us ++ vs) ≡ words_of us ++ words_of vs
unfolding words_of
words_append [] vs = refl
words_append (u ∷ us) vs = rw (words_append us vs) (sym (append_assoc (word_bytes u) (words_of us) (words_of vs)))

-- the bytes of one number more
pub next_word : (vs : List ℕ) (i : ℕ) → i < length vs
    → words_of (take (i + 1) vs) ≡ words_of (take i vs) ++ word_bytes (get_or vs i 0)
unfolding words_of
next_word vs i h =
    rw (take_more vs i 0 h, words_append (take i vs) (get_or vs i 0 ∷ []), append-nil (word_bytes (get_or vs i 0)))
