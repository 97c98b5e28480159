-- The answer to a read, case by case, and what the reply 0 says of a file.
-- Assumes nothing.
use mathlib.Core.Bool.{Bool, true, false, cond, not}
use mathlib.Core.List.{List}
use mathlib.Core.Logic.{◌↔◌}
use mathlib.Core.Path.{◌≡◌, refl}
use Prim.Native.Nat.{ℕ}
use borrow.Author.Tests.{ne_eqb}
use lib.Dec.{eqb}
use lib.ListN.{length}
use Rattle.bits.proofs.Tests.{refusals}
use Rattle.reply.specs.Reply.{lowest, rising, LowestMeans}
use Rattle.reply.proofs.Lowest.{lowest_means}
use Rattle.scaler.specs.Answer.{fields_of, values_of}
use Rattle.scaler.specs.Limits.{request_reply}
use Rattle.picture.proofs.Accepted.{none_iff}
use Rattle.readback.specs.Reading.{numbers_in, request_in, same, is_picture, read_tests, read_reply, not_found}
use Rattle.readback.specs.Reading.{read_answer, answer_for}
use Rattle.readback.proofs.Same.{same_iff}

-- ---- from the numbers

module _ (vs : List ℕ) where
  pub refused_9 : (request_reply (request_in vs) ≡ 0 → ⊥) → answer_for vs ≡ not_found 9
  unfolding answer_for is_picture
  refused_9 n = rw (ne_eqb (request_reply (request_in vs)) 0 n)

  pub other_9 : request_reply (request_in vs) ≡ 0 → same vs (values_of (fields_of (request_in vs))) ≡ false
      → answer_for vs ≡ not_found 9
  unfolding answer_for is_picture
  other_9 e d = rw (e, d)

  pub found_0 : request_reply (request_in vs) ≡ 0 → same vs (values_of (fields_of (request_in vs))) ≡ true
      → answer_for vs ≡ record { reply = 0; request = request_in vs }
  unfolding answer_for is_picture
  found_0 e d = rw (e, d)

-- ---- from the file

pub short_1 : (file : List ℕ) → (length file ≡ 256 → ⊥) → read_answer file ≡ not_found 1
unfolding read_answer read_reply read_tests lowest
short_1 file n = rw (ne_eqb (length file) 256 n)

-- reply 9 or 0, by one test
either : {A : Type 0} (f : ℕ → A) (a : A) (b : Bool)
    → cond (eqb (cond (not b) 9 0) 0) a (f (cond (not b) 9 0)) ≡ cond b a (f 9)
either f a true = refl
either f a false = refl

pub by_numbers : (file : List ℕ) → length file ≡ 256 → read_answer file ≡ answer_for (numbers_in file)
unfolding read_answer read_reply read_tests lowest answer_for
by_numbers file l = rw l (either not_found _ (is_picture (numbers_in file)))

-- ---- the reply: the numbers of the tests rise, so it is the lowest that applies, and 0 where no test holds

pub read_lowest : (file : List ℕ) → LowestMeans (read_tests file)
unfolding read_tests rising
read_lowest file = lowest_means 0 (read_tests file) tt

-- the request that the numbers tell is accepted, and has every one of them
pub read_done : (file : List ℕ) → (read_reply file ≡ 0) ↔ ((length file ≡ 256)
    × ((request_reply (request_in (numbers_in file)) ≡ 0)
    × (numbers_in file ≡ values_of (fields_of (request_in (numbers_in file))))))
unfolding read_reply read_tests lowest is_picture
read_done file =
    simp (none_iff 0, none_iff 8, refusals, same_iff) (λ h. (h.0, h.1.0), λ h. (h.0, (h.1, refl)))
