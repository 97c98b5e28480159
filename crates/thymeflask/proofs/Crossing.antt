-- A request that was written reads back as its own bytes, and a refusal leaves what is lent.
-- Assumes nothing.
use mathlib.Core.Path.{◌≡◌, refl}
use mathlib.Core.Bool.{Bool, true, false}
use mathlib.Core.List.{List}
use Prim.Native.Nat.{ℕ, ◌<◌}
use native.Mathlib.Omega.{arith}
use borrow.Author.Tests.{eqb-true, eq-eqb, ne_eqb}
use lib.Dec.{eqb}
use lib.ListN.{length, get_or}
use Rattle.readback.proofs.Meaning.{pictures_mean}
use Rattle.requests.specs.Requests.{request_of}
use Rattle.requests.proofs.Cross.{requests_cross}
use Rattle.thymeflask.specs.Pictures.{check_reply, check_after, write_reply, write_after}
use Rattle.thymeflask.specs.Pictures.{read_reply, read_after, PicturesCross}

module _ (file request : List ℕ) where
  long_by : (b : Bool) → eqb (length request) 18 ≡ b → write_reply file request ≡ 0 → length request ≡ 18
  unfolding write_reply
  long_by true e w = eqb-true (length request) 18 e
  long_by false e w = let z = rw e at w in absurd (omega arith)

  written_long : write_reply file request ≡ 0 → length request ≡ 18
  written_long = long_by (eqb (length request) 18) refl

  read_back : (lent : List ℕ) → ((i : ℕ) → get_or request i 0 < 256) → length lent ≡ 18
      → write_reply file request ≡ 0
      → (read_reply (write_after file request) lent ≡ 0) × (read_after (write_after file request) lent ≡ request)
  unfolding write_reply write_after read_reply read_after
  read_back lent b l w =
      let n = written_long w in
      let done = rw (eq-eqb (length request) 18 n) at w in
      rw (
        eq-eqb (length request) 18 n,
        eq-eqb (length lent) 18 l,
        pictures_mean.back file (request_of request) done,
      )
      (refl, requests_cross.there request n b)

  writes_by : (b : Bool) → eqb (length request) 18 ≡ b → (write_reply file request ≡ 0 → ⊥)
      → write_after file request ≡ file
  unfolding write_reply write_after
  writes_by true e n = let r = rw e at n in rw e ((pictures_mean.writes file (request_of request)).refused r)
  writes_by false e n = rw e

pub pictures_cross : PicturesCross
unfolding check_after read_after
pictures_cross =
    record {
      back = read_back;
      checks = λ request fields n. rw (ne_eqb (check_reply request fields) 0 n);
      writes = λ file request. writes_by file request (eqb (length request) 18) refl;
      reads = λ file request n. rw (ne_eqb (read_reply file request) 0 n);
    }
