-- What refusals leave in the lent bytes.
-- Assumes nothing.
use mathlib.Core.Path.{◌≡◌, refl}
use mathlib.Core.Bool.{Bool, true, false}
use mathlib.Core.List.{List}
use Prim.Native.Nat.{ℕ}
use native.Mathlib.Omega.{arith}
use borrow.Author.Tests.{eqb-true, ne_eqb}
use lib.Dec.{eqb}
use lib.ListN.{length, replicate}
use Rattle.transactions.specs.Writes.{write_reply}
use Rattle.bus.specs.States.{zero_state, known_chip, fresh_answer, bus_write}
use Rattle.states.specs.Lent.{state_in, bytes_of, lent_reply, lent_after, RefusalsLeave}
use Rattle.states.proofs.Parts.{whole}

module _ (bytes : List ℕ) where
  write_by : (t : List ℕ) (b : Bool) → eqb (length bytes) 1283 ≡ b
      → (lent_reply bytes (bus_write (state_in bytes) t) ≡ 0 → ⊥)
      → lent_after bytes (bus_write (state_in bytes) t) ≡ bytes
  unfolding lent_reply lent_after bus_write
  write_by t true e n =
      let r = rw e at n in
      rw (e, ne_eqb (write_reply t) 0 r) (whole bytes (eqb-true (length bytes) 1283 e))
  write_by t false e n = rw e

  fresh_by : (chip : ℕ) (b k : Bool) → eqb (length bytes) 1283 ≡ b → known_chip chip ≡ k
      → lent_reply bytes (fresh_answer chip) ≡ 4 → lent_after bytes (fresh_answer chip) ≡ replicate 1283 0
  unfolding lent_reply lent_after fresh_answer bytes_of zero_state
  fresh_by chip true true e f r = let z = rw (e, f) at r in absurd (omega arith)
  fresh_by chip true false e f r = rw (e, f)
  fresh_by chip false k e f r = let z = rw e at r in absurd (omega arith)

pub refusals_leave : RefusalsLeave
unfolding lent_reply lent_after
refusals_leave =
    record {
      length_wrong = λ bytes answer n. rw (ne_eqb (length bytes) 1283 n) (refl, refl);
      write = λ bytes t. write_by bytes t (eqb (length bytes) 1283) refl;
      fresh = λ bytes chip. fresh_by bytes chip (eqb (length bytes) 1283) (known_chip chip) refl refl;
    }
