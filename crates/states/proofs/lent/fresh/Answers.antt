-- `states::lent::fresh` meets its contract: the cleared bytes are those of an all-zero state, and the chip
-- byte has its place in them.
-- Assumes nothing.
use mathlib.Core.Path.{◌≡◌, refl}
use native.Mathlib.Omega.{arith}
use mathlib.Core.Bool.{true, false}
use Prim.Native.Nat.{ℕ}
use borrow.Author.Tests.{eq-eqb}
use lib.ListN.{set, replicate}
use Rattle.bus.specs.States.{zero_state, known_chip, fresh_answer}
use Rattle.states.specs.Lent.{bytes_of, lent_after}
use Rattle.states.proofs.lent.fresh.Goals as goal

zeros_with : (chip : ℕ) → set (replicate 1283 0) 1281 chip ≡ bytes_of (zero_state chip)
unfolding bytes_of zero_state
zeros_with chip = refl

pub returns-then-not-known_chip-clause-after : goal.returns-then-not-known_chip-clause-after
unfolding lent_after fresh_answer
returns-then-not-known_chip-clause-after c = let e : known_chip c.args.chip ≡ false = grind arith in rw (
  c.fill.ensures.after (λ y e. e),
  eq-eqb _ 1283 c.in_ok-check_length.ensures,
  c.in_ok-check_length.ensures,
  e,
)
    (zeros_with 0)

pub returns-clause-after : goal.returns-clause-after
unfolding lent_after fresh_answer
returns-clause-after c = let e : known_chip c.args.chip ≡ true = grind arith in rw (
  c.fill.ensures.after (λ y e. e),
  eq-eqb _ 1283 c.in_ok-check_length.ensures,
  c.in_ok-check_length.ensures,
  e,
)
    (zeros_with _)
