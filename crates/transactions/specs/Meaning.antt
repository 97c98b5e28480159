-- What the replies mean: theorems about the definitions of Writes.antt and Reads.antt.
-- Assumes nothing.
use Rattle.std.specs.Prelude.{List, ℕ}
use Rattle.reply.specs.Reply.{LowestMeans}
use Rattle.transactions.specs.Writes.{write_tests}
use Rattle.transactions.specs.Reads.{read_tests}

-- The reply is the lowest number that applies.
pub record RepliesMean : Type 0 where
  pub write : (t : List ℕ) → LowestMeans (write_tests t)
  pub read : (t : List ℕ) → LowestMeans (read_tests t)
