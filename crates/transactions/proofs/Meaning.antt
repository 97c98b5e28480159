-- The numbers of both lists rise, so the reply is the lowest that applies.
-- Assumes nothing.
use mathlib.Core.List.{List}
use Prim.Native.Nat.{ℕ}
use Rattle.reply.specs.Reply.{rising, LowestMeans}
use Rattle.reply.proofs.Lowest.{lowest_means}
use Rattle.transactions.specs.Writes.{write_tests}
use Rattle.transactions.specs.Reads.{read_tests}
use Rattle.transactions.specs.Meaning.{RepliesMean}

write_lowest : (t : List ℕ) → LowestMeans (write_tests t)
unfolding write_tests rising
write_lowest t = lowest_means 0 (write_tests t) tt

read_lowest : (t : List ℕ) → LowestMeans (read_tests t)
unfolding read_tests rising
read_lowest t = lowest_means 0 (read_tests t) tt

pub replies_mean : RepliesMean
replies_mean = record { write = write_lowest; read = read_lowest }
