-- `stores::store_run` meets its contract: what is left of the run gives the whole.
-- Assumes nothing.
use mathlib.Core.Path.{◌≡◌}
use Prim.Native.Nat.{◌+◌}
use lib.ListN.{length, drop}
use lib.Seq.{sets}
use Rattle.stores.proofs.store_run.Given as goal

abbrev pub invariant-loop-i : goal.invariant-loop-i
invariant-loop-i l = (length l.file ≡ length l.initial.file)
    × (sets l.file (l.at + l.i) (drop l.i l.bytes) ≡ sets l.initial.file l.at l.bytes)
