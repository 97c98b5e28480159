-- `bits::merge::merge_run` meets its contract: what is left of the run gives the whole, under the masks.
-- Assumes nothing.
use mathlib.Core.Path.{◌≡◌}
use Prim.Native.Nat.{◌+◌}
use lib.ListN.{length, drop}
use Rattle.bits.specs.Run.{merge_run}
use Rattle.bits.proofs.merge.merge_run.Given as goal

abbrev pub invariant-loop-i : goal.invariant-loop-i
invariant-loop-i l = (length l.file ≡ length l.initial.file)
    × (merge_run l.masks l.file (l.at + l.i) (drop l.i l.bytes) ≡ merge_run l.masks l.initial.file l.at l.bytes)
