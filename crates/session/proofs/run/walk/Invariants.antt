-- `session::run::walk` meets its contract: what is left of the session gives the whole.
-- Assumes nothing.
use Prim.Native.Nat.{◌-◌}
use lib.ListN.{length}
use Rattle.effects.specs.Parts.{in_parts}
use Rattle.session.proofs.Playing.{Playing}
use Rattle.session.proofs.run.walk.Given as goal

abbrev pub invariant-loop-kind : goal.invariant-loop-kind
invariant-loop-kind l =
    Playing l.fn.state l.session l.initial.out (in_parts l.file l.colours l.cursor l.status l.chip l.fifo) l.out l.at
    l.bytes

abbrev pub decreases-loop-kind : goal.decreases-loop-kind
decreases-loop-kind l = length l.session - l.at
