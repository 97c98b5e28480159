-- `bench::do_session` meets its contract: the buffer has room, so what the run prints is its front.
-- Assumes nothing.
use mathlib.Core.Path.{◌≡◌}
use mathlib.Core.List.{List}
use Prim.Native.Nat.{ℕ, ◌≤◌}
use native.Mathlib.Omega.{arith}
use borrow.Author.Rules.{rules}
use borrow.Author.Tests.{le-leb}
use lib.ListN.{length, take, length-take}
use lib.Seq.{take-append_seam}
use Rattle.bus.specs.declared.state.State.{State}
use Rattle.session.specs.Runs.{played, run_answer, run_buffer, longest_print}
use Rattle.session.proofs.Meaning.{sessions_mean}
use Rattle.bench.proofs.do_session.Goals as goal

-- what a run prints is the front of the buffer that it leaves
front : (s : State) (session before : List ℕ) (r : ℕ) (after : List ℕ)
    → r ≡ (run_answer s session before).bytes → after ≡ run_buffer s session before
    → longest_print ≤ length before → length after ≡ length before
    → (r ≤ length after) × (r ≡ length (take r after)) × (take r after ≡ (played s session).printed)
unfolding run_answer run_buffer
front s session before r after told kept room same =
    let fits = sessions_mean.told s session before in
    let e = le-leb longest_print (length before) room in
    let le : r ≤ length after = omega arith in
    (le, rw length-take (omega arith), rw (told, kept, e) (take-append_seam _ _))

pub returns : goal.returns
returns c = let e = c.bench.ensures in
    front _ _ _ _ _ e.0 e.1 (omega arith) (search rules)
