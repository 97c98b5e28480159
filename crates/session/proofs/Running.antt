-- The answer of a run and the buffer that it leaves, case by case.
-- Assumes nothing.
use mathlib.Core.Path.{◌≡◌}
use mathlib.Core.List.{List, []}
use Prim.Native.Nat.{◌<◌, ◌≤◌, ℕ}
use native.Mathlib.Omega.{arith}
use borrow.Author.Tests.{lt-leb, le-leb, lt-ltb, le-ltb}
use lib.ListN.{length}
use lib.Seq.{sets}
use Rattle.bits.proofs.Stores.{sets_front}
use Rattle.reply.specs.Reply.{wrong_length}
use Rattle.bus.specs.declared.state.State.{State}
use Rattle.lines.specs.Lines.{line}
use Rattle.session.specs.Runs.{Played, answer_of, play, played, run_answer, run_buffer}
use Rattle.session.specs.Runs.{longest_session, longest_print}
use Rattle.session.specs.declared.run.Ran.{Ran}
use Rattle.lines.proofs.Digits.{line_long}
use Rattle.session.proofs.Fitting.{session_fits}

-- what a run answers, and the buffer that it leaves
pub record Answers (s : State) (session before : List ℕ) (r : Ran) (after : List ℕ) : Type 0 where
  pub told : r ≡ run_answer s session before
  pub kept : after ≡ run_buffer s session before

module _ (s : State) (session before : List ℕ) where
  pub no_room : length before < longest_print
      → Answers s session before (record { state = s; bytes = 0 }) before
  unfolding run_answer run_buffer
  no_room l =
      let e = lt-leb longest_print (length before) l in
      record { told = rw e; kept = rw e }

  module _ (room : longest_print ≤ length before) where
    -- what is printed is stored from the front on
    prints : (p : Played) → played s session ≡ p → length p.printed ≤ longest_print
        → Answers s session before (answer_of p)
        (sets before 0 p.printed)
    unfolding run_answer run_buffer
    prints p e f =
        let r = le-leb longest_print (length before) room in
        record { told = rw (r, e); kept = rw (r, e) (sets_front p.printed before (omega arith)) }

    pub too_long : longest_session < length session
        → Answers s session before (record { state = s; bytes = length (line 0x00 wrong_length []) })
        (sets before 0 (line 0x00 wrong_length []))
    unfolding played
    too_long l =
        prints (record { state = s; printed = line 0x00 wrong_length [] })
        (rw (lt-ltb longest_session (length session) l)) (omega (arith, line_long 0x00 wrong_length []))

    pub walked : length session ≤ longest_session
        → Answers s session before
        (answer_of (play s 0 session))
        (sets before 0 (play s 0 session).printed)
    unfolding played
    walked l =
        prints (play s 0 session) (rw (le-ltb longest_session (length session) l)) (session_fits s session l)
