-- Document 01, "Sessions": a session done from its first record to its last, and what it prints.
-- Assumes nothing.
use Rattle.std.specs.Prelude.{cond, List, [], ◌∷◌, ◌++◌, ℕ, zero, suc, leb, ltb, length, drop, take}
use Rattle.reply.specs.Reply.{wrong_length}
use Rattle.bus.specs.declared.state.State.{State}
use Rattle.bus.specs.Answers.{Answer}
use Rattle.bus.specs.States.{fresh_answer}
use Rattle.records.specs.Records.{body_length, whole}
use Rattle.lines.specs.Lines.{line}
use Rattle.effects.specs.Effects.{outcome, shown}
use Rattle.session.specs.declared.run.Ran.{Ran}

-- the next state, and the bytes printed
pub record Played : Type 0 where
  pub state : State
  pub printed : List ℕ

-- the line of a record, from what it has done
abbrev pub line_of : ℕ → List ℕ → Answer → List ℕ
line_of kind body after = line kind after.reply (shown after.state.file kind body)

-- some bytes printed before the rest
abbrev pub printing : List ℕ → Played → Played
printing text p = record { state = p.state; printed = text ++ p.printed }

-- the records of what is left of a session, behind so many bytes that have been read: each is done on the
-- state that the one before left, and prints its line; one that is cut short or of unknown kind is the last
unfoldable pub play : State → ℕ → List ℕ → Played
play s read [] = record { state = s; printed = [] }
play s (suc read) (byte ∷ left) = play s read left
play s zero (kind ∷ left) =
    let body = take (body_length kind) left in
    cond (whole kind left)
    (printing (line_of kind body (outcome s kind body))
    (play (outcome s kind body).state (body_length kind) left))
    (record { state = s; printed = line kind wrong_length [] })

-- the most bytes that a session has, and the most that it prints
abbrev pub longest_session : ℕ
longest_session = 16384

abbrev pub longest_print : ℕ
longest_print = 65536

-- a session; one that is too long prints only the line 00 1
unfoldable pub played : State → List ℕ → Played
played s session =
    cond (ltb longest_session (length session))
    (record { state = s; printed = line 0x00 wrong_length [] })
    (play s 0 session)

-- the next state, and how many bytes are printed
abbrev pub answer_of : Played → Ran
answer_of p = record { state = p.state; bytes = length p.printed }

-- the state that the bench program begins with: a fresh SAA7103
abbrev pub bench_state : State
bench_state = (fresh_answer 0x03).state

-- the answer: with a shorter buffer than the longest print nothing is done
unfoldable pub run_answer : State → List ℕ → List ℕ → Ran
run_answer s session buffer =
    cond (leb longest_print (length buffer))
    (answer_of (played s session))
    (record { state = s; bytes = 0 })

-- the buffer: what is printed at its front, and behind it what stood there
unfoldable pub run_buffer : State → List ℕ → List ℕ → List ℕ
run_buffer s session buffer =
    cond (leb longest_print (length buffer))
    ((played s session).printed ++ drop (length (played s session).printed) buffer)
    buffer
