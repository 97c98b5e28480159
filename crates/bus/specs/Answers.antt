-- Document 01, "Bus writes and reads": what a write and a read answer, in the paper's numbers; and what the
-- code's answers come to in them.
-- Assumes nothing.
use Rattle.std.specs.Prelude.{Result, ℕ}
use Rattle.reply.specs.Refusals.{told, reply_of}
use Rattle.reply.specs.declared.Refusal.{Refusal}
use Rattle.bus.specs.declared.state.Answer.{Answer as Answered}
use Rattle.bus.specs.declared.state.ReadAnswer.{ReadAnswer as ReadAnswered}
use Rattle.bus.specs.declared.state.State.{State}

-- the next state, and the reply
pub record Answer : Type 0 where
  pub state : State
  pub reply : ℕ

-- the next state, the reply, and the byte that was read, 0 beside a refusal
pub record ReadAnswer : Type 0 where
  pub state : State
  pub reply : ℕ
  pub byte : ℕ

-- a state, and what was answered beside it
abbrev pub told_state : {A : Type 0} → State → Result A Refusal → Answer
told_state s r = record { state = s; reply = reply_of r }

abbrev pub told_answer : Answered → Answer
told_answer a = told_state a.state a.reply

abbrev pub told_byte : Result ℕ Refusal → ℕ
told_byte = told (λ b. b) (λ _. 0)

abbrev pub told_read : ReadAnswered → ReadAnswer
told_read a = record { state = a.state; reply = reply_of a.byte; byte = told_byte a.byte }
