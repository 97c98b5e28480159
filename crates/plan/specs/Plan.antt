-- Document 01, "The list of writes": what a plan answers, and what it leaves in the lent buffer. "Reply
-- numbers" 1, 10 and 11.
-- Assumes nothing.
use Rattle.std.specs.Prelude.{Bool, cond, ◌||◌, List, [], ◌∷◌, ◌++◌, ℕ, eqb, ltb, length, drop}
use Rattle.std.specs.Prelude.{Result}
use Rattle.bursts.specs.Burst.{Burst, bus_bytes, encoded}
use Rattle.bursts.specs.Runs.{bursts_for}
use Rattle.bursts.specs.Stuck.{stuck}
use Rattle.chip.specs.File.{wrong_file, caption}
use Rattle.chip.specs.Map.{masks}
use Rattle.reply.specs.Reply.{lowest, done, wrong_length, not_writable, too_long}
use Rattle.reply.specs.Refusals.{told}
use Rattle.reply.specs.declared.Refusal.{Refusal}
use Rattle.plan.specs.declared.plan.Planned.{Planned as Size}

-- What a plan answers: the reply, and the list's bytes and bursts, both 0 beside a refusal.
pub record Planned : Type 0 where
  pub reply : ℕ
  pub bytes : ℕ
  pub bursts : ℕ

-- the list of writes from one file to another: caption bytes are barred
abbrev pub list_for : List ℕ → List ℕ → List Burst
list_for from to = bursts_for caption from to

-- no list has more bytes than two bursts that write every place up to the caption bytes, and every one behind
abbrev pub longest_list : ℕ
longest_list = 254

-- what may be refused, and its number, for a buffer with room for so many bytes
unfoldable pub plan_tests : List ℕ → List ℕ → ℕ → List (ℕ × Bool)
plan_tests from to room =
    (wrong_length, wrong_file from || wrong_file to)
    ∷ (not_writable, stuck masks caption from to)
    ∷ (too_long, ltb room (bus_bytes (list_for from to)))
    ∷ []

unfoldable pub plan_reply : List ℕ → List ℕ → ℕ → ℕ
plan_reply from to room = lowest (plan_tests from to room)

-- the reply, and the list's bytes and bursts, both 0 beside a refusal
unfoldable pub refusal : ℕ → Planned
refusal reply = record { reply = reply; bytes = 0; bursts = 0 }

-- the code's answer by its numbers
abbrev pub told_plan : Result Size Refusal → Planned
told_plan = told (λ size. record { reply = done; bytes = size.bytes; bursts = size.bursts }) refusal

unfoldable pub plan_answer : List ℕ → List ℕ → ℕ → Planned
plan_answer from to room =
    cond (eqb (plan_reply from to room) done)
    (record { reply = done; bytes = bus_bytes (list_for from to); bursts = length (list_for from to) })
    (refusal (plan_reply from to room))

-- the buffer: the list at its front, and behind it what stood there; a refusal leaves every byte
unfoldable pub plan_buffer : List ℕ → List ℕ → List ℕ → List ℕ
plan_buffer from to buffer =
    cond (eqb (plan_reply from to (length buffer)) done)
    (encoded (list_for from to) ++ drop (bus_bytes (list_for from to)) buffer)
    buffer
