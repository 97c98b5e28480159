-- Demand 3, whole: what the answer of a plan means, for every two lent files and every lent buffer.
-- Assumes nothing.
use Rattle.std.specs.Prelude.{◌≡◌, List, ◌++◌, ◌↔◌, ℕ, ◌<◌, ◌≤◌, length, drop}
use Rattle.bursts.specs.Burst.{Burst, bus_bytes, encoded, Competes}
use Rattle.bursts.specs.Shortest.{GetsThere, Shortest}
use Rattle.bursts.specs.Stuck.{Stuck}
use Rattle.chip.specs.File.{caption, file_length, registers_end}
use Rattle.chip.specs.Map.{masks}
use Rattle.reply.specs.Reply.{LowestMeans, done, wrong_length, not_writable, too_long}
use Rattle.plan.specs.Plan.{Planned, list_for, longest_list, plan_tests, plan_answer, plan_buffer}

-- two register files
abbrev pub AreFiles : List ℕ → List ℕ → Type 0
AreFiles from to = (length from ≡ file_length) × (length to ≡ file_length)

-- a list of this chip's: it competes, and gets from the one file to the other
pub record Candidate (from to : List ℕ) (list : List Burst) : Type 0 where
  pub competes : Competes caption registers_end list
  pub arrives : GetsThere masks from to list

-- The answer, and the buffer before and after it.
pub record PlanMeans (from to before : List ℕ) (answer : Planned) (after : List ℕ) : Type 0 where
  -- the answer and the buffer are those of the definitions, and the reply is the lowest that applies
  pub told : answer ≡ plan_answer from to (length before)
  pub left : after ≡ plan_buffer from to before
  pub least : LowestMeans (plan_tests from to (length before))
  -- 1 exactly when one of them is no file
  pub one : (answer.reply ≡ wrong_length) ↔ (AreFiles from to → ⊥)
  -- 10 exactly when two files differ in a bit that the map doesn't name or in a caption byte
  pub ten : (answer.reply ≡ not_writable) ↔ (AreFiles from to × Stuck masks caption from to)
  -- and then no list gets there
  pub none : answer.reply ≡ not_writable → (list : List Burst) → Candidate from to list → ⊥
  -- where it is neither, our list is the shortest of all lists
  pub shortest : (answer.reply ≡ wrong_length → ⊥) → (answer.reply ≡ not_writable → ⊥)
      → Shortest masks caption registers_end from to (list_for from to)
  -- and it is 11 exactly when the buffer is shorter than every list that gets there, so than the fewest bytes
  pub eleven : (answer.reply ≡ wrong_length → ⊥) → (answer.reply ≡ not_writable → ⊥)
      → (answer.reply ≡ too_long)
      ↔ ((list : List Burst) → Candidate from to list → length before < bus_bytes list)
  -- 0: the buffer holds our list and then its old bytes, and bytes and bursts are that list's
  pub holds : answer.reply ≡ done
      → after ≡ encoded (list_for from to) ++ drop (length (encoded (list_for from to))) before
  pub bytes : answer.reply ≡ done → answer.bytes ≡ bus_bytes (list_for from to)
  pub bursts : answer.reply ≡ done → answer.bursts ≡ length (list_for from to)
  -- no more than the longest list has: with room for that, 11 is never given
  pub small : answer.bytes ≤ longest_list
  pub few : answer.bursts ≤ answer.bytes
  pub enough : longest_list ≤ length before → answer.reply ≡ too_long → ⊥
  -- any other reply: both numbers are 0, and the buffer stays
  pub refused : (answer.reply ≡ done → ⊥) → (answer.bytes ≡ 0) × (answer.bursts ≡ 0) × (after ≡ before)
