-- The reply to a plan: the four cases, and the answer and the buffer in each.
-- Assumes nothing.
use mathlib.Core.Path.{◌≡◌, sym, ap, ◌∙◌}
use mathlib.Core.Bool.{Bool, true, false, cond, not, or-true}
use mathlib.Core.List.{List, ◌++◌}
use mathlib.Core.Logic.{⊎_elim}
use Prim.Native.Nat.{ℕ, ◌<◌, ◌≤◌}
use borrow.Author.Tests.{eq-eqb, ne_eqb, eqb-true, eqb-false, lt-ltb, le-ltb}
use lib.Dec.{eqb}
use lib.ListN.{length, drop}
use Rattle.bits.proofs.Tests.{le_or_lt}
use Rattle.bursts.specs.Burst.{bus_bytes, encoded}
use Rattle.bursts.specs.Stuck.{stuck}
use Rattle.bursts.proofs.Bridges.{either}
use Rattle.chip.specs.File.{caption}
use Rattle.chip.specs.Map.{masks}
use Rattle.reply.specs.Reply.{lowest, done, wrong_length, not_writable, too_long}
use Rattle.plan.specs.Meaning.{AreFiles}
use Rattle.plan.specs.Plan.{Planned, list_for, plan_tests, plan_reply, refusal, plan_answer, plan_buffer}

module _ (from to : List ℕ) (room : ℕ) where
  reply_from : (length from ≡ 256 → ⊥) → plan_reply from to room ≡ wrong_length
  unfolding plan_reply plan_tests lowest
  reply_from n = rw (ne_eqb (length from) 256 n)

  reply_to : (length to ≡ 256 → ⊥) → plan_reply from to room ≡ wrong_length
  unfolding plan_reply plan_tests lowest
  reply_to n = rw (ne_eqb (length to) 256 n, or-true (not (eqb (length from) 256)))

  pub reply_stuck : AreFiles from to → stuck masks caption from to ≡ true
      → plan_reply from to room ≡ not_writable
  unfolding plan_reply plan_tests lowest
  reply_stuck f s = rw (eq-eqb _ _ f.0, eq-eqb _ _ f.1, s)

  pub reply_long : AreFiles from to → stuck masks caption from to ≡ false → room < bus_bytes (list_for from to)
      → plan_reply from to room ≡ too_long
  unfolding plan_reply plan_tests lowest
  reply_long f s l =
      rw (eq-eqb _ _ f.0, eq-eqb _ _ f.1, s) (ap (λ (b : Bool). cond b too_long done) (lt-ltb _ _ l))

  pub reply_done : AreFiles from to → stuck masks caption from to ≡ false → bus_bytes (list_for from to) ≤ room
      → plan_reply from to room ≡ done
  unfolding plan_reply plan_tests lowest
  reply_done f s l =
      rw (eq-eqb _ _ f.0, eq-eqb _ _ f.1, s) (ap (λ (b : Bool). cond b too_long done) (le-ltb _ _ l))

  -- ---- which case it is

  pub data Cases : Type 0 where
    wrong : (AreFiles from to → ⊥) → plan_reply from to room ≡ wrong_length → Cases
    fixed : AreFiles from to → stuck masks caption from to ≡ true → plan_reply from to room ≡ not_writable
        → Cases
    long : AreFiles from to → stuck masks caption from to ≡ false → room < bus_bytes (list_for from to)
        → plan_reply from to room ≡ too_long → Cases
    fine : AreFiles from to → stuck masks caption from to ≡ false → bus_bytes (list_for from to) ≤ room
        → plan_reply from to room ≡ done → Cases

  pub cases : Cases
  cases =
      ⊎_elim (λ a. ⊎_elim (λ b. files (eqb-true _ _ a, eqb-true _ _ b))
      (λ b. let n = eqb-false (length to) 256 b in wrong (λ f. n f.1) (reply_to n))
      (either (eqb (length to) 256)))
      (λ a. let n = eqb-false (length from) 256 a in wrong (λ f. n f.0) (reply_from n))
      (either (eqb (length from) 256))
    where
      files : AreFiles from to → Cases
      files f =
          ⊎_elim (λ s. fixed f s (reply_stuck f s))
          (λ s. ⊎_elim (λ l. fine f s l (reply_done f s l)) (λ l. long f s l (reply_long f s l))
          (le_or_lt (bus_bytes (list_for from to)) room))
          (either (stuck masks caption from to))

  pub reply_wrong : (AreFiles from to → ⊥) → plan_reply from to room ≡ wrong_length
  reply_wrong n = by cases
    where
      by : Cases → plan_reply from to room ≡ wrong_length
      by (wrong m e) = e
      by (fixed f s e) = absurd (n f)
      by (long f s l e) = absurd (n f)
      by (fine f s l e) = absurd (n f)

  -- ---- the answer

  pub answer_refused : (plan_reply from to room ≡ done → ⊥) → plan_answer from to room ≡ refusal
      (plan_reply from to room)
  unfolding plan_answer
  answer_refused n = rw (ne_eqb _ _ n)

  pub answer_done : plan_reply from to room ≡ done
      → plan_answer from to room
      ≡ record { reply = done; bytes = bus_bytes (list_for from to); bursts = length (list_for from to) }
  unfolding plan_answer
  answer_done e = rw (eq-eqb _ _ e)

  pub answer_reply : (plan_answer from to room).reply ≡ plan_reply from to room
  unfolding refusal
  answer_reply =
      ⊎_elim (λ e. let z = eqb-true _ _ e in ap (λ (x : Planned). x.reply) (answer_done z) ∙ sym z)
      (λ e. ap (λ (x : Planned). x.reply) (answer_refused (eqb-false _ _ e)))
      (either (eqb (plan_reply from to room) done))

module _ (from to before : List ℕ) where
  pub buffer_refused : (plan_reply from to (length before) ≡ done → ⊥) → plan_buffer from to before ≡ before
  unfolding plan_buffer
  buffer_refused n = rw (ne_eqb _ _ n)

  pub buffer_done : plan_reply from to (length before) ≡ done
      → plan_buffer from to before ≡ encoded (list_for from to) ++ drop (bus_bytes (list_for from to)) before
  unfolding plan_buffer
  buffer_done e = rw (eq-eqb _ _ e)
