-- Demand 3: what the answer of a plan means.
-- Assumes nothing.
use mathlib.Core.Path.{◌≡◌, refl, sym, ap, ◌∙◌}
use mathlib.Core.Bool.{false, false≢true}
use mathlib.Core.List.{List, ◌++◌}
use mathlib.Core.Logic.{◌↔◌}
use Prim.Native.Nat.{ℕ, ◌<◌, ◌≤◌}
use native.Mathlib.Omega.{arith}
use lib.ListN.{length, get_or, drop}
use Rattle.bits.proofs.Tests.{is_true, from_true}
use Rattle.bursts.specs.Burst.{Burst, bus_bytes, encoded}
use Rattle.bursts.specs.Shortest.{Shortest, ListLaw}
use Rattle.bursts.specs.Stuck.{Stuck, stuck}
use Rattle.bursts.proofs.Shortest.{list_laws}
use Rattle.chip.specs.File.{caption, registers_end}
use Rattle.chip.specs.Map.{masks}
use Rattle.reply.specs.Reply.{LowestMeans, rising, done, wrong_length, not_writable, too_long}
use Rattle.reply.proofs.Lowest.{lowest_means}
use Rattle.plan.specs.Meaning.{AreFiles, Candidate, PlanMeans}
use Rattle.plan.specs.Plan.{list_for, longest_list, plan_tests, plan_reply, refusal, plan_answer}
use Rattle.plan.specs.Plan.{Planned, plan_buffer}
use Rattle.plan.proofs.Lists.{encoded_long, are_files}
use Rattle.plan.proofs.Longest.{list_small, bursts_fewer}
use Rattle.plan.proofs.Replies.{Cases, wrong, fixed, long, fine, cases}
use Rattle.plan.proofs.Replies.{answer_reply, answer_refused, answer_done, buffer_refused, buffer_done}

module _ (from to : List ℕ) (lf : (i : ℕ) → get_or from i 0 < 256) (lt : (i : ℕ) → get_or to i 0 < 256) where
  laws : AreFiles from to → ListLaw masks caption registers_end from to
  laws f = list_laws masks caption registers_end from to (are_files from to f lf lt)

  unstuck : AreFiles from to → stuck masks caption from to ≡ false → Stuck masks caption from to → ⊥
  unstuck f s u = false≢true (sym s ∙ is_true _ ((laws f).test.1 u))

  our_shortest : AreFiles from to → stuck masks caption from to ≡ false
      → Shortest masks caption registers_end from to (list_for from to)
  our_shortest f s = (laws f).shortest (unstuck f s)

  module _ (room : ℕ) where
    one_by : Cases from to room → (plan_reply from to room ≡ wrong_length) ↔ (AreFiles from to → ⊥)
    one_by (wrong n e) = (λ z. n, λ m. e)
    one_by (fixed f s e) = (λ z. absurd (omega arith), λ m. absurd (m f))
    one_by (long f s l e) = (λ z. absurd (omega arith), λ m. absurd (m f))
    one_by (fine f s l e) = (λ z. absurd (omega arith), λ m. absurd (m f))

    ten_by : Cases from to room
        → (plan_reply from to room ≡ not_writable) ↔ (AreFiles from to × Stuck masks caption from to)
    ten_by (wrong n e) = (λ z. absurd (omega arith), λ m. absurd (n m.0))
    ten_by (fixed f s e) = (λ z. (f, (laws f).test.0 (from_true _ s)), λ m. e)
    ten_by (long f s l e) = (λ z. absurd (omega arith), λ m. absurd (unstuck f s m.1))
    ten_by (fine f s l e) = (λ z. absurd (omega arith), λ m. absurd (unstuck f s m.1))

    none_by : Cases from to room → plan_reply from to room ≡ not_writable → (list : List Burst)
        → Candidate from to list → ⊥
    none_by (wrong n e) z = absurd (omega arith)
    none_by (fixed f s e) z =
        λ list k. (laws f).none ((laws f).test.0 (from_true _ s)) list k.competes k.arrives
    none_by (long f s l e) z = absurd (omega arith)
    none_by (fine f s l e) z = absurd (omega arith)

    shortest_by : Cases from to room → (plan_reply from to room ≡ wrong_length → ⊥)
        → (plan_reply from to room ≡ not_writable → ⊥) → Shortest masks caption registers_end from to
        (list_for from to)
    shortest_by (wrong n e) a b = absurd (a e)
    shortest_by (fixed f s e) a b = absurd (b e)
    shortest_by (long f s l e) a b = our_shortest f s
    shortest_by (fine f s l e) a b = our_shortest f s

    eleven_by : Cases from to room → (plan_reply from to room ≡ wrong_length → ⊥)
        → (plan_reply from to room ≡ not_writable → ⊥)
        → (plan_reply from to room ≡ too_long)
        ↔ ((list : List Burst) → Candidate from to list → room < bus_bytes list)
    eleven_by (wrong n e) a b = absurd (a e)
    eleven_by (fixed f s e) a b = absurd (b e)
    eleven_by (long f s l e) a b =
        (λ z list k. let m = (our_shortest f s).bytes list k.competes k.arrives in omega arith, λ h. e)
    eleven_by (fine f s l e) a b =
        let o = our_shortest f s in (
          λ z. absurd (omega arith),
          λ h. let m = h (list_for from to) (record { competes = o.competes; arrives = o.arrives }) in
              absurd (omega arith),
        )

    -- a list, where there is one, is no longer than the longest
    our_small : AreFiles from to → stuck masks caption from to ≡ false
        → bus_bytes (list_for from to) ≤ longest_list
    our_small f s = list_small from to (are_files from to f lf lt) (unstuck f s) (omega (arith, f.0))

    small_by : Cases from to room → (plan_answer from to room).bytes ≤ longest_list
    unfolding refusal
    small_by (wrong n e) = rw (answer_refused from to room (λ d. absurd (omega arith))) (omega arith)
    small_by (fixed f s e) = rw (answer_refused from to room (λ d. absurd (omega arith))) (omega arith)
    small_by (long f s l e) = rw (answer_refused from to room (λ d. absurd (omega arith))) (omega arith)
    small_by (fine f s l e) = rw (answer_done from to room e) (our_small f s)

    few_by : Cases from to room → (plan_answer from to room).bursts ≤ (plan_answer from to room).bytes
    unfolding refusal
    few_by (wrong n e) = rw (answer_refused from to room (λ d. absurd (omega arith))) (omega arith)
    few_by (fixed f s e) = rw (answer_refused from to room (λ d. absurd (omega arith))) (omega arith)
    few_by (long f s l e) = rw (answer_refused from to room (λ d. absurd (omega arith))) (omega arith)
    few_by (fine f s l e) = rw (answer_done from to room e) (bursts_fewer (list_for from to))

    enough_by : Cases from to room → longest_list ≤ room → plan_reply from to room ≡ too_long → ⊥
    enough_by (wrong n e) h z = omega arith
    enough_by (fixed f s e) h z = omega arith
    enough_by (long f s l e) h z = let m = our_small f s in omega arith
    enough_by (fine f s l e) h z = omega arith

  module _ (before : List ℕ) where
    rises : LowestMeans (plan_tests from to (length before))
    unfolding plan_tests rising
    rises = lowest_means 0 (plan_tests from to (length before)) tt

    nothing : (plan_reply from to (length before) ≡ done → ⊥)
        → ((plan_answer from to (length before)).bytes ≡ 0) × ((plan_answer from to (length before)).bursts ≡ 0)
        × (plan_buffer from to before ≡ before)
    unfolding refusal
    nothing n =
        let e = answer_refused from to (length before) n in
        (ap (λ (x : Planned). x.bytes) e, ap (λ (x : Planned). x.bursts) e, buffer_refused from to before n)

  pub plan_means : (before : List ℕ)
      → PlanMeans from to before (plan_answer from to (length before)) (plan_buffer from to before)
  plan_means before =
      let room = length before in
      let k = cases from to room in
      let r = answer_reply from to room in
      record {
        told = refl;
        left = refl;
        least = rises before;
        one = rw r (one_by room k);
        ten = rw r (ten_by room k);
        none = rw r (none_by room k);
        shortest = rw r (shortest_by room k);
        eleven = rw r (eleven_by room k);
        holds = λ e. rw (encoded_long (list_for from to)) (buffer_done from to before (sym r ∙ e));
        bytes = λ e. ap (λ (x : Planned). x.bytes) (answer_done from to room (sym r ∙ e));
        bursts = λ e. ap (λ (x : Planned). x.bursts) (answer_done from to room (sym r ∙ e));
        small = small_by room k;
        few = few_by room k;
        enough = rw r (enough_by room k);
        refused = λ n. nothing before (λ e. n (r ∙ e));
      }

  -- so it means for each way out of a plan
  module _ (before : List ℕ) where
    pub means_refused : (n : ℕ) → plan_reply from to (length before) ≡ n → (n ≡ done → ⊥)
        → PlanMeans from to before (refusal n) before
    means_refused n e z =
        let k : plan_reply from to (length before) ≡ done → ⊥ = λ d. z (sym e ∙ d) in
        rw (buffer_refused from to before k, answer_refused from to (length before) k, e) at
        (plan_means before)

    pub means_done : plan_reply from to (length before) ≡ done
        → PlanMeans from to before
        (record { reply = done; bytes = bus_bytes (list_for from to); bursts = length (list_for from to) })
        (encoded (list_for from to) ++ drop (bus_bytes (list_for from to)) before)
    means_done e =
        rw (buffer_done from to before e, answer_done from to (length before) e) at (plan_means before)
