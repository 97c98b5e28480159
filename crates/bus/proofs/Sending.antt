-- A burst, and a list of bursts, sent on the bus.
-- Assumes nothing.
use mathlib.Core.Path.{◌≡◌, refl, ap, ◌∙◌}
use mathlib.Core.Bool.{Bool}
use mathlib.Core.List.{List, [], ◌∷◌}
use Prim.Native.Nat.{ℕ, ◌+◌, ◌<◌, ◌≤◌}
use native.Mathlib.Omega.{arith}
use borrow.Author.Tests.{ne_eqb, le-ltb}
use lib.ListN.{length}
use Rattle.bits.specs.Run.{merge_run}
use Rattle.bursts.specs.Burst.{Burst, count, replay, Every, Competes}
use Rattle.chip.specs.File.{registers_end}
use Rattle.chip.specs.Map.{masks}
use Rattle.reply.specs.Reply.{lowest, done}
use Rattle.transactions.specs.Writes.{registers_pass, passes, write_tests, write_reply}
use Rattle.bus.specs.declared.state.State.{State}
use Rattle.bus.specs.States.{with_file, stored, bus_write}
use Rattle.bus.specs.Sending.{transaction, sent, SendsMean}

send_burst : (s : State) (b : Burst) → b.place < registers_end → b.place + count b ≤ registers_end
    → bus_write s (transaction b)
    ≡ record { state = with_file s (merge_run masks s.file b.place b.bytes); reply = done }
unfolding transaction bus_write stored write_reply write_tests lowest passes registers_pass
send_burst s b low fits =
    simp (
      le-ltb (length (transaction b)) 2 (omega arith),
      ne_eqb b.place 0xFE (λ h. omega arith),
      ne_eqb b.place 0xFF (λ h. omega arith),
      le-ltb 0xFE (b.place + count b) fits,
    )

send_list : (barred : ℕ → Bool) (s : State) (bs : List Burst) → Competes barred registers_end bs
    → sent s bs ≡ with_file s (replay masks s.file bs)
unfolding sent replay Every
send_list barred s [] e = refl
send_list barred s (b ∷ bs) e =
    let a = e.0 in
    let w = send_burst s b (omega (arith, a.some, a.inside)) a.inside in
    ap (λ r. sent r.state bs) w
    ∙ send_list barred (with_file s (merge_run masks s.file b.place b.bytes)) bs e.1

pub sends_mean : SendsMean
sends_mean = record { burst = send_burst; list = send_list }
