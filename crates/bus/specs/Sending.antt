-- Document 01, "The list of writes": a list of bursts on the bus. Each burst is a bus write of its own, and
-- what they do to a state is what the list does to its file.
-- Assumes nothing.
use Rattle.std.specs.Prelude.{◌≡◌, Bool, List, [], ◌∷◌, ℕ, ◌+◌, ◌<◌, ◌≤◌}
use Rattle.bits.specs.Run.{merge_run}
use Rattle.bursts.specs.Burst.{Burst, count, replay, Competes}
use Rattle.chip.specs.File.{registers_end}
use Rattle.chip.specs.Map.{masks}
use Rattle.reply.specs.Reply.{done}
use Rattle.transactions.specs.Writes.{write_address}
use Rattle.bus.specs.declared.state.State.{State}
use Rattle.bus.specs.States.{with_file, bus_write}

-- a burst on the bus: the write address, the subaddress and the data
unfoldable pub transaction : Burst → List ℕ
transaction b = write_address ∷ b.place ∷ b.bytes

-- a list sent in turn, each transaction to the state that the one before left
unfoldable pub sent : State → List Burst → State
sent s [] = s
sent s (b ∷ bs) = sent (bus_write s (transaction b)).state bs

-- What sending means, for every state.
pub record SendsMean : Type 0 where
  -- a burst of registers is accepted, and does to the file what its run does; nothing else changes
  pub burst : (s : State) (b : Burst) → b.place < registers_end → b.place + count b ≤ registers_end
      → bus_write s (transaction b)
      ≡ record { state = with_file s (merge_run masks s.file b.place b.bytes); reply = done }
  -- a list that competes, whatever places are barred, does to the file what its definition says
  pub list : (barred : ℕ → Bool) (s : State) (bs : List Burst) → Competes barred registers_end bs
      → sent s bs ≡ with_file s (replay masks s.file bs)
