-- What bus writes mean, place by place: theorems about the definitions of States.antt.
-- Assumes nothing.
use Rattle.std.specs.Prelude.{◌≡◌, List, ◌∷◌, ℕ, ◌<◌, length, get_or, drop}
use Rattle.bits.specs.Run.{RunMeans}
use Rattle.chip.specs.Map.{masks}
use Rattle.transactions.specs.Writes.{write_reply}
use Rattle.writers.specs.Cells.{CellsMean}
use Rattle.bus.specs.declared.state.State.{State}
use Rattle.bus.specs.States.{with_file, with_colours, with_cursor, fresh_answer, bus_write}

-- Any write: a refusal changes nothing, and no write changes a readable byte.
pub record AnyWrite (s : State) (t : List ℕ) (after : State) : Type 0 where
  pub refused : (write_reply t ≡ 0 → ⊥) → after ≡ s
  pub status : after.status ≡ s.status
  pub chip : after.chip ≡ s.chip
  pub fifo : after.fifo ≡ s.fifo

-- An accepted write of registers: what the run does place by place and bit by bit, and that nothing else
-- changes.
pub record RegisterWrite (s : State) (subaddress : ℕ) (bytes : List ℕ) (after : State) : Type 0 where
  pub run : RunMeans masks s.file subaddress bytes after.file
  pub rest : after ≡ with_file s after.file

-- An accepted write of the cursor map or of the colour table, whose data is a start cell and then bytes.
pub record CursorWrite (s : State) (start : ℕ) (bytes : List ℕ) (after : State) : Type 0 where
  pub cells : CellsMean 1 s.cursor start bytes after.cursor
  pub rest : after ≡ with_cursor s after.cursor

pub record ColourWrite (s : State) (start : ℕ) (bytes : List ℕ) (after : State) : Type 0 where
  pub cells : CellsMean 3 s.colours start bytes after.colours
  pub rest : after ≡ with_colours s after.colours

-- The state holds arrays of these lengths.
pub record Sized (s : State) : Type 0 where
  pub file : length s.file ≡ 256
  pub colours : length s.colours ≡ 768
  pub cursor : length s.cursor ≡ 256

-- All of it, for every state and every transaction.
pub record WritesMean : Type 0 where
  -- every fresh state has these lengths, and a write keeps them
  pub fresh : (chip : ℕ) → Sized (fresh_answer chip).state
  pub sized : (s : State) (t : List ℕ) → Sized s → Sized (bus_write s t).state
  pub any : (s : State) (t : List ℕ) → AnyWrite s t (bus_write s t).state
  pub registers : (s : State) (t : List ℕ) → Sized s → write_reply t ≡ 0 → get_or t 1 0 < 0xFE
      → RegisterWrite s (get_or t 1 0) (drop 2 t) (bus_write s t).state
  pub cursor : (s : State) (start : ℕ) (bytes : List ℕ) → Sized s
      → write_reply (0x88 ∷ 0xFE ∷ start ∷ bytes) ≡ 0
      → CursorWrite s start bytes (bus_write s (0x88 ∷ 0xFE ∷ start ∷ bytes)).state
  pub colours : (s : State) (start : ℕ) (bytes : List ℕ) → Sized s
      → write_reply (0x88 ∷ 0xFF ∷ start ∷ bytes) ≡ 0
      → ColourWrite s start bytes (bus_write s (0x88 ∷ 0xFF ∷ start ∷ bytes)).state
