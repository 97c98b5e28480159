-- Document 01, "The part of the chip we use": the state, a fresh one, and the readable bytes that the caller
-- sets.
-- "Bus writes and reads": what a write does to it, and what a read gives.
-- Assumes nothing.
use Rattle.std.specs.Prelude.{Bool, cond, ◌||◌, List, ℕ, eqb, get_or, drop, replicate}
use Rattle.bits.specs.Run.{merge_run}
use Rattle.chip.specs.Map.{masks}
use Rattle.reply.specs.Reply.{done, wrong_request}
use Rattle.transactions.specs.Writes.{by_target, cursor_cell, colour_cell, write_reply}
use Rattle.transactions.specs.Reads.{read_reply, byte_of}
use Rattle.writers.specs.Cells.{cells_run}
use Rattle.bus.specs.declared.state.State.{State}
use Rattle.bus.specs.Answers.{Answer, ReadAnswer}

-- a state with one part anew
abbrev pub with_file : State → List ℕ → State
with_file s f =
    record {
      file = f;
      colours = s.colours;
      cursor = s.cursor;
      status = s.status;
      chip = s.chip;
      fifo = s.fifo;
    }

abbrev pub with_colours : State → List ℕ → State
with_colours s t =
    record {
      file = s.file;
      colours = t;
      cursor = s.cursor;
      status = s.status;
      chip = s.chip;
      fifo = s.fifo;
    }

abbrev pub with_cursor : State → List ℕ → State
with_cursor s m =
    record {
      file = s.file;
      colours = s.colours;
      cursor = m;
      status = s.status;
      chip = s.chip;
      fifo = s.fifo;
    }

abbrev pub with_status : State → ℕ → State
with_status s b =
    record {
      file = s.file;
      colours = s.colours;
      cursor = s.cursor;
      status = b;
      chip = s.chip;
      fifo = s.fifo;
    }

abbrev pub with_fifo : State → ℕ → State
with_fifo s b =
    record {
      file = s.file;
      colours = s.colours;
      cursor = s.cursor;
      status = s.status;
      chip = s.chip;
      fifo = b;
    }

-- and with its three arrays anew
abbrev pub with_arrays : State → List ℕ → List ℕ → List ℕ → State
with_arrays s f t m =
    record {
      file = f;
      colours = t;
      cursor = m;
      status = s.status;
      chip = s.chip;
      fifo = s.fifo;
    }

-- all zero but for the chip byte
unfoldable pub zero_state : ℕ → State
zero_state chip =
    record {
      file = replicate 256 0;
      colours = replicate 768 0;
      cursor = replicate 256 0;
      status = 0;
      chip = chip;
      fifo = 0;
    }

-- 02h is the SAA7102's chip byte and 03h the SAA7103's
abbrev pub known_chip : ℕ → Bool
known_chip chip = eqb chip 0x02 || eqb chip 0x03

-- a fresh state as asked; for another chip byte the number 4 and a state that is all zero
unfoldable pub fresh_answer : ℕ → Answer
fresh_answer chip =
    cond (known_chip chip)
    (record { state = zero_state chip; reply = done })
    (record { state = zero_state 0; reply = wrong_request })

-- the state after an accepted write of some bytes at a subaddress
unfoldable pub stored : State → ℕ → List ℕ → State
stored s subaddress bytes =
    by_target subaddress
    (with_cursor s (cells_run cursor_cell s.cursor bytes))
    (with_colours s (cells_run colour_cell s.colours bytes))
    (with_file s (merge_run masks s.file subaddress bytes))

-- a bus write: a refusal leaves the state as it was
unfoldable pub bus_write : State → List ℕ → Answer
bus_write s t =
    record {
      state = cond (eqb (write_reply t) done) (stored s (get_or t 1 0) (drop 2 t)) s;
      reply = write_reply t;
    }

-- a bus read: it changes nothing, and beside a refusal the byte is 0
unfoldable pub bus_read : State → List ℕ → ReadAnswer
bus_read s t =
    record {
      state = s;
      reply = read_reply t;
      byte = cond (eqb (read_reply t) done) (byte_of s.status s.chip s.fifo (get_or t 1 0)) 0;
    }
