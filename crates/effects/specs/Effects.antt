-- Document 01, "Sessions": what a whole record does to the state, its reply, and what it shows.
-- Assumes nothing.
use Rattle.std.specs.Prelude.{cond, List, [], ◌∷◌, ℕ, eqb, ltb, get_or}
use Rattle.chip.specs.File.{registers_end}
use Rattle.reply.specs.Reply.{done}
use Rattle.transactions.specs.Writes.{write_address, cursor_at, colours_at}
use Rattle.bus.specs.declared.state.State.{State}
use Rattle.bus.specs.Answers.{Answer}
use Rattle.bus.specs.States.{with_file, bus_write}
use Rattle.picture.specs.Writing.{write_reply, file_after}
use Rattle.lines.specs.Lines.{added_byte}
use Rattle.requests.specs.Requests.{request_of}

-- nothing is changed, and the reply is 0
abbrev pub nothing : State → Answer
nothing s = record { state = s; reply = done }

-- the picture goes into the state's file, with the writer's reply
abbrev pub pictured : State → List ℕ → Answer
pictured s body =
    record {
      state = with_file s (file_after s.file (request_of body));
      reply = write_reply s.file (request_of body);
    }

-- the next state and the reply, by kind: 01 a picture; 02 a register, 03 a colour cell and 04 a cursor byte
-- as a bus write of just that, but 02 at FEh or FFh changes nothing; 05 changes nothing
unfoldable pub outcome : State → ℕ → List ℕ → Answer
outcome s kind body =
    cond (eqb kind 0x01) (pictured s body)
    (cond (eqb kind 0x02)
    (cond (ltb (get_or body 0 0) registers_end) (bus_write s (write_address ∷ body)) (nothing s))
    (cond (eqb kind 0x03) (bus_write s (write_address ∷ colours_at ∷ body))
    (cond (eqb kind 0x04) (bus_write s (write_address ∷ cursor_at ∷ body)) (nothing s))))

-- 05 shows the file's own byte at its place; the other kinds show nothing
unfoldable pub shown : List ℕ → ℕ → List ℕ → List ℕ
shown file kind body = cond (eqb kind 0x05) (added_byte (get_or file (get_or body 0 0) 0)) []
