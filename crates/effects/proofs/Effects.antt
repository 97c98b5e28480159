-- What a record of each kind does, in the parts of a state.
-- Assumes nothing.
use mathlib.Core.Path.{◌≡◌, refl, ap, ◌∙◌}
use mathlib.Core.Bool.{false}
use mathlib.Core.List.{List, [], ◌∷◌}
use Prim.Native.Nat.{ℕ, suc, ◌+◌, ◌<◌, ◌≤◌}
use native.Mathlib.Decide.{ℕ_discrete}
use native.Mathlib.Nat.{mod_self, div_self}
use native.Mathlib.Omega.{arith}
use borrow.Author.Tests.{eq-eqb, ne_eqb, lt-ltb, le-ltb}
use lib.ListN.{length, get_or, set, take}
use lib.Seq.{take-length}
use Rattle.bits.specs.Merge.{merge}
use Rattle.bits.specs.Run.{merge_run}
use Rattle.chip.specs.Map.{masks}
use Rattle.reply.specs.Reply.{lowest}
use Rattle.reply.proofs.Lowest.{all_below, lowest_below}
use Rattle.transactions.specs.Writes.{write_address, cursor_at, colours_at, from_start, cells_pass, passes}
use Rattle.transactions.specs.Writes.{write_tests as bus_tests, write_reply as bus_reply}
use Rattle.writers.specs.Cells.{cells_run}
use Rattle.bus.specs.States.{stored, bus_write}
use Rattle.bus.specs.Sending.{transaction}
use Rattle.bus.specs.declared.state.State.{State}
use Rattle.bus.proofs.Sending.{sends_mean}
use Rattle.scaler.specs.Limits.{request_tests}
use Rattle.scaler.specs.declared.request.Request.{Request}
use Rattle.picture.specs.Writing.{write_tests, write_reply, file_after}
use Rattle.requests.specs.Requests.{request_of}
use Rattle.records.specs.Records.{body_length}
use Rattle.records.proofs.Steps.{unknown}
use Rattle.lines.specs.Lines.{added_byte}
use Rattle.effects.specs.Effects.{outcome, shown}
use Rattle.effects.specs.Parts.{in_parts, Body, Does}

-- ---- a body of a kind

pub body_long : (kind k : ℕ) (body : List ℕ) → Body kind body → kind ≡ k → length body ≡ body_length k
body_long kind k body b e = b.long ∙ ap body_length e

-- a known kind that is none of 01 to 04 is 05
pub last_kind : (kind : ℕ) (body : List ℕ) → Body kind body → (kind ≡ 1 → ⊥) → (kind ≡ 2 → ⊥)
    → (kind ≡ 3 → ⊥) → (kind ≡ 4 → ⊥) → kind ≡ 5
last_kind kind body b one two three four =
    by (λ five. let e = unknown kind one two three four five in let k = b.known in omega arith)
    (ℕ_discrete kind 5)
  where
    by : ((kind ≡ 5 → ⊥) → ⊥) → Dec (kind ≡ 5) → kind ≡ 5
    by f (yes e) = e
    by f (no n) = absurd (f n)

-- ---- 01

-- the writer's reply is one digit
pub reply_digit : (file : List ℕ) (q : Request) → write_reply file q < 10
unfolding write_reply write_tests request_tests all_below
reply_digit file q = lowest_below 10 (write_tests file q) (omega arith) tt

pub picture_does : (body file colours cursor : List ℕ)
    → Does 0x01 body file colours cursor (write_reply file (request_of body))
    (file_after file (request_of body)) colours cursor
unfolding outcome
picture_does body file colours cursor =
    record { outcome_is = λ status chip fifo. refl; digit = reply_digit file (request_of body) }

-- ---- 02

pub register_none : (body file colours cursor : List ℕ) → 0xFE ≤ get_or body 0 0
    → Does 0x02 body file colours cursor 0 file colours cursor
unfolding outcome
register_none body file colours cursor l =
    record { outcome_is = λ status chip fifo. rw (le-ltb (get_or body 0 0) 0xFE l); digit = omega arith }

-- the file with one register byte merged into it
abbrev pub registered : List ℕ → List ℕ → List ℕ
registered file body =
    set file (get_or body 0 0)
    (merge (get_or masks (get_or body 0 0) 0) (get_or file (get_or body 0 0) 0) (get_or body 1 0))

pub register_does : (body file colours cursor : List ℕ) → length body ≡ 2 → get_or body 0 0 < 0xFE
    → Does 0x02 body file colours cursor 0 (registered file body) colours cursor
unfolding outcome transaction merge_run
register_does [] file colours cursor n l = absurd (omega arith)
register_does (place ∷ []) file colours cursor n l = absurd (omega arith)
register_does (place ∷ byte ∷ []) file colours cursor n l =
    record {
      outcome_is = λ status chip fifo. rw (lt-ltb place 0xFE l)
          (sends_mean.burst (in_parts file colours cursor status chip fifo)
          (record { place = place; bytes = byte ∷ [] }) l (omega arith));
      digit = omega arith;
    }
register_does (place ∷ byte ∷ more ∷ body) file colours cursor n l = absurd (omega arith)

-- ---- 03 and 04

-- one cell of any width, with its start cell before it
pub cell_fits : (width : ℕ) (body : List ℕ) → 0 < width → length body ≡ width + 1 → get_or body 0 0 < 256
    → cells_pass width body ≡ false
unfolding cells_pass from_start
cell_fits width [] w n l = absurd (omega arith)
cell_fits width (cell ∷ bytes) w n l =
    let e : length bytes ≡ width = omega arith in
    rw (e, mod_self width, div_self w, le-ltb 256 (cell + 1) (omega arith))

-- which is as many bytes of a body as it has
pub whole_cell : (width : ℕ) (body : List ℕ) → length body ≡ width + 1 → take (width + 1) body ≡ body
whole_cell width body n = rw (← n) (take-length body)

-- a write whose run does not pass its end is done
write_done : (s : State) (subaddress : ℕ) (body : List ℕ) → passes subaddress body ≡ false
    → bus_write s (write_address ∷ subaddress ∷ body) ≡ record { state = stored s subaddress body; reply = 0 }
unfolding bus_write bus_reply bus_tests lowest
write_done s subaddress body fits = rw (fits, le-ltb (suc (suc (length body))) 2 (omega arith))

pub colour_does : (body file colours cursor : List ℕ) → cells_pass 3 body ≡ false
    → Does 0x03 body file colours cursor 0 file (cells_run 3 colours body) cursor
unfolding outcome stored passes
colour_does body file colours cursor fits =
    record { outcome_is = λ status chip fifo. write_done _ colours_at body fits; digit = omega arith }

pub cursor_does : (body file colours cursor : List ℕ) → cells_pass 1 body ≡ false
    → Does 0x04 body file colours cursor 0 file colours (cells_run 1 cursor body)
unfolding outcome stored passes
cursor_does body file colours cursor fits =
    record { outcome_is = λ status chip fifo. write_done _ cursor_at body fits; digit = omega arith }

-- ---- 05

pub show_does : (body file colours cursor : List ℕ) → Does 0x05 body file colours cursor 0 file colours cursor
unfolding outcome
show_does body file colours cursor =
    record { outcome_is = λ status chip fifo. refl; digit = omega arith }

-- ---- what is shown

pub shown_byte : (kind : ℕ) (file body : List ℕ) → kind ≡ 5
    → shown file kind body ≡ added_byte (get_or file (get_or body 0 0) 0)
unfolding shown
shown_byte kind file body e = rw (eq-eqb kind 5 e)

pub shown_none : (kind : ℕ) (file body : List ℕ) → (kind ≡ 5 → ⊥) → shown file kind body ≡ []
unfolding shown
shown_none kind file body n = rw (ne_eqb kind 5 n)
