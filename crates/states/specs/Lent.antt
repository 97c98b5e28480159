-- A state of document 01, "The part of the chip we use", in 1,283 lent bytes: what its operations leave
-- there.
-- Assumes nothing.
use Rattle.std.specs.Prelude.{◌≡◌, cond, List, [], ◌∷◌, ◌++◌, ℕ, Result, eqb, length, get_or, take, drop, replicate}
use Rattle.reply.specs.Refusals.{reply_of}
use Rattle.reply.specs.Reply.{done, wrong_length, wrong_request}
use Rattle.reply.specs.declared.Refusal.{Refusal}
use Rattle.bus.specs.Meaning.{Sized}
use Rattle.bus.specs.States.{with_status, with_fifo, fresh_answer, bus_write}
use Rattle.bus.specs.Answers.{Answer, ReadAnswer, told_byte}
use Rattle.bus.specs.declared.state.State.{State}

-- ---- a state and its bytes: the file, the colour table, the cursor map, status, chip and fifo

abbrev pub state_length : ℕ
state_length = 1283

unfoldable pub state_in : List ℕ → State
state_in bytes =
    record {
      file = take 256 bytes;
      colours = take 768 (drop 256 bytes);
      cursor = take 256 (drop 1024 bytes);
      status = get_or bytes 1280 0;
      chip = get_or bytes 1281 0;
      fifo = get_or bytes 1282 0;
    }

unfoldable pub bytes_of : State → List ℕ
bytes_of s = s.file ++ (s.colours ++ (s.cursor ++ s.status ∷ s.chip ∷ s.fifo ∷ []))

-- Any 1,283 bytes are a state, and every state has its own.
pub record StatesCross : Type 0 where
  pub there : (bytes : List ℕ) → length bytes ≡ state_length → bytes_of (state_in bytes) ≡ bytes
  pub sized : (bytes : List ℕ) → length bytes ≡ state_length → Sized (state_in bytes)
  pub back : (s : State) → Sized s → state_in (bytes_of s) ≡ s
  pub long : (s : State) → Sized s → length (bytes_of s) ≡ state_length

-- ---- operations

-- one of two, by whether the lent bytes are a state
abbrev pub if_state : {A : Type 0} → List ℕ → A → A → A
if_state bytes right wrong = cond (eqb (length bytes) state_length) right wrong

-- an operation's reply, and the bytes that it leaves: bytes of another length are refused with 1, and stay
unfoldable pub lent_reply : List ℕ → Answer → ℕ
lent_reply bytes answer = if_state bytes answer.reply wrong_length

unfoldable pub lent_after : List ℕ → Answer → List ℕ
lent_after bytes answer = if_state bytes (bytes_of answer.state) bytes

-- setting a readable byte is always done
abbrev pub status_set : State → ℕ → Answer
status_set s byte = record { state = with_status s byte; reply = done }

abbrev pub fifo_set : State → ℕ → Answer
fifo_set s byte = record { state = with_fifo s byte; reply = done }

-- a read's reply and byte, which is 0 beside a refusal
pub record Got : Type 0 where
  pub reply : ℕ
  pub byte : ℕ

abbrev pub told_got : Result ℕ Refusal → Got
told_got r = record { reply = reply_of r; byte = told_byte r }

unfoldable pub lent_read : List ℕ → ReadAnswer → Got
lent_read bytes answer =
    if_state bytes
    (record { reply = answer.reply; byte = answer.byte })
    (record { reply = wrong_length; byte = 0 })

-- What is left by a refusal: every byte, but that a fresh state of a wrong chip byte is all zero.
pub record RefusalsLeave : Type 0 where
  pub length_wrong : (bytes : List ℕ) (answer : Answer) → (length bytes ≡ state_length → ⊥)
      → (lent_reply bytes answer ≡ wrong_length) × (lent_after bytes answer ≡ bytes)
  pub write : (bytes transaction : List ℕ)
      → (lent_reply bytes (bus_write (state_in bytes) transaction) ≡ done → ⊥)
      → lent_after bytes (bus_write (state_in bytes) transaction) ≡ bytes
  pub fresh : (bytes : List ℕ) (chip : ℕ) → lent_reply bytes (fresh_answer chip) ≡ wrong_request
      → lent_after bytes (fresh_answer chip) ≡ replicate state_length 0
