-- Pictures by the C interface: a request is the 18 bytes of a session's record, and fields are 68 bytes.
-- Bytes of another length are refused with 1, and a refusal leaves all that is lent.
-- Assumes nothing.
use Rattle.std.specs.Prelude.{◌≡◌, cond, List, ℕ, ◌<◌, eqb, length, get_or}
use Rattle.reply.specs.Reply.{done, wrong_length}
use Rattle.scaler.specs.Answer.{values_of, checked}
use Rattle.picture.specs.Writing.{file_after}
use Rattle.picture.specs.Writing as writing
use Rattle.readback.specs.Reading.{read_answer}
use Rattle.requests.specs.Requests.{request_of, request_bytes}
use Rattle.words.specs.Words.{words_of}

-- one of two, by whether bytes that are lent have their length
abbrev pub if_long : {A : Type 0} → ℕ → List ℕ → A → A → A
if_long n bytes right wrong = cond (eqb (length bytes) n) right wrong

abbrev pub request_length : ℕ
request_length = 18

abbrev pub fields_length : ℕ
fields_length = 68

-- ---- the check: the fields' numbers beside the reply 0

unfoldable pub check_reply : List ℕ → List ℕ → ℕ
check_reply request fields =
    if_long request_length request
    (if_long fields_length fields (checked (request_of request)).reply wrong_length)
    wrong_length

unfoldable pub check_after : List ℕ → List ℕ → List ℕ
check_after request fields =
    cond (eqb (check_reply request fields) done)
    (words_of (values_of (checked (request_of request)).fields))
    fields

-- ---- the picture, written into a file

unfoldable pub write_reply : List ℕ → List ℕ → ℕ
write_reply file request =
    if_long request_length request (writing.write_reply file (request_of request)) wrong_length

unfoldable pub write_after : List ℕ → List ℕ → List ℕ
write_after file request = if_long request_length request (file_after file (request_of request)) file

-- ---- and read back: the request beside the reply 0

unfoldable pub read_reply : List ℕ → List ℕ → ℕ
read_reply file request = if_long request_length request (read_answer file).reply wrong_length

unfoldable pub read_after : List ℕ → List ℕ → List ℕ
read_after file request =
    cond (eqb (read_reply file request) done) (request_bytes (read_answer file).request) request

-- A request that was written reads back as its own bytes, and a refusal leaves what is lent.
pub record PicturesCross : Type 0 where
  pub back : (file request lent : List ℕ) → ((i : ℕ) → get_or request i 0 < 256) → length lent ≡ request_length
      → write_reply file request ≡ done
      → (read_reply (write_after file request) lent ≡ done)
      × (read_after (write_after file request) lent ≡ request)
  pub checks : (request fields : List ℕ) → (check_reply request fields ≡ done → ⊥)
      → check_after request fields ≡ fields
  pub writes : (file request : List ℕ) → (write_reply file request ≡ done → ⊥)
      → write_after file request ≡ file
  pub reads : (file request : List ℕ) → (read_reply file request ≡ done → ⊥)
      → read_after file request ≡ request
