-- Demand 2: what it means that a picture is written into a file, and that a file reads as a picture.
-- Assumes nothing.
use Rattle.std.specs.Prelude.{false, List, [], ◌∷◌, map, ◌↔◌, ◌≡◌, ℕ, ℤ, pos, length, get_or, replicate}
use Rattle.bits.specs.Bit.{bit}
use Rattle.fields.specs.Fields.{pieces, get_all}
use Rattle.fields.specs.Laws.{Bytes}
use Rattle.pieces.specs.Piece.{owns}
use Rattle.chip.specs.Fields.{picture_fields}
use Rattle.reply.specs.Reply.{lowest, LowestMeans, done}
use Rattle.scaler.specs.Acceptable.{Acceptable}
use Rattle.scaler.specs.Answer.{numbers_of}
use Rattle.scaler.specs.declared.request.Request.{Request}
use Rattle.picture.specs.Writing.{write_tests, write_reply, file_after}
use Rattle.readback.specs.Reading.{read_tests, read_answer}

-- A register file is 256 bytes.
pub record RegisterFile (file : List ℕ) : Type 0 where
  pub long : length file ≡ 256
  pub bytes : Bytes file

-- A request written into any list of bytes.
pub record WriteMeans (file : List ℕ) (q : Request) : Type 0 where
  -- done exactly when the file has 256 bytes and the picture is acceptable; else the lowest that applies
  pub exactly : (write_reply file q ≡ done) ↔ ((length file ≡ 256) × Acceptable q)
  pub least : LowestMeans (write_tests file q)
  -- then every field reads as its number, and every bit outside the fields is the old one
  pub reads : write_reply file q ≡ done → map pos (get_all (file_after file q) picture_fields) ≡ numbers_of q
  pub outside : Bytes file → (p j : ℕ) → owns (pieces picture_fields) p j ≡ false
      → bit (get_or (file_after file q) p 0) j ≡ bit (get_or file p 0) j
  pub long : length (file_after file q) ≡ length file
  pub bytes : Bytes file → Bytes (file_after file q)
  -- a refusal leaves every byte
  pub refused : (write_reply file q ≡ done → ⊥) → file_after file q ≡ file

-- the ten numbers of a request
unfoldable pub request_numbers : Request → List ℤ
request_numbers q =
    pos q.standard ∷ pos q.inpix ∷ pos q.inlin ∷ pos q.inppl ∷ pos q.outpix ∷ pos q.outlin
    ∷ q.offset ∷ pos q.yskip ∷ pos q.xofs.0 ∷ pos q.yofso ∷ []

-- A file reads as a request.
abbrev pub ReadsAs : List ℕ → Request → Type 0
ReadsAs file q = read_answer file ≡ record { reply = done; request = q }

-- A file is what some register file becomes when an accepted request is written into it.
pub record WrittenWith (file : List ℕ) (q : Request) : Type 0 where
  pub before : List ℕ
  pub whole : RegisterFile before
  pub accepted : write_reply before q ≡ done
  pub becomes : file_after before q ≡ file

pub record PicturesMean : Type 0 where
  pub writes : (file : List ℕ) (q : Request) → WriteMeans file q
  -- an accepted request that was written reads back as that request
  pub back : (file : List ℕ) (q : Request) → write_reply file q ≡ done → ReadsAs (file_after file q) q
  -- a register file reads as a request exactly when it was written with it
  pub exactly : (file : List ℕ) (q : Request) → RegisterFile file → ReadsAs file q ↔ WrittenWith file q
  -- and that is one request at most
  pub one : (file : List ℕ) (q r : Request) → WrittenWith file q → WrittenWith file r → q ≡ r
  -- the reply to a read is the lowest number that applies, and beside a refusal each number is 0
  pub reply : (file : List ℕ) → (read_answer file).reply ≡ lowest (read_tests file)
  pub least : (file : List ℕ) → LowestMeans (read_tests file)
  pub refused : (file : List ℕ) → ((read_answer file).reply ≡ done → ⊥)
      → request_numbers (read_answer file).request ≡ replicate 10 (pos 0)
