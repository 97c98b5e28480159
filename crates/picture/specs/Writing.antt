-- Document 01, "From picture to fields": a request written into a lent file.
-- Assumes nothing.
use Rattle.std.specs.Prelude.{Bool, cond, List, ◌∷◌, ℕ, eqb}
use Rattle.fields.specs.Fields.{put_all}
use Rattle.chip.specs.Fields.{picture_fields}
use Rattle.chip.specs.File.{wrong_file}
use Rattle.reply.specs.Reply.{lowest, done, wrong_length}
use Rattle.scaler.specs.Answer.{fields_of, values_of}
use Rattle.scaler.specs.Limits.{request_tests}
use Rattle.scaler.specs.declared.request.Request.{Request}

-- 1: a lent file is exactly 256 bytes; then what the check refuses
unfoldable pub write_tests : List ℕ → Request → List (ℕ × Bool)
write_tests file q = (wrong_length, wrong_file file) ∷ request_tests q

unfoldable pub write_reply : List ℕ → Request → ℕ
write_reply file q = lowest (write_tests file q)

-- the file with the request's numbers in the fields
unfoldable pub written : List ℕ → Request → List ℕ
written file q = put_all file picture_fields (values_of (fields_of q))

-- the file that a write leaves: a refusal leaves every byte
unfoldable pub file_after : List ℕ → Request → List ℕ
file_after file q = cond (eqb (write_reply file q) done) (written file q) file
