-- Document 01, "Reply numbers" 1 and 9, and demand 2: the request that a file reads as.
-- Assumes nothing.
use Rattle.std.specs.Prelude.{Bool, true, false, cond, not, ◌&&◌, List, [], ◌∷◌, ℕ, ◌+◌, ◌-◌, ◌*◌, eqb, pos, ◌-ℤ◌, get_or}
use Rattle.fields.specs.Fields.{get_all}
use Rattle.chip.specs.Fields.{picture_fields}
use Rattle.chip.specs.File.{wrong_file}
use Rattle.reply.specs.Reply.{lowest, done, wrong_length, no_picture}
use Rattle.scaler.specs.Answer.{fields_of, values_of}
use Rattle.scaler.specs.Limits.{request_reply}
use Rattle.scaler.specs.Numbers.{middle_clock, centred_line}
use Rattle.scaler.specs.declared.request.Request.{Request}

-- the numbers of a file's fields, and those that tell the request, by their order in the table of fields
abbrev pub numbers_in : List ℕ → List ℕ
numbers_in file = get_all file picture_fields

abbrev pub fise_in : List ℕ → ℕ
fise_in vs = get_or vs 0 0

abbrev pub adwhs_in : List ℕ → ℕ
adwhs_in vs = get_or vs 1 0

abbrev pub fal_in : List ℕ → ℕ
fal_in vs = get_or vs 3 0

abbrev pub lal_in : List ℕ → ℕ
lal_in vs = get_or vs 4 0

abbrev pub xofs_in : List ℕ → ℕ
xofs_in vs = get_or vs 6 0

abbrev pub xpix_in : List ℕ → ℕ
xpix_in vs = get_or vs 7 0

abbrev pub yofso_in : List ℕ → ℕ
yofso_in vs = get_or vs 8 0

abbrev pub ypix_in : List ℕ → ℕ
ypix_in vs = get_or vs 10 0

abbrev pub hlen_in : List ℕ → ℕ
hlen_in vs = get_or vs 11 0

abbrev pub yskip_in : List ℕ → ℕ
yskip_in vs = get_or vs 16 0

-- the one request that they can come from: document 01's formulas, solved for it
abbrev pub standard_in : List ℕ → ℕ
standard_in vs = 1 - fise_in vs

abbrev pub outlin_in : List ℕ → ℕ
outlin_in vs = lal_in vs - fal_in vs

unfoldable pub request_in : List ℕ → Request
request_in vs =
    record {
      standard = standard_in vs;
      inpix = 2 * xpix_in vs;
      inlin = ypix_in vs;
      inppl = hlen_in vs + 1;
      outpix = middle_clock (standard_in vs) - adwhs_in vs;
      outlin = outlin_in vs;
      offset = pos (fal_in vs) -ℤ centred_line (standard_in vs) (outlin_in vs);
      yskip = yskip_in vs;
      xofs = record { 0 = xofs_in vs };
      yofso = yofso_in vs;
    }

-- two lists of numbers are the same
unfoldable pub same : List ℕ → List ℕ → Bool
same [] [] = true
same [] (w ∷ ws) = false
same (v ∷ vs) [] = false
same (v ∷ vs) (w ∷ ws) = eqb v w && same vs ws

-- the numbers are an accepted picture's: that request is accepted, and has every one of them
unfoldable pub is_picture : List ℕ → Bool
is_picture vs = eqb (request_reply (request_in vs)) done && same vs (values_of (fields_of (request_in vs)))

unfoldable pub read_tests : List ℕ → List (ℕ × Bool)
read_tests file = (wrong_length, wrong_file file) ∷ (no_picture, not (is_picture (numbers_in file))) ∷ []

unfoldable pub read_reply : List ℕ → ℕ
read_reply file = lowest (read_tests file)

-- beside a refusal each number is 0
unfoldable pub no_request : Request
no_request =
    record {
      standard = 0;
      inpix = 0;
      inlin = 0;
      inppl = 0;
      outpix = 0;
      outlin = 0;
      offset = pos 0;
      yskip = 0;
      xofs = record { 0 = 0 };
      yofso = 0;
    }

-- the reply, and the request beside it
pub record Found : Type 0 where
  pub reply : ℕ
  pub request : Request

unfoldable pub not_found : ℕ → Found
not_found reply = record { reply = reply; request = no_request }

-- the request that the file reads as, or a refusal
unfoldable pub read_answer : List ℕ → Found
read_answer file =
    cond (eqb (read_reply file) done)
    (record { reply = done; request = request_in (numbers_in file) })
    (not_found (read_reply file))

-- what is left to answer for a file of 256 bytes, from its numbers
unfoldable pub answer_for : List ℕ → Found
answer_for vs =
    cond (is_picture vs) (record { reply = done; request = request_in vs }) (not_found no_picture)
