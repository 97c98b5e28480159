-- What it means that a picture is written and read, from the definitions.
-- Assumes nothing.
use mathlib.Core.Bool.{false, cond}
use mathlib.Core.List.{List, map}
use mathlib.Core.Logic.{⊎_elim}
use mathlib.Core.Path.{◌≡◌, refl, sym, ap, ◌∙◌}
use Prim.Native.Nat.{ℕ, zero, suc, ◌<◌, ◌≤◌}
use native.Mathlib.Omega.{arith}
use borrow.Author.Tests.{ne_eqb}
use lib.Dec.{eqb, eqb-suc-zero}
use lib.IntN.{pos}
use lib.ListN.{length, get_or}
use lib.Pow.{pow_mono}
use Rattle.bits.specs.Bit.{bit}
use Rattle.bits.proofs.Digits.{bit_high}
use Rattle.bits.proofs.Tests.{le_or_lt}
use Rattle.pieces.specs.Piece.{owns}
use Rattle.fields.specs.Fields.{pieces, get_all}
use Rattle.fields.specs.Laws.{Bytes}
use Rattle.fields.proofs.Lists.{field_laws}
use Rattle.chip.specs.Fields.{picture_fields}
use Rattle.scaler.specs.Answer.{numbers_of, fields_of, values_of}
use Rattle.scaler.specs.Limits.{request_reply}
use Rattle.scaler.specs.declared.request.Request.{Request}
use Rattle.scaler.proofs.Bounds.{all_fit}
use Rattle.scaler.proofs.Fits.{fits_natural}
use Rattle.scaler.proofs.Kept.{passed}
use Rattle.scaler.proofs.Meaning.{answers_mean, reply_is}
use Rattle.picture.specs.Writing.{write_reply, written, file_after}
use Rattle.picture.proofs.Accepted.{write_lowest, write_done, after_refused, after_done, lie_in, write_means}
use Rattle.readback.specs.Meaning.{RegisterFile, WriteMeans, request_numbers, ReadsAs, WrittenWith}
use Rattle.readback.specs.Meaning.{PicturesMean}
use Rattle.readback.specs.Reading.{numbers_in, request_in, read_reply, no_request, Found, not_found, read_answer}
use Rattle.readback.proofs.Answers.{read_lowest, read_done}
use Rattle.readback.proofs.Back.{request_back}

-- what holds of the first answer where the reply is 0, and of the second, holds of the one that is given
by_reply : {A : Type 0} (P : A → Type 0) (r : ℕ) (a b : A) → (r ≡ 0 → P a) → P b → P (cond (eqb r 0) a b)
by_reply P zero a b f y = f refl
by_reply P (suc r) a b f y = rw (eqb-suc-zero r) y

-- ---- writes

reads : (file : List ℕ) (q : Request) → write_reply file q ≡ 0
    → map pos (get_all (file_after file q) picture_fields) ≡ numbers_of q
unfolding fields_of values_of numbers_of
reads file q e =
    rw (after_done file q e, (write_means file q e).reads)
    (fits_natural picture_fields (numbers_of q) (all_fit q (passed q ((write_done file q).0 e).1)))

-- bits past the eighth are 0 before and after
high : (x j : ℕ) → x < 256 → 8 ≤ j → bit x j ≡ 0
high x j l h = bit_high x j (omega (arith, pow_mono {i = 8} {j = j} h))

outside : (file : List ℕ) (q : Request) → Bytes file → (p j : ℕ) → owns (pieces picture_fields) p j ≡ false
    → write_reply file q ≡ 0
    → bit (get_or (written file q) p 0) j ≡ bit (get_or file p 0) j
outside file q b p j o e =
    let m = write_means file q e in
    ⊎_elim (λ l. high _ j (m.bytes b p) l ∙ sym (high _ j (b p) l)) (λ l. m.outside p j l o) (le_or_lt 8 j)

writes : (file : List ℕ) (q : Request) → WriteMeans file q
unfolding file_after
writes file q =
    record {
      exactly = (
        λ e. let h = (write_done file q).0 e in (h.0, (answers_mean q).exactly.0 (reply_is q ∙ h.1)),
        λ h. (write_done file q).1 (h.0, sym (reply_is q) ∙ (answers_mean q).exactly.1 h.1),
      );
      least = write_lowest file q;
      reads = reads file q;
      outside = λ b p j o. by_reply (λ x. bit (get_or x p 0) j ≡ bit (get_or file p 0) j) (write_reply file q)
          (written file q) file (outside file q b p j o) refl;
      long = by_reply (λ x. length x ≡ length file) (write_reply file q) (written file q) file
          (λ e. (write_means file q e).long) refl;
      bytes = λ b. by_reply Bytes (write_reply file q) (written file q) file
          (λ e. (write_means file q e).bytes b) b;
      refused = after_refused file q;
    }

-- ---- reads

-- a file with the numbers of an accepted request reads as it
reads_as : (file : List ℕ) (q : Request) → length file ≡ 256 → request_reply q ≡ 0
    → numbers_in file ≡ values_of (fields_of q)
    → ReadsAs file q
unfolding read_answer
reads_as file q l e n =
    let b : request_in (numbers_in file) ≡ q = rw n (request_back q e) in
    let r = (read_done file).1 (l, (rw b e, rw b n)) in
    rw (r, b)

back : (file : List ℕ) (q : Request) → write_reply file q ≡ 0 → ReadsAs (file_after file q) q
back file q e =
    let h = (write_done file q).0 e in
    let m = write_means file q e in
    rw (after_done file q e) (reads_as (written file q) q (m.long ∙ h.0) h.1 m.reads)

read_reply_lem : (file : List ℕ) → (read_answer file).reply ≡ read_reply file
unfolding read_answer not_found
read_reply_lem file = by_reply (λ (x : Found). x.reply ≡ read_reply file) (read_reply file) _ _ (λ e. sym e) refl

-- its own numbers put back change nothing, so the file was written with them
was_written : (file : List ℕ) (q : Request) → RegisterFile file → ReadsAs file q → WrittenWith file q
unfolding read_answer written
was_written file q w a =
    let r = sym (read_reply_lem file) ∙ ap (λ x. x.reply) a in
    let s : request_in (numbers_in file) ≡ q = ap (λ x. x.request) (rw r at a) in
    let h = rw s at ((read_done file).0 r).1 in
    let e = (write_done file q).1 (w.long, h.0) in
    record {
      before = file;
      whole = w;
      accepted = e;
      becomes = after_done file q e
          ∙ rw (← h.1) (field_laws.same_all file picture_fields w.bytes (lie_in file w.long));
    }

reads_written : (file : List ℕ) (q : Request) → WrittenWith file q → ReadsAs file q
reads_written file q w = rw w.becomes at (back w.before q w.accepted)

pub pictures_mean : PicturesMean
unfolding read_reply read_answer not_found no_request request_numbers
pictures_mean =
    record {
      writes = writes;
      back = back;
      exactly = λ file q w. (was_written file q w, reads_written file q);
      one = λ file q r v w. ap (λ x. x.request) (sym (reads_written file q v) ∙ reads_written file r w);
      reply = read_reply_lem;
      least = read_lowest;
      refused = λ file n. rw (ne_eqb (read_reply file) 0 (λ e. n (read_reply_lem file ∙ e)));
    }
