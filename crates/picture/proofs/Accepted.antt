-- What the reply 0 says of a file and a request, and what an accepted write leaves.
-- Assumes nothing.
use mathlib.Core.Bool.{Bool, true, false, cond, true≢false}
use mathlib.Core.List.{List, [], ◌∷◌, map}
use mathlib.Core.Logic.{◌↔◌}
use mathlib.Core.Path.{◌≡◌, refl}
use Prim.Native.Nat.{ℕ, suc}
use native.Mathlib.Omega.{arith}
use borrow.Author.Tests.{ne_eqb}
use lib.Dec.{T}
use lib.IntN.{ℤ, pos, negsuc, nat_abs}
use lib.ListN.{length}
use Rattle.bits.proofs.Tests.{tests, refusals}
use Rattle.fields.specs.Fields.{pieces, lie_all, fit_all}
use Rattle.fields.specs.Laws.{AllMeans}
use Rattle.pieces.specs.Piece.{Field}
use Rattle.fields.proofs.Lists.{field_laws}
use Rattle.chip.specs.Fields.{picture_fields}
use Rattle.chip.proofs.Fields.{fields_in_map}
use Rattle.reply.specs.Reply.{lowest, rising, LowestMeans}
use Rattle.reply.proofs.Lowest.{lowest_means}
use Rattle.scaler.specs.Acceptable.{fits}
use Rattle.scaler.specs.Answer.{numbers_of, fields_of, values_of}
use Rattle.scaler.specs.Limits.{request_tests, request_reply}
use Rattle.scaler.specs.declared.request.Request.{Request}
use Rattle.scaler.proofs.Bounds.{all_fit}
use Rattle.scaler.proofs.Kept.{passed}
use Rattle.picture.specs.Writing.{write_tests, write_reply, written, file_after}

-- ---- the numbers of the tests rise, so the reply is the lowest that applies

pub write_lowest : (file : List ℕ) (q : Request) → LowestMeans (write_tests file q)
unfolding write_tests request_tests rising
write_lowest file q = lowest_means 0 (write_tests file q) tt

-- ---- the reply is 0 where no test holds

pub none_iff : (n : ℕ) (t : Bool) (r : ℕ) → (cond t (suc n) r ≡ 0) ↔ ((t ≡ false) × (r ≡ 0))
none_iff n true r = (λ e. absurd (omega arith), λ h. absurd (true≢false h.0))
none_iff n false r = (λ e. (refl, e), λ h. h.1)

pub write_done : (file : List ℕ) (q : Request)
    → (write_reply file q ≡ 0) ↔ ((length file ≡ 256) × (request_reply q ≡ 0))
unfolding write_reply write_tests request_reply lowest
write_done file q = simp (none_iff 0, refusals) (λ h. h, λ h. h)

-- the reply is 1 for a file of another length, and else the check's
pub write_short : (file : List ℕ) (q : Request) → (length file ≡ 256 → ⊥) → write_reply file q ≡ 1
unfolding write_reply write_tests lowest
write_short file q n = rw (ne_eqb (length file) 256 n)

pub write_long : (file : List ℕ) (q : Request) → length file ≡ 256 → write_reply file q ≡ request_reply q
unfolding write_reply write_tests lowest request_reply
write_long file q l = rw l

-- the file is left as it was, or has the numbers
pub after_refused : (file : List ℕ) (q : Request) → (write_reply file q ≡ 0 → ⊥) → file_after file q ≡ file
unfolding file_after
after_refused file q n = rw (ne_eqb (write_reply file q) 0 n)

pub after_done : (file : List ℕ) (q : Request) → write_reply file q ≡ 0 → file_after file q ≡ written file q
unfolding file_after
after_done file q e = rw e

-- ---- the numbers fit their fields, and the fields lie in the file

fit_values : (fs : List Field) (zs : List ℤ) → T (fits fs zs) → T (fit_all fs (map nat_abs zs))
unfolding fits fit_all
fit_values [] [] t = tt
fit_values [] (z ∷ zs) t = absurd t
fit_values (f ∷ fs) [] t = absurd t
fit_values (f ∷ fs) (pos v ∷ zs) t =
    let h = simp tests at t in simp tests (h.0.1, fit_values fs zs h.1)
fit_values (f ∷ fs) (negsuc v ∷ zs) t = absurd t

values_fit : (q : Request) → request_reply q ≡ 0 → T (fit_all picture_fields (values_of (fields_of q)))
unfolding fields_of values_of numbers_of
values_fit q e = fit_values picture_fields (numbers_of q) (all_fit q (passed q e))

pub lie_in : (file : List ℕ) → length file ≡ 256 → T (lie_all (length file) (pieces picture_fields))
lie_in file l = rw l fields_in_map.lie

pub write_means : (file : List ℕ) (q : Request) → write_reply file q ≡ 0
    → AllMeans file picture_fields (values_of (fields_of q)) (written file q)
unfolding written
write_means file q e =
    let h = (write_done file q).0 e in
    field_laws.all file picture_fields (values_of (fields_of q)) (lie_in file h.0) fields_in_map.apart
    (values_fit q h.1)
