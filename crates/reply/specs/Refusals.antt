-- Document 01, "Reply numbers": the number of each refusal in code, and of an answer.
-- Assumes nothing.
use Rattle.std.specs.Prelude.{ℕ, Result, Ok, Err}
use Rattle.reply.specs.Reply.{done, wrong_length, wrong_address, passes_end, wrong_request, output_limit, too_large}
use Rattle.reply.specs.Reply.{too_fast, wrong_weight, no_picture, not_writable, too_long, not_readable}
use Rattle.reply.specs.declared.Refusal.{Refusal}
use Rattle.reply.specs.declared.Refusal.TheVariants.{WrongLength, WrongAddress, PassesEnd, WrongRequest, OutputLimit, TooLarge, TooFast, WrongWeight, NoPicture, NotWritable, TooLong, NotReadable}

abbrev pub number_of : Refusal → ℕ
number_of WrongLength = wrong_length
number_of WrongAddress = wrong_address
number_of PassesEnd = passes_end
number_of WrongRequest = wrong_request
number_of OutputLimit = output_limit
number_of TooLarge = too_large
number_of TooFast = too_fast
number_of WrongWeight = wrong_weight
number_of NoPicture = no_picture
number_of NotWritable = not_writable
number_of TooLong = too_long
number_of NotReadable = not_readable

-- An answer by its number: what a value comes to, and what a refusal's number comes to.
abbrev pub told : {A B : Type 0} → (A → B) → (ℕ → B) → Result A Refusal → B
told value refused (Ok x) = value x
told value refused (Err r) = refused (number_of r)

-- the number alone: 0 where it is done
abbrev pub reply_of : {A : Type 0} → Result A Refusal → ℕ
reply_of = told (λ _. done) (λ n. n)
