use Rattle.std.proofs.Common.{◌≡◌, ◌+◌, refl}
use denote.Enum.Declared.{tag_of}
use Rattle.reply.specs.contracts.Refusal.{the_type}
use Rattle.reply.specs.Refusals.{number_of}
use Rattle.reply.specs.declared.Refusal.{Refusal}
use Rattle.reply.specs.declared.Refusal.TheVariants.{WrongLength, WrongAddress, PassesEnd, WrongRequest, OutputLimit, TooLarge, TooFast, WrongWeight, NoPicture, NotWritable, TooLong, NotReadable}
use Rattle.reply.proofs.U8FromRefusal.from.Goals as goal

-- the variants stand in the order of their numbers
numbered : (r : Refusal) → tag_of the_type r + 1 ≡ number_of r
numbered WrongLength = refl
numbered WrongAddress = refl
numbered PassesEnd = refl
numbered WrongRequest = refl
numbered OutputLimit = refl
numbered TooLarge = refl
numbered TooFast = refl
numbered WrongWeight = refl
numbered NoPicture = refl
numbered NotWritable = refl
numbered TooLong = refl
numbered NotReadable = refl

pub returns : goal.returns
returns c = numbered c.args.refusal
