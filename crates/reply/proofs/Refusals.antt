-- No refusal has the number of an answer that is done.
-- Assumes nothing.
use mathlib.Core.Path.{◌≡◌}
use native.Mathlib.Omega.{arith}
use Rattle.reply.specs.Reply.{done}
use Rattle.reply.specs.Refusals.{number_of}
use Rattle.reply.specs.declared.Refusal.{Refusal}
use Rattle.reply.specs.declared.Refusal.TheVariants.{WrongLength}

pub not_done : (r : Refusal) → number_of r ≡ done → ⊥
not_done WrongLength e = omega arith
not_done _ e = omega arith
