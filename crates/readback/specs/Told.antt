-- What code answers to a read.
-- Assumes nothing.
use Rattle.std.specs.Prelude.{◌≡◌, List, ℕ, Option, Some, None, Result}
use Rattle.reply.specs.Refusals.{told}
use Rattle.reply.specs.Reply.{done, no_picture}
use Rattle.reply.specs.declared.Refusal.{Refusal}
use Rattle.scaler.specs.Limits.{request_reply}
use Rattle.scaler.specs.declared.request.Request.{Request}
use Rattle.readback.specs.Reading.{request_in, Found, not_found}

-- the reply, and the request beside it
abbrev pub told_read : Result Request Refusal → Found
told_read = told (λ q. record { reply = done; request = q }) not_found

-- the same, where the file has its 256 bytes
abbrev pub told_picture : Option Request → Found
told_picture (Some q) = record { reply = done; request = q }
told_picture None = not_found no_picture

-- the request that numbers tell, or none, and then it is refused
abbrev pub TellsRequest : List ℕ → Option Request → Type 0
TellsRequest vs (Some q) = q ≡ request_in vs
TellsRequest vs None = request_reply (request_in vs) ≡ done → ⊥
