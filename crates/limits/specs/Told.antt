-- What code answers to a request in the second step.
-- Assumes nothing.
use Rattle.std.specs.Prelude.{◌≡◌}
use Rattle.reply.specs.Refusals.{reply_of}
use Rattle.scaler.specs.declared.request.Request.{Request}
use Rattle.limits.specs.Replies.{Scaled}
use Rattle.limits.specs.declared.scale.Answer.{Answer}

-- its values in the paper's terms: the vertical part and L are the code's own, beside a refusal too
abbrev pub told_scale : Answer → Scaled
told_scale a = record { reply = reply_of a.reply; vertical = a.scaled.vertical; lines = a.lines }

-- what is handed on is of that request
abbrev pub OfRequest : Request → Answer → Type 0
OfRequest q a = a.scaled.request ≡ q
