-- The reply to a request in two steps: by the tests that need no number of the scaler, and by the others.
-- Assumes nothing.
use Rattle.std.specs.Prelude.{ℕ, take, drop}
use Rattle.reply.specs.Reply.{lowest}
use Rattle.scaler.specs.Limits.{lines_for, request_tests}
use Rattle.scaler.specs.declared.request.Request.{Request}
use Rattle.steps.specs.Parts.{vertical_for}
use Rattle.steps.specs.declared.vertical.Vertical.{Vertical}

-- by the first two tests, 4 and 5
unfoldable pub limits_reply : Request → ℕ
limits_reply q = lowest (take 2 (request_tests q))

-- by those behind them, 6 to 8
unfoldable pub scale_reply : Request → ℕ
scale_reply q = lowest (drop 2 (request_tests q))

-- the second step's reply, with what the numbers come from: the vertical part and L
pub record Scaled : Type 0 where
  pub reply : ℕ
  pub vertical : Vertical
  pub lines : ℕ

unfoldable pub scaled_for : Request → Scaled
scaled_for q = record { reply = scale_reply q; vertical = vertical_for q; lines = lines_for q }
