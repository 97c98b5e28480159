-- What the answer to a request means.
-- Assumes nothing.
use Rattle.std.specs.Prelude.{map, ◌↔◌, ◌≡◌, pos, replicate}
use Rattle.reply.specs.Reply.{lowest, LowestMeans, done, wrong_weight}
use Rattle.scaler.specs.Acceptable.{Acceptable}
use Rattle.scaler.specs.Answer.{numbers_of, values_of, checked}
use Rattle.scaler.specs.Limits.{request_tests}
use Rattle.scaler.specs.declared.request.Request.{Request}

pub record AnswerMeans (q : Request) : Type 0 where
  -- accepted exactly when acceptable
  pub exactly : ((checked q).reply ≡ done) ↔ Acceptable q
  -- the fields are then the numbers of the request, in order
  pub numbers : (checked q).reply ≡ done → map pos (values_of (checked q).fields) ≡ numbers_of q
  -- the reply is the lowest number that applies, and beside a refusal each number is 0
  pub reply : (checked q).reply ≡ lowest (request_tests q)
  pub least : LowestMeans (request_tests q)
  pub zeros : ((checked q).reply ≡ done → ⊥) → values_of (checked q).fields ≡ replicate 17 0
  -- number 8 is never given
  pub never : (checked q).reply ≡ wrong_weight → ⊥

abbrev pub AnswersMean : Type 0
AnswersMean = (q : Request) → AnswerMeans q
