-- The reply to a request, from its two steps.
-- Assumes nothing.
use mathlib.Core.Bool.{Bool, true, false, not}
use mathlib.Core.List.{[], ◌∷◌}
use mathlib.Core.Path.{◌≡◌, refl, sym, ap, ◌∙◌}
use native.Mathlib.Omega.{arith}
use Rattle.reply.specs.Reply.{lowest, rising}
use Rattle.reply.proofs.Lowest.{lowest_front, lowest_back}
use Rattle.scaler.specs.Limits.{wrong_source, output_holds, request_tests, request_reply}
use Rattle.scaler.specs.declared.request.Request.{Request}
use Rattle.limits.specs.Replies.{limits_reply, scale_reply, Scaled, scaled_for}

-- ---- the first tests decide where one of them applies, and else the others

pub by_limits : (q : Request) → (limits_reply q ≡ 0 → ⊥) → request_reply q ≡ limits_reply q
unfolding limits_reply request_reply
by_limits q n = lowest_front 2 (request_tests q) n

pub by_scale : (q : Request) → limits_reply q ≡ 0 → request_reply q ≡ scale_reply q
unfolding limits_reply scale_reply request_reply request_tests rising
by_scale q e = lowest_back 0 2 (request_tests q) tt e

-- what the second step hands on
pub scaled_reply : (q : Request) (s : Scaled) → s ≡ scaled_for q → limits_reply q ≡ 0 → s.reply ≡ request_reply q
unfolding scaled_for
scaled_reply q s e l = ap (λ x. x.reply) e ∙ sym (by_scale q l)

-- ---- where neither of the first two applies, the output limits hold

neither : (a b : Bool) → lowest ((4, a) ∷ (5, not b) ∷ []) ≡ 0 → b ≡ true
unfolding lowest
neither true b e = absurd (omega arith)
neither false true e = refl
neither false false e = absurd (omega arith)

pub limits_output : (q : Request) → limits_reply q ≡ 0 → output_holds q ≡ true
unfolding limits_reply request_tests lowest
limits_output q e = neither (wrong_source q) (output_holds q) e
