-- A plan's answer in one number, in which a reply has eight bits.
-- Assumes nothing.
use mathlib.Core.Path.{◌≡◌}
use mathlib.Core.List.{List}
use Prim.Native.Nat.{ℕ, ◌+◌, ◌*◌, ◌/◌, ◌%◌, ◌<◌}
use native.Mathlib.Omega.{arith}
use Rattle.reply.specs.Refusals.{number_of}
use Rattle.reply.specs.declared.Refusal.{Refusal}
use Rattle.reply.specs.declared.Refusal.TheVariants.{WrongLength}
use Rattle.plan.specs.Meaning.{PlanMeans}
use Rattle.plan.specs.Plan.{Planned}
use Rattle.thymeflask.specs.Results.{planned_in}

pub number_small : (r : Refusal) → number_of r < 256
number_small WrongLength = omega arith
number_small _ = omega arith

planned_packs : (p : Planned) (n : ℕ) → p.reply < 256 → p.bytes < 16777216
    → n ≡ p.reply + 256 * p.bytes + 4294967296 * p.bursts → planned_in n ≡ p
unfolding planned_in
planned_packs p n a b e =
    let reply : n % 256 ≡ p.reply = omega arith in
    let above : n / 256 ≡ p.bytes + 16777216 * p.bursts = omega arith in
    let bytes : (p.bytes + 16777216 * p.bursts) % 16777216 ≡ p.bytes = omega arith in
    let bursts : n / 4294967296 ≡ p.bursts = omega arith in
    rw (reply, above, bytes, bursts)

pub packed_means : (from to before after : List ℕ) (p : Planned) (n : ℕ) → PlanMeans from to before p after
    → p.reply < 256 → n ≡ p.reply + 256 * p.bytes + 4294967296 * p.bursts
    → PlanMeans from to before (planned_in n) after
packed_means from to before after p n m r e = rw (planned_packs p n r (omega (arith, m.small)) e) m
