-- `stores::store_run` meets its contract: what is left of the run gives the whole.
-- Assumes nothing.
use mathlib.Core.Path.{refl, ◌∙◌}
use Prim.Native.Nat.{ℕ}
use borrow.Author.Rules.{rules}
use lib.Seq.{sets}
use Rattle.bits.proofs.Runs.{turn_next, turn_last}
use Rattle.stores.proofs.store_run.Goals as goal

-- what a place takes: the byte itself
abbrev stored : ℕ → ℕ → ℕ → ℕ
stored p old b = b

pub loop-i-preserved : goal.loop-i-preserved
loop-i-preserved c = let l = c.loop-i in
    let a = c.args in (
      search rules,
      turn_next sets stored (λ f a. refl) (λ f a b bs. refl) l.file a.at a.bytes.now l.i
          (search rules) ∙ l.invariant.1,
    )

pub returns-after-loop-i : goal.returns-after-loop-i
returns-after-loop-i c = let l = c.loop-i in
    let a = c.args in
    turn_last sets stored (λ f a. refl) (λ f a b bs. refl) l.file a.at a.bytes.now l.i
    (search rules) ∙ l.invariant.1
