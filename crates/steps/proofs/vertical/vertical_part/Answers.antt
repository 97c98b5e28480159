-- `steps::vertical::vertical_part` meets its contract: all numbers from one division, in the two cases of
-- YSKIP.
-- Assumes nothing.
use mathlib.Core.Path.{sym}
use mathlib.Core.Bool.{cond}
use Prim.Native.Nat.{ℕ, ◌*◌, ◌/◌, ◌%◌, ◌^◌, ◌<◌, ◌≤◌}
use native.Mathlib.Nat.{mod-lt, div-le_self}
use native.Mathlib.Omega.{arith}
use borrow.Author.Rules.{rules}
use lib.Dec.{leb}
use Rattle.scaler.specs.Numbers.{num_of, den_of}
use Rattle.scaler.proofs.Windows.{at_both}
use Rattle.scaler.proofs.Steps.{num_lt, den_pos, den_lt}
use Rattle.steps.proofs.Verticals.{vertical_early, vertical_late}
use Rattle.steps.proofs.vertical.vertical_part.Goals.{After-step_den-den}
use Rattle.steps.proofs.vertical.vertical_part.Goals as goal

-- what is known of N and D, of their quotient, and of what is left
record Known (n d : ℕ) : Type 0 where
  positive : 0 < d
  quotient : n / d < 2 ^ 48
  rest : n % d < d
  narrow : d < 2 ^ 32

known : (c : After-step_den-den) → Known c.step_num-num.result c.step_den-den.result
known c =
    let a = c.args in
    let n = num_lt a.outlin a.yskip (search rules) (search rules) in
    let d = den_pos a.inlin in
    rw (c.step_num-num.ensures, c.step_den-den.ensures)
    (record {
      positive = d;
      quotient = omega (arith, div-le_self (num_of a.outlin a.yskip) (den_of a.inlin));
      rest = mod-lt (num_of a.outlin a.yskip) d;
      narrow = den_lt a.inlin (search rules);
    })

pub nonzero_div-whole : goal.nonzero_div-whole
nonzero_div-whole c = (known c).positive

pub nonzero_rem-rest : goal.nonzero_rem-rest
nonzero_rem-rest c = (known c).positive

pub half_up-requires : goal.half_up-requires
half_up-requires c = (known c).rest

pub overflow_add-yinc : goal.overflow_add-yinc
overflow_add-yinc c = let n = c.step_num-num.result in
    let d = c.step_den-den.result in
    let one = at_both (λ t. cond t 1 0 ≤ 1) (leb d (2 * (n % d))) (omega arith) (omega arith) in
    omega (arith, (known (goal.at.overflow_add-yinc c).After-step_den-den).quotient, c.half_up.ensures)

pub overflow_add-yiwgto : goal.overflow_add-yiwgto
overflow_add-yiwgto c = omega (arith, (known (goal.at.overflow_add-yiwgto c).After-step_den-den).quotient)

pub returns-then-yskip-whole : goal.returns-then-yskip-whole
returns-then-yskip-whole c = rw (c.half_up.ensures, ← c.step_num-num.ensures, ← c.step_den-den.ensures)
    (sym (vertical_early c.step_num-num.result c.step_den-den.result _ (known (goal.at.returns-then-yskip-whole c).After-step_den-den).positive
    c.if-yskip-whole.true))

pub overflow_mul-result : goal.overflow_mul-result
overflow_mul-result c = omega (arith, (known (goal.at.overflow_mul-result c).After-step_den-den).quotient)

pub overflow_mul-result-else-yskip-whole : goal.overflow_mul-result-else-yskip-whole
overflow_mul-result-else-yskip-whole c = omega (arith, (known (goal.at.overflow_mul-result-else-yskip-whole c).After-step_den-den).rest, (known (goal.at.overflow_mul-result-else-yskip-whole c).After-step_den-den).narrow)

pub nonzero_div-result : goal.nonzero_div-result
nonzero_div-result c = (known (goal.at.nonzero_div-result c).After-step_den-den).positive

pub overflow_add-result : goal.overflow_add-result
overflow_add-result c = let d = c.step_den-den.result in
    let r = c.step_num-num.result % d in
    omega (arith, (known (goal.at.overflow_add-result c).After-step_den-den).quotient, (known (goal.at.overflow_add-result c).After-step_den-den).rest, (known (goal.at.overflow_add-result c).After-step_den-den).narrow, div-le_self (3 * r) d)

pub returns-else-yskip-whole : goal.returns-else-yskip-whole
returns-else-yskip-whole c = rw (c.half_up.ensures, ← c.step_num-num.ensures, ← c.step_den-den.ensures)
    (sym (vertical_late c.step_num-num.result c.step_den-den.result _ (known (goal.at.returns-else-yskip-whole c).After-step_den-den).positive
    c.if-yskip-whole.false))
