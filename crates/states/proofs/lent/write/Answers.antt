-- `states::lent::write` meets its contract: what the arrays come to, in the state that has them.
-- Assumes nothing.
use mathlib.Core.Path.{◌≡◌, ap, ◌∙◌}
use borrow.Author.Tests.{eq-eqb}
use Rattle.bus.specs.States.{with_arrays, bus_write}
use Rattle.states.specs.Lent.{state_in, bytes_of, lent_reply, lent_after}
use Rattle.states.proofs.Parts.{arrays_in, arrays_anew}
use Rattle.states.proofs.lent.write.Goals as goal

pub returns : goal.returns
unfolding lent_reply lent_after
returns c =
    let xs = c.args.state.now in
    let l = c.in_ok-check_length.ensures in
    let e : with_arrays (state_in xs) c.split_at_mut-file.result.0.now c.split_at_mut-colours.result.0.now
    c.split_at_mut-cursor.result.0.now ≡ state_in xs =
    rw (
      c.split_at_mut-cursor.ensures.front,
      c.split_at_mut-colours.ensures.front,
      c.split_at_mut-colours.ensures.back,
      c.split_at_mut-file.ensures.front,
      c.split_at_mut-file.ensures.back,
    ) (arrays_in xs l) in
    let w = c.write_arrays.ensures (state_in xs) ∙ ap (λ s. bus_write s c.args.transaction.now) e in
    rw (eq-eqb _ 1283 l)
    (record {
      reply = ap (λ a. a.reply) w;
      after =
          rw (
            c.split_at_mut-cursor.ensures.back,
            c.split_at_mut-colours.ensures.back,
            c.split_at_mut-file.ensures.back,
          ) (arrays_anew xs l _ _ _ ∙ ap (λ a. bytes_of a.state) w);
    })
