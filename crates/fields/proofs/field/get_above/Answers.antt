-- `fields::field::get_above` meets its contract: the low byte and the bits above it, joined.
-- Assumes nothing.
use Rattle.fields.proofs.Joining.{fits, joined}
use Rattle.fields.proofs.field.get_above.Goals as goal

pub overflow_add-result : goal.overflow_add-result
overflow_add-result g c =
    rw (c.get-above.ensures, c.get-below.ensures) (record { fits = fits _ _ _ c.requires.narrow })

pub returns : goal.returns
returns g c = rw (c.get-above.ensures, c.get-below.ensures) (joined _ _ _ c.requires.narrow)
