-- `readback::numbers::Numbers::in_file` meets its contract: what a field holds fits it.
-- Assumes nothing.
use Rattle.fields.proofs.Fitting.{all_fit}
use Rattle.chip.specs.Fields.{picture_fields}
use Rattle.readback.proofs.numbers.Numbers.in_file.Goals as goal

pub invariant_of-result : goal.invariant_of-result
invariant_of-result c = record { fit = rw c.get_values.ensures (all_fit c.args.file.now picture_fields) }
