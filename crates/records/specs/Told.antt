-- A step in code, in the numbers of `Records.antt`.
-- Assumes nothing.
use Rattle.records.specs.Kinds.{number_of}
use Rattle.records.specs.Records as records
use Rattle.records.specs.declared.step.Step.{Step}
use Rattle.records.specs.declared.step.Step.TheVariants.{Record, Broken, End}

-- its kind as its byte, and the places of its body and of the next record
abbrev pub told_step : Step → records.Step
told_step (Record kind body next) = records.Record (number_of kind) body next
told_step (Broken kind) = records.Broken kind
told_step End = records.End
