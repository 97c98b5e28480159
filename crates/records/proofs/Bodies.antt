-- The kinds in code.
-- Assumes nothing.
use Rattle.std.proofs.Common.{◌<◌, arith}
use Rattle.records.specs.Records.{body_length}
use Rattle.records.specs.Kinds.{number_of}
use Rattle.records.specs.declared.kind.Kind.{Kind}
use Rattle.records.specs.declared.kind.Kind.TheVariants.{Picture, Register, Colour, Cursor, Show}

-- each has a body
pub kind_known : (kind : Kind) → 0 < body_length (number_of kind)
unfolding body_length
kind_known Picture = omega arith
kind_known Register = omega arith
kind_known Colour = omega arith
kind_known Cursor = omega arith
kind_known Show = omega arith
