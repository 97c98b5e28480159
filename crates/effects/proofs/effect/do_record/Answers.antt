-- `effects::effect::do_record` meets its contract: each arm does what the record of its kind does.
-- Assumes nothing.
use Rattle.std.proofs.Common.{ap, ◌∙◌, arith}
use Rattle.records.specs.Records.{body_length}
use Rattle.records.specs.Kinds.{number_of}
use Rattle.effects.proofs.Effects.{picture_does, register_none, register_does, colour_does, cursor_does, show_does}
use Rattle.effects.proofs.effect.do_record.Goals as goal

pub returns-in-Picture : goal.returns-in-Picture
returns-in-Picture c = let w = c.write_picture.ensures in
    rw (w.0, w.1, c.request_of.ensures, ap number_of c.in-Picture.is) (picture_does _ _ _ _)

pub returns-then-place-lt-REGISTERS_END : goal.returns-then-place-lt-REGISTERS_END
unfolding body_length
returns-then-place-lt-REGISTERS_END c = let k = ap number_of c.in-Register.is in
    let n = c.args.whole.long ∙ ap body_length k in
    let l = c.if-place-lt-REGISTERS_END.true in
    let e = c.from-place.ensures in
    rw (c.merge_byte.ensures, c.mask_table.ensures, e, k) (register_does _ _ _ _ n (omega arith))

pub returns-else-place-lt-REGISTERS_END : goal.returns-else-place-lt-REGISTERS_END
returns-else-place-lt-REGISTERS_END c = let l = c.if-place-lt-REGISTERS_END.false in
    let e = c.from-place.ensures in
    rw (ap number_of c.in-Register.is) (register_none _ _ _ _ (omega arith))

pub returns-in-Colour : goal.returns-in-Colour
returns-in-Colour c = let w = c.write_cell.ensures in
    rw (w.cell, ap number_of c.in-Colour.is) (colour_does _ _ _ _ w.fits)

pub returns-in-Cursor : goal.returns-in-Cursor
returns-in-Cursor c = let w = c.write_cell-in-Cursor.ensures in
    rw (w.cell, ap number_of c.in-Cursor.is) (cursor_does _ _ _ _ w.fits)

pub returns-in-Show : goal.returns-in-Show
returns-in-Show c = rw (ap number_of c.in-Show.is) (show_does _ _ _ _)
