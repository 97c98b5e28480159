-- `lines::put_line` meets its contract: five bytes of a line, or eight, over those at the front of the buffer.
-- Assumes nothing.
use Rattle.std.proofs.Common.{◌≡◌, ◌∙◌, arith, rules}
use Rattle.lines.specs.Lines.{line, hex, added_byte, added}
use Rattle.lines.proofs.Digits.{decimal, plain_long, shown_long, shown_room, written}
use Rattle.lines.proofs.put_line.Goals as goal

pub slice_bounds-copy_from_slice-end-in-Some : goal.slice_bounds-copy_from_slice-end-in-Some
slice_bounds-copy_from_slice-end-in-Some c = shown_room _ _ _ _ c.in-Some.is _ c.requires.0

pub slice_bounds-copy_from_slice-end-in-Some-2 : goal.slice_bounds-copy_from_slice-end-in-Some-2
slice_bounds-copy_from_slice-end-in-Some-2 c = let r = shown_room _ _ _ _ c.in-Some.is _ c.requires.0 in search (rules, r)

pub copy_from_slice-requires-in-Some : goal.copy_from_slice-requires-in-Some
copy_from_slice-requires-in-Some c = let r = shown_room _ _ _ _ c.in-Some.is _ c.requires.0 in search (rules, r)

pub returns-in-None : goal.returns-in-None
unfolding line hex
returns-in-None c = let a = c.args in
    let d = decimal a.reply c.requires.1 in
    let n = plain_long a.kind a.reply a.shown c.in-None.is in
    let e : c.copy_from_slice.new.self ≡ line a.kind a.reply (added a.shown) = c.copy_from_slice.ensures.after
    ∙ rw (c.in-None.is, c.character-high.ensures, c.character-low.ensures, d) in
    (rw e (written a.out.now (line a.kind a.reply (added a.shown)) 5 (omega arith) (omega arith)), omega arith)

pub returns-in-Some : goal.returns-in-Some
unfolding line hex added_byte
returns-in-Some c = let a = c.args in
    let d = decimal a.reply c.requires.1 in
    let n = shown_long a.kind a.reply a.shown _ c.in-Some.is in
    let e : c.copy_from_slice-in-Some.new.self ≡ line a.kind a.reply (added a.shown) = c.copy_from_slice-in-Some.ensures.after
    ∙ rw (c.in-Some.is, c.character-high.ensures, c.character-low.ensures, c.character-first.ensures, c.character-second.ensures, d) in
    (rw e (written a.out.now (line a.kind a.reply (added a.shown)) 8 (omega arith) (omega arith)), omega arith)
