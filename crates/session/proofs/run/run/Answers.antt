-- `session::run::run` meets its contract: the buffer is too short, the session too long, or it is walked.
-- Assumes nothing.
use mathlib.Core.List.{[]}
use mathlib.Core.Path.{◌≡◌, ap, ap₂, ◌∙◌}
use native.Mathlib.Omega.{arith}
use lib.ListN.{length}
use Rattle.lines.specs.Lines.{line}
use Rattle.lines.proofs.Digits.{line_long}
use Rattle.session.proofs.Running.{no_room, too_long, walked}
use Rattle.session.proofs.run.run.Goals as goal

pub returns-then-out-lt-LONGEST_PRINT : goal.returns-then-out-lt-LONGEST_PRINT
returns-then-out-lt-LONGEST_PRINT c = let a = no_room _ _ _ c.if-out-lt-LONGEST_PRINT.true in (a.told, a.kept)

pub put_line-bytes-requires : goal.put_line-bytes-requires
put_line-bytes-requires c = let l = c.if-out-lt-LONGEST_PRINT.false in
    let e = c.from.ensures in
    (rw line_long (omega arith), omega arith)

pub returns-then-session-gt-LONGEST_SESSION : goal.returns-then-session-gt-LONGEST_SESSION
returns-then-session-gt-LONGEST_SESSION c = let s = c.args.state in
    let e = c.put_line-bytes.ensures in
    let f = c.from.ensures in
    let l = ap (λ r. length (line 0x00 r [])) f in
    let n : c.put_line-bytes.result ≡ length (line 0x00 1 []) = omega (arith, e.1) in
    let room = c.if-out-lt-LONGEST_PRINT.false in
    let a = too_long _ _ _ room c.if-session-gt-LONGEST_SESSION.true in
    (ap (λ b. record { state = s; bytes = b }) n ∙ a.told, e.0 ∙ (rw f a.kept))

pub returns : goal.returns
returns c = let room = c.if-out-lt-LONGEST_PRINT.false in
    let a = walked _ _ _ room c.if-session-gt-LONGEST_SESSION.false in
    let e = c.walk.ensures in
    (ap₂ (λ s n. record { state = s; bytes = n }) e.state e.bytes ∙ a.told, e.out ∙ a.kept)
