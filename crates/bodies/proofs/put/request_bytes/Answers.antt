-- `bodies::put::request_bytes` meets its contract: each number's two bytes, in the paper's order.
-- Assumes nothing.
use Rattle.std.proofs.Common.{rules, ◌≡◌, ◌∙◌, ap}
use mir.Syntax.{w8}
use mir.Val.{SFits, of_z}
use mir.Facts.{to_z-of_z}
use Rattle.requests.specs.Requests.{half_bytes, unsigned, request_bytes}
use Rattle.requests.proofs.Signs.{halves_are, unsigned_is}
use Rattle.bodies.proofs.put.request_bytes.Goals as goal

pub returns : goal.returns
unfolding request_bytes half_bytes
returns c = let q = c.args.q in
    let inpix : c.to_le_bytes-inpix.result ≡ half_bytes q.inpix = c.to_le_bytes-inpix.ensures ∙ halves_are q.inpix (search rules) in
    let inlin : c.to_le_bytes-inlin.result ≡ half_bytes q.inlin = c.to_le_bytes-inlin.ensures ∙ halves_are q.inlin (search rules) in
    let inppl : c.to_le_bytes-inppl.result ≡ half_bytes q.inppl = c.to_le_bytes-inppl.ensures ∙ halves_are q.inppl (search rules) in
    let outpix : c.to_le_bytes-outpix.result ≡ half_bytes q.outpix = c.to_le_bytes-outpix.ensures ∙ halves_are q.outpix (search rules) in
    let outlin : c.to_le_bytes-outlin.result ≡ half_bytes q.outlin = c.to_le_bytes-outlin.ensures ∙ halves_are q.outlin (search rules) in
    let yskip : c.to_le_bytes-yskip.result ≡ half_bytes q.yskip = c.to_le_bytes-yskip.ensures ∙ halves_are q.yskip (search rules) in
    let xofs : c.to_le_bytes-xofs.result ≡ half_bytes q.xofs.0 = c.to_le_bytes-xofs.ensures ∙ halves_are q.xofs.0 (search rules) in
    let yofso : c.to_le_bytes-yofso.result ≡ half_bytes q.yofso = c.to_le_bytes-yofso.ensures ∙ halves_are q.yofso (search rules) in
    let fits : SFits w8 q.offset = search rules in
    let offset : c.cast_unsigned.result ≡ unsigned q.offset = c.cast_unsigned.ensures ∙ (ap (of_z w8) (to_z-of_z fits) ∙ unsigned_is q.offset fits) in
    rw (inpix, inlin, inppl, outpix, outlin, yskip, xofs, yofso, offset)
