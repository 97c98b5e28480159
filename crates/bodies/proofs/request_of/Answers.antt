-- `bodies::request_of` meets its contract: each number stands where the paper has it.
-- Assumes nothing.
use Rattle.std.proofs.Common.{rules, ◌≡◌, ◌∙◌, get_or}
use mir.Syntax.{w8}
use mir.Val.{SFits, of_z, to_z}
use mir.Facts.{to_z-of_z}
use Rattle.requests.specs.Requests.{word_at, signed, request_of}
use Rattle.requests.proofs.Signs.{word_is, signed_is}
use Rattle.bodies.proofs.request_of.Goals as goal

pub returns : goal.returns
unfolding word_at request_of
returns c = let body = c.args.body.now in
    let fits : SFits w8 c.cast_signed.result = search rules in
    let offset : to_z w8 (of_z w8 c.cast_signed.result) ≡ signed (get_or body 17 0) = to_z-of_z fits ∙ (c.cast_signed.ensures ∙ signed_is _ (search rules)) in
    let at_1 : c.from_le_bytes.result ≡ word_at body 1 = c.from_le_bytes.ensures ∙ word_is _ _ in
    let at_3 : c.from_le_bytes-2.result ≡ word_at body 3 = c.from_le_bytes-2.ensures ∙ word_is _ _ in
    let at_5 : c.from_le_bytes-3.result ≡ word_at body 5 = c.from_le_bytes-3.ensures ∙ word_is _ _ in
    let at_7 : c.from_le_bytes-4.result ≡ word_at body 7 = c.from_le_bytes-4.ensures ∙ word_is _ _ in
    let at_9 : c.from_le_bytes-5.result ≡ word_at body 9 = c.from_le_bytes-5.ensures ∙ word_is _ _ in
    let at_11 : c.from_le_bytes-6.result ≡ word_at body 11 = c.from_le_bytes-6.ensures ∙ word_is _ _ in
    let at_13 : c.from_le_bytes-7.result ≡ word_at body 13 = c.from_le_bytes-7.ensures ∙ word_is _ _ in
    let at_15 : c.from_le_bytes-8.result ≡ word_at body 15 = c.from_le_bytes-8.ensures ∙ word_is _ _ in
    rw (at_1, at_3, at_5, at_7, at_9, at_11, at_13, at_15, offset)
