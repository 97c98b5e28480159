-- `words::put_words` meets its contract: the next number's bytes stand behind those before it.
-- Assumes nothing.
use Rattle.std.proofs.Common.{take, ◌≡◌, ◌+◌, ◌*◌, length, arith, refl, sym, ap, ◌∙◌}
use Rattle.std.proofs.Math.Seq.{take-length}
use Rattle.std.proofs.lemmas.Slice.{take-put_mid}
use Rattle.words.specs.Words.{word_bytes, words_of}
use Rattle.words.proofs.Turns.{next_word}
use Rattle.words.proofs.put_words.Goals as goal

pub loop-i-init : goal.loop-i-init
unfolding words_of
loop-i-init c = refl

pub loop-i-preserved : goal.loop-i-preserved
unfolding word_bytes
loop-i-preserved c = let i = c.loop-i.i in
    let vs = c.args.values.now in
    let ys = c.copy_from_slice.new.self in
    let e = c.copy_from_slice.ensures.after ∙ c.to_le_bytes.ensures in
    let n = ap length e in
    take-put_mid (4 * i) _ c.loop-i.bytes ys (4 * (i + 1)) (omega arith) (omega arith)
    ∙ rw (c.loop-i.invariant, e) (sym (next_word vs i c.loop-i-test.true))

pub returns : goal.returns
returns c = let bytes = c.loop-i.bytes in
    let vs = c.args.values.now in
    let i : c.loop-i.i ≡ length vs = omega arith in
    let n : 4 * c.loop-i.i ≡ length bytes = omega arith in
    let whole : take (4 * c.loop-i.i) bytes ≡ bytes = rw n (take-length bytes) in
    let all : take c.loop-i.i vs ≡ vs = rw i (take-length vs) in
    sym whole ∙ (c.loop-i.invariant ∙ ap words_of all)
