-- `readback::numbers::Numbers::request` meets its contract: the width of each field bounds its number, and an
-- offset that does not fit eight bits is none from -8 to 8.
-- Assumes nothing.
use mathlib.Core.List.{List}
use mathlib.Core.Path.{◌≡◌, refl, ◌∙◌}
use Prim.Native.Nat.{ℕ}
use native.Mathlib.Omega.{arith}
use lib.Dec.{T}
use lib.IntN.{ℤ, pos, ◌-ℤ◌}
use mir.Facts.{to_z-of_z}
use mir.Syntax.{w8, w64}
use mir.Val.{SFits, of_z, to_z}
use Rattle.std.proofs.Common.{Result, Ok, Err, Some}
use Rattle.std.specs.Result.{OkIff, result_ok}
use Rattle.std.proofs.lemmas.Result.{Ok-from_Ok_iff, OkIff-at_ok}
use Rattle.fields.specs.Fields.{fit_all}
use Rattle.chip.specs.Fields.{picture_fields}
use Rattle.scaler.specs.Limits.{request_reply}
use Rattle.scaler.specs.Numbers.{centred_line}
use Rattle.scaler.proofs.Kept.{passed, output_facts, offset_holds_lem}
use Rattle.scaler.proofs.Windows.{offset_small}
use Rattle.readback.specs.Reading.{fal_in, standard_in, outlin_in, request_in}
use Rattle.readback.proofs.Offsets.{offset_of}
use Rattle.readback.proofs.Widths.{widths}
use Rattle.readback.proofs.numbers.Numbers.request.Goals as goal

-- the offset that is given, where one is
ok_is : {E : Type 0} (r : Result ℤ E) (P : Type 0) (v x : ℤ) → OkIff r P v → Some x ≡ result_ok r → P × (x ≡ v)
ok_is {E = E} (Ok y) P v x h e =
    let i : P × (y ≡ v) = OkIff-at_ok {T = ℤ} {E = E} (Ok y) P v y h refl in
    let k : x ≡ y = cc in (i.0, k ∙ i.1)
ok_is (Err d) P v x h e = absurd (cc)

-- the offset that the numbers of a file tell reads back from 64 bits as itself
module _ (vs : List ℕ) (t : T (fit_all picture_fields vs)) (o : ℤ)
    (e : o ≡ pos (fal_in vs) -ℤ centred_line (standard_in vs) (outlin_in vs)) where
  reads_back : to_z w64 (of_z w64 o) ≡ o
  reads_back =
      let small = (offset_of vs t).small in
      to_z-of_z {w = w64} (rw e (record { sfits = omega arith }))

  accepted : request_reply (request_in vs) ≡ 0 → SFits w8 (to_z w64 (of_z w64 o))
  unfolding request_in
  accepted z =
      let q = request_in vs in
      rw (reads_back, e)
      (record { sfits = offset_small q.offset (offset_holds_lem q (output_facts q (passed q z).output)) })

pub returns-in_err-offset : goal.returns-in_err-offset
returns-in_err-offset c =
    let n = c.args.self.now in
    rw c.from_residual.ensures
    (λ z. let e = Ok-from_Ok_iff c.try_from.result _ _ c.try_from.ensures
    (accepted n.values n.fit c.offset.result c.offset.ensures z) in
    let i = rw e at c.in_err-offset.ensures.value in cc)

pub overflow_cast-result : goal.overflow_cast-result
overflow_cast-result c = let w = widths c.args.self.now.values c.args.self.now.fit in omega arith

pub overflow_mul-result : goal.overflow_mul-result
overflow_mul-result c = let w = widths c.args.self.now.values c.args.self.now.fit in omega arith

pub overflow_cast-result-2 : goal.overflow_cast-result-2
overflow_cast-result-2 c = let w = widths c.args.self.now.values c.args.self.now.fit in omega arith

pub overflow_cast-result-3 : goal.overflow_cast-result-3
overflow_cast-result-3 c = let w = widths c.args.self.now.values c.args.self.now.fit in omega arith

pub overflow_add-result : goal.overflow_add-result
overflow_add-result c = let w = widths c.args.self.now.values c.args.self.now.fit in omega arith

pub overflow_cast-result-5 : goal.overflow_cast-result-5
overflow_cast-result-5 c = let w = widths c.args.self.now.values c.args.self.now.fit in omega arith

pub overflow_cast-result-6 : goal.overflow_cast-result-6
overflow_cast-result-6 c = let w = widths c.args.self.now.values c.args.self.now.fit in omega arith

pub overflow_cast-result-7 : goal.overflow_cast-result-7
overflow_cast-result-7 c = let w = widths c.args.self.now.values c.args.self.now.fit in omega arith

pub returns : goal.returns
unfolding request_in
returns c =
    let n = c.args.self.now in
    let i = ok_is c.try_from.result _ _ c.in_ok-offset.offset c.try_from.ensures c.in_ok-offset.ensures.value in
    let b = reads_back n.values n.fit c.offset.result c.offset.ensures in
    let f : SFits w8 c.offset.result = rw b at i.0 in
    let o : c.in_ok-offset.offset ≡ c.offset.result = i.1 ∙ b in
    rw (
      c.outlin.ensures,
      c.saturating_sub.ensures,
      c.middle_clock-middle.ensures,
      c.standard-standard.ensures,
      o,
      to_z-of_z f,
      c.offset.ensures,
    )
