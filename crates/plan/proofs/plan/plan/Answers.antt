-- `plan::plan::plan` meets its contract: a refusal leaves the buffer; else the list is stored.
-- Assumes nothing.
use mathlib.Core.Path.{◌≡◌}
use Prim.Native.Nat.{◌≤◌}
use native.Mathlib.Omega.{arith}
use lib.ListN.{length}
use Rattle.std.specs.Prelude.{None, Some}
use Rattle.std.proofs.lemmas.Result.{err_from_is_err_and}
use Rattle.bursts.specs.Burst.{bus_bytes}
use Rattle.reply.specs.Reply.{wrong_length, not_writable, too_long}
use Rattle.reply.specs.declared.Refusal.TheVariants.{WrongLength, NotWritable}
use Rattle.plan.specs.Plan.{list_for}
use Rattle.plan.proofs.Lists.{no_files, lent_files, no_runs, some_runs, encoded_long, stored_are}
use Rattle.plan.proofs.Meaning.{means_refused, means_done}
use Rattle.plan.proofs.Replies.{reply_wrong, reply_stuck, reply_long, reply_done}
use Rattle.plan.proofs.plan.plan.Goals as goal

pub returns-in_err-files : goal.returns-in_err-files
returns-in_err-files c = let p = err_from_is_err_and c.from_residual.result c.from_residual.ensures.1 in
    let e : c.new.result ≡ None = grind arith in
    let why : p.0 ≡ WrongLength = grind arith in
    rw (p.1, why) (means_refused _ _ (λ i. omega (arith, c.type_inv.from i)) (λ i. omega (arith, c.type_inv.to i)) _ wrong_length
    (reply_wrong _ _ _ (no_files _ _ _ c.new.ensures.files e)) (λ z. omega arith))

pub returns-in_err-bytes : goal.returns-in_err-bytes
returns-in_err-bytes c =
    let r = c.from_residual-in_err-bytes in
    let p = err_from_is_err_and r.result r.ensures.1 in
    let why : p.0 ≡ NotWritable = grind arith in
    let lent : c.new.result ≡ Some c.in_ok-files.files = grind arith in
    let none : c.find_runs.result ≡ None = grind arith in
    rw (p.1, why) (means_refused _ _ (λ i. omega (arith, c.type_inv.from i)) (λ i. omega (arith, c.type_inv.to i)) _ not_writable
    (reply_stuck _ _ _ (lent_files _ _ _ c.new.ensures.files _ lent c.new.ensures.lent _ _ c.find_runs.ensures)
    (no_runs _ _ _ c.new.ensures.files _ lent c.new.ensures.lent _ _ c.find_runs.ensures none)) (λ z. omega arith))

pub returns-then-out-bytes : goal.returns-then-out-bytes
returns-then-out-bytes c =
    let lent : c.new.result ≡ Some c.in_ok-files.files = grind arith in
    let some : c.find_runs.result ≡ Some c.in_ok-bytes.bytes = grind arith in
    let k = some_runs _ _ _ c.new.ensures.files _ lent c.new.ensures.lent _ _ c.find_runs.ensures _ some in
    means_refused _ _ (λ i. omega (arith, c.type_inv.from i)) (λ i. omega (arith, c.type_inv.to i)) _ too_long
    (reply_long _ _ _ (lent_files _ _ _ c.new.ensures.files _ lent c.new.ensures.lent _ _ c.find_runs.ensures) k.clear
    (omega (arith, k.bytes_are))) (λ z. omega arith)

pub write_list-requires : goal.write_list-requires
write_list-requires c =
    let lent : c.new.result ≡ Some c.in_ok-files.files = grind arith in
    let some : c.find_runs.result ≡ Some c.in_ok-bytes.bytes = grind arith in
    let k = some_runs _ _ _ c.new.ensures.files _ lent c.new.ensures.lent _ _ c.find_runs.ensures _ some in
    let same = rw lent at c.new.ensures.lent in
    rw (same.1, c.deref.ensures.0)
    (k.fit, rw (k.spells, encoded_long _) (omega (arith, k.bytes_are)))

pub returns : goal.returns
returns c =
    let a = c.args in
    let lent : c.new.result ≡ Some c.in_ok-files.files = grind arith in
    let some : c.find_runs.result ≡ Some c.in_ok-bytes.bytes = grind arith in
    let k = some_runs _ _ _ c.new.ensures.files _ lent c.new.ensures.lent _ _ c.find_runs.ensures _ some in
    let same = rw lent at c.new.ensures.lent in
    let l : bus_bytes (list_for a.from.now a.to.now) ≤ length a.out.now = omega (arith, k.bytes_are) in
    rw (
      c.write_list.ensures,
      same.1,
      c.deref.ensures.0,
      k.spells,
      stored_are (list_for a.from.now a.to.now) a.out.now l,
      k.bytes_are,
      c.len.ensures.value,
      k.bursts_are,
    )
    (means_done _ _ (λ i. omega (arith, c.type_inv.from i)) (λ i. omega (arith, c.type_inv.to i)) _
    (reply_done _ _ _ (lent_files _ _ _ c.new.ensures.files _ lent c.new.ensures.lent _ _ c.find_runs.ensures) k.clear l))
