-- What the reply 0 to a transaction says of it, and that its run lies in what it is written to.
-- Assumes nothing.
use mathlib.Core.Path.{◌≡◌, sym, ◌∙◌}
use mathlib.Core.Bool.{false, not, ◌||◌}
use mathlib.Core.List.{List}
use mathlib.Core.Logic.{inl}
use Prim.Native.Nat.{ℕ, ◌+◌, ◌-◌, ◌*◌, ◌/◌, ◌%◌, ◌<◌, ◌≤◌}
use native.Mathlib.Nat.{div-add-mod, mul-le-mul_left}
use native.Mathlib.Omega.{arith}
use borrow.Author.Tests.{ltb-false, eqb-true, not-false, eq-eqb, ne_eqb}
use lib.Dec.{eqb, ltb}
use lib.ListN.{length, get_or, take, drop, length-drop}
use Rattle.bits.proofs.Tests.{or_left, or_right, or_in, is_false}
use Rattle.reply.specs.Reply.{applies}
use Rattle.transactions.specs.Writes.{registers_pass, cells_pass, passes, write_tests, write_reply}
use Rattle.transactions.specs.Reads.{read_tests, read_reply}
use Rattle.transactions.proofs.Meaning.{replies_mean}
use Rattle.transactions.proofs.Starts.{some_start, tail_part}

-- ---- writes

pub record Accepted (t : List ℕ) : Type 0 where
  pub long : 2 ≤ length t
  pub fits : passes (get_or t 1 0) (drop 2 t) ≡ false

pub accepted : (t : List ℕ) → write_reply t ≡ 0 → Accepted t
unfolding write_reply write_tests applies
accepted t e =
    let none = (replies_mean.write t).none e in
    let short = ltb (length t) 2 in
    let over = passes (get_or t 1 0) (drop 2 t) in
    record {
      long = ltb-false (length t) 2 (is_false short (λ u. none 1 (or_in short false (inl u))));
      fits = is_false over (λ u. none 3 (or_in over false (inl u)));
    }

module _ (subaddress : ℕ) (bytes : List ℕ) (e : passes subaddress bytes ≡ false) where
  pub cursor_fits : subaddress ≡ 0xFE → cells_pass 1 bytes ≡ false
  unfolding passes
  cursor_fits h = rw (eq-eqb subaddress 0xFE h) at e

  pub colours_fit : (subaddress ≡ 0xFE → ⊥) → subaddress ≡ 0xFF → cells_pass 3 bytes ≡ false
  unfolding passes
  colours_fit n h = rw (ne_eqb subaddress 0xFE n, eq-eqb subaddress 0xFF h) at e

  pub registers_fit : (subaddress ≡ 0xFE → ⊥) → (subaddress ≡ 0xFF → ⊥) → registers_pass subaddress bytes
      ≡ false
  unfolding passes
  registers_fit n h = rw (ne_eqb subaddress 0xFE n, ne_eqb subaddress 0xFF h) at e

-- the same of a whole transaction, whose data is the part from its third byte on
module _ (t : List ℕ) (e : write_reply t ≡ 0) where
  pub cursor_accepted : get_or t 1 0 ≡ 0xFE → cells_pass 1 (take (length t - 2) (drop 2 t)) ≡ false
  cursor_accepted h = rw tail_part (cursor_fits (get_or t 1 0) (drop 2 t) (accepted t e).fits h)

  pub colours_accepted : get_or t 1 0 ≡ 0xFF → cells_pass 3 (take (length t - 2) (drop 2 t)) ≡ false
  colours_accepted h =
      rw tail_part (colours_fit (get_or t 1 0) (drop 2 t) (accepted t e).fits (λ k. omega arith) h)

  pub registers_accepted : (get_or t 1 0 ≡ 0xFE → ⊥) → (get_or t 1 0 ≡ 0xFF → ⊥)
      → registers_pass (get_or t 1 0) (take (length t - 2) (drop 2 t)) ≡ false
  registers_accepted n m = rw tail_part (registers_fit (get_or t 1 0) (drop 2 t) (accepted t e).fits n m)

-- ---- runs that do not pass their end

pub registers_end_lem : (subaddress : ℕ) (bytes : List ℕ) → registers_pass subaddress bytes ≡ false
    → subaddress + length bytes ≤ 254
unfolding registers_pass
registers_end_lem subaddress bytes e = ltb-false 254 (subaddress + length bytes) e

-- whole cells that do not pass the end lie in a map of 256 cells
pub cells_fit : (width : ℕ) (map bytes : List ℕ) → 0 < width → length map ≡ 256 * width
    → cells_pass width bytes ≡ false
    → 0 < length bytes → width * get_or bytes 0 0 + (length bytes - 1) ≤ length map
unfolding cells_pass
cells_fit width map bytes w l e h =
    let n = length (drop 1 bytes) in
    let f : (not (eqb (n % width) 0) || ltb 256 (get_or bytes 0 0 + n / width)) ≡ false =
    sym (some_start _ _ bytes h) ∙ e in
    let a = eqb-true (n % width) 0 (not-false (eqb (n % width) 0) (or_left (not (eqb (n % width) 0)) _ f)) in
    let b = ltb-false 256 (get_or bytes 0 0 + n / width) (or_right (not (eqb (n % width) 0)) _ f) in
    let d = length-drop 1 bytes in
    let q = div-add-mod n width in
    let m = mul-le-mul_left width b in
    omega arith

-- ---- reads

pub read_long : (t : List ℕ) → read_reply t ≡ 0 → length t ≡ 3
unfolding read_reply read_tests applies
read_long t e =
    let other = not (eqb (length t) 3) in
    eqb-true (length t) 3 (not-false (eqb (length t) 3)
    (is_false other (λ u. (replies_mean.read t).none e 1 (or_in other false (inl u)))))
