-- Requests and their 18 bytes correspond.
-- Assumes nothing.
use mathlib.Core.Path.{◌≡◌, refl, sym, ap, ◌∙◌}
use mathlib.Core.Bool.{Bool, true, false, cond}
use mathlib.Core.List.{List, [], ◌∷◌, ◌++◌}
use Prim.Native.Nat.{ℕ, suc, ◌+◌, ◌-◌, ◌*◌, ◌/◌, ◌%◌, ◌<◌, ◌≤◌}
use native.Mathlib.Nat.{mod-add-div}
use native.Mathlib.Omega.{arith}
use borrow.Author.Tests.{ltb-false, lt-ltb, le-ltb}
use lib.Dec.{ltb}
use lib.IntN.{ℤ, pos, negsuc, ◌-ℤ◌}
use lib.ListN.{length, get_or, drop, drop_of_length-le}
use lib.Seq.{drop-cons}
use lib.Signed.{mag}
use Rattle.scaler.proofs.Integers.{sub_neg}
use Rattle.scaler.specs.declared.request.Request.{Request}
use Rattle.requests.specs.Requests.{word_at, signed, request_of, half_bytes, unsigned, request_bytes}
use Rattle.requests.specs.Requests.{RequestsCross}

-- ---- offsets

signed_by : (b : ℕ) (t : Bool) → ltb b 128 ≡ t → b < 256 → unsigned (cond t (pos b) (pos b -ℤ pos 256)) ≡ b
unfolding unsigned
signed_by b true e h = refl
signed_by b false e h = rw (sub_neg b 256 h) (omega (arith, ltb-false b 128 e))

signed_there : (b : ℕ) → b < 256 → unsigned (signed b) ≡ b
unfolding signed
signed_there b h = signed_by b (ltb b 128) refl h

signed_back : (z : ℤ) → mag z < 128 → signed (unsigned z) ≡ z
unfolding signed unsigned
signed_back (pos n) h = rw (lt-ltb n 128 h)
signed_back (negsuc n) h =
    let e : 256 - suc (255 - n) ≡ n = omega arith in
    rw (le-ltb (255 - n) 128 (omega arith), sub_neg (255 - n) 256 (omega arith), e)

-- ---- bytes that are read and put again

module _ (bytes : List ℕ) (l : length bytes ≡ 18) (b : (i : ℕ) → get_or bytes i 0 < 256) where
  half_there : (i : ℕ) → i + 2 ≤ 18 → half_bytes (word_at bytes i) ++ drop (i + 2) bytes ≡ drop i bytes
  unfolding half_bytes word_at
  half_there i h =
      let x = get_or bytes i 0 in
      let y = get_or bytes (i + 1) 0 in
      let xb : x < 256 = b i in
      let low : (x + 256 * y) % 256 ≡ x = omega arith in
      let high : (x + 256 * y) / 256 ≡ y = omega arith in
      let one : i + 1 ≡ suc i = omega arith in
      let two : i + 2 ≡ suc (suc i) = omega arith in
      rw (low, high, two, one)
      (sym (drop-cons bytes i 0 (omega (arith, l))
      ∙ ap (λ (t : List ℕ). x ∷ t) (drop-cons bytes (suc i) 0 (omega (arith, l)))))

  last_there : unsigned (signed (get_or bytes 17 0)) ∷ [] ≡ drop 17 bytes
  last_there =
      rw (signed_there (get_or bytes 17 0) (b 17))
      (sym (drop-cons bytes 17 0 (omega (arith, l))
      ∙ ap (λ (t : List ℕ). get_or bytes 17 0 ∷ t) (drop_of_length-le bytes {i = 18} (omega (arith, l)))))

  request_there : request_bytes (request_of bytes) ≡ bytes
  unfolding request_of request_bytes
  request_there =
      rw (
        last_there,
        half_there 15 (omega arith),
        half_there 13 (omega arith),
        half_there 11 (omega arith),
        half_there 9 (omega arith),
        half_there 7 (omega arith),
        half_there 5 (omega arith),
        half_there 3 (omega arith),
        half_there 1 (omega arith),
      )
      (sym (drop-cons bytes 0 0 (omega (arith, l))))

-- ---- a request that is put and read again

word_back : (v : ℕ) → v % 256 + 256 * (v / 256) ≡ v
word_back v = mod-add-div v 256

request_back : (q : Request) → mag q.offset < 128 → request_of (request_bytes q) ≡ q
unfolding request_of request_bytes word_at half_bytes
request_back q h =
    rw (
      signed_back q.offset h,
      word_back q.inpix,
      word_back q.inlin,
      word_back q.inppl,
      word_back q.outpix,
      word_back q.outlin,
      word_back q.yskip,
      word_back q.xofs.0,
      word_back q.yofso,
    )

pub requests_cross : RequestsCross
requests_cross = record { there = request_there; back = request_back }
