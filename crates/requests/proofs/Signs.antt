-- What the library's casts between `u8` and `i8` give, and its two bytes of a `u16`.
-- Assumes nothing.
use Rattle.std.proofs.Common.{[], ◌∷◌, ◌+◌, ◌*◌, ◌/◌, ◌%◌, ◌^◌, ◌≡◌, ℕ, suc, ◌-◌, ◌<◌, Bool, true, false, cond, refl, sym, arith}
use Rattle.std.specs.Prelude.{ltb, ℤ, pos, negsuc, ◌-ℤ◌}
use Rattle.std.specs.Int.{from_le_bytes, to_le_bytes}
use mir.Syntax.{w8, w16}
use mir.Val.{SFits, of_z, to_z}
use Rattle.scaler.proofs.Integers.{sub_neg}
use Rattle.requests.specs.Requests.{signed, unsigned, half_bytes}

by_test : (b : ℕ) (t : Bool) → ltb b 128 ≡ t → b < 256
    → cond t (pos b) (negsuc (256 - suc b)) ≡ cond t (pos b) (pos b -ℤ pos 256)
by_test b true e h = refl
by_test b false e h = sym (sub_neg b 256 h)

pub signed_is : (b : ℕ) → b < 256 → to_z w8 b ≡ signed b
unfolding signed
signed_is b h = by_test b (ltb b 128) refl h

pub unsigned_is : (z : ℤ) → SFits w8 z → of_z w8 z ≡ unsigned z
unfolding unsigned
unsigned_is (pos n) f = refl
unsigned_is (negsuc n) f = let g : n < 128 = f.sfits in omega arith

-- ---- numbers of 16 bits

pub word_is : (low high : ℕ) → from_le_bytes w16 (low ∷ high ∷ []) ≡ low + 256 * high
word_is low high = omega arith

pub halves_are : (v : ℕ) → v < 2 ^ 16 → to_le_bytes w16 v ≡ half_bytes v
unfolding half_bytes
halves_are v h = let e : v / 256 % 256 ≡ v / 256 = omega arith in cc
