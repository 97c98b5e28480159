-- Numbers and their bits: a number of n bits is what its bits make, and two numbers with the same bits are
-- equal.
-- Assumes nothing.
use mathlib.Core.Path.{◌≡◌, refl, sym, ◌∙◌}
use mathlib.Core.Logic.{⊎_elim}
use Prim.Native.Nat.{ℕ, zero, suc, ◌+◌, ◌-◌, ◌*◌, ◌/◌, ◌%◌, ◌^◌, ◌<◌, min, max}
use native.Mathlib.Nat.{add-zero, mul_assoc, mod-lt, mod-eq_of_lt, mod-one, mul-add-div_right, div-eq_of_lt}
use native.Mathlib.Nat.{pow-succ', eq-or-lt_of_le, not-suc-le-zero}
use native.Mathlib.Numerals.{one-add}
use native.Mathlib.Omega.{arith}
use lib.Arith.{digits_lt}
use lib.Bits.{bit_and, bit_or, and_shr, or_shr, and_step, or_step, block_odd}
use lib.Pow.{pow_pos, pow-add, high, mod-pow-add, shr-shr, shl-shr}
use Rattle.bits.specs.Bit.{bit, number}

-- every bit of the function b is 0 or 1
abbrev pub Bits : (ℕ → ℕ) → Type 0
Bits b = (j : ℕ) → b j < 2

pub bit_lt : (x : ℕ) → Bits (bit x)
unfolding bit
bit_lt x j = mod-lt (x / 2 ^ j) (omega arith)

-- ---- a number made of bits

pub number_lt : (n : ℕ) (b : ℕ → ℕ) → Bits b → number n b < 2 ^ n
unfolding number
number_lt zero b h = omega arith
number_lt (suc n) b h = rw pow-succ' (digits_lt (h n) (number_lt n b h))

-- bit n of a number with the bit a above r, and bit j below it
bit_top : (a n r : ℕ) → a < 2 → r < 2 ^ n → bit (a * 2 ^ n + r) n ≡ a
unfolding bit
bit_top a n r ha hr = rw (high a n hr) (mod-eq_of_lt ha)

pub bit_under : (a n r j : ℕ) → j < n → bit (a * 2 ^ n + r) j ≡ bit r j
unfolding bit
bit_under a n r j l =
    let e : n ≡ suc (n - suc j) + j = omega arith in
    rw (
      e,
      pow-add 2 (suc (n - suc j)) j,
      ← mul_assoc a (2 ^ suc (n - suc j)) (2 ^ j),
      mul-add-div_right (pow_pos j) (a * 2 ^ suc (n - suc j)) r,
    )
    (block_odd a (n - suc j) (r / 2 ^ j))

pub bit_number : (n : ℕ) (b : ℕ → ℕ) → Bits b → (j : ℕ) → j < n → bit (number n b) j ≡ b j
unfolding number
bit_number zero b h j l = absurd (not-suc-le-zero l)
bit_number (suc n) b h j l =
    ⊎_elim (λ e. rw e (bit_top (b n) n (number n b) (h n) (number_lt n b h)))
    (λ k. bit_under (b n) n (number n b) j k ∙ bit_number n b h j k)
    (eq-or-lt_of_le (omega arith))

-- the bits of x below n make x without what stands above them
pub number_bit : (n x : ℕ) → number n (bit x) ≡ x % 2 ^ n
unfolding number bit
number_bit zero x = sym (mod-one x)
number_bit (suc n) x = rw (number_bit n x, ← one-add n, mod-pow-add x 1 n)

pub number_cong : (n : ℕ) (b d : ℕ → ℕ) → ((j : ℕ) → j < n → b j ≡ d j) → number n b ≡ number n d
unfolding number
number_cong zero b d h = refl
number_cong (suc n) b d h = rw (h n (omega arith), number_cong n b d (λ j l. h j (omega arith)))

pub bit_ext : (n x y : ℕ) → x < 2 ^ n → y < 2 ^ n → ((j : ℕ) → j < n → bit x j ≡ bit y j) → x ≡ y
bit_ext n x y hx hy h =
    sym (number_bit n x ∙ mod-eq_of_lt hx) ∙ number_cong n (bit x) (bit y) h ∙ number_bit n y
    ∙ mod-eq_of_lt hy

-- ---- the bits of `&`, `|` and `!`

low_and : (a b : ℕ) → bit_and a b % 2 ≡ min (a % 2) (b % 2)
low_and a b = let e = and_step a b in omega arith

low_or : (a b : ℕ) → bit_or a b % 2 ≡ max (a % 2) (b % 2)
low_or a b = let e = or_step a b in omega arith

pub bit_and_lem : (a b j : ℕ) → bit (bit_and a b) j ≡ min (bit a j) (bit b j)
unfolding bit
bit_and_lem a b j = rw and_shr (low_and (a / 2 ^ j) (b / 2 ^ j))

pub bit_or_lem : (a b j : ℕ) → bit (bit_or a b) j ≡ max (bit a j) (bit b j)
unfolding bit
bit_or_lem a b j = rw or_shr (low_or (a / 2 ^ j) (b / 2 ^ j))

flip_step : (d p x y : ℕ) → d < 2 → 0 < p → x + y ≡ p - 1 → (1 - d) * p + x + (d * p + y) ≡ 2 * p - 1
flip_step zero p x y h hp e = omega arith
flip_step (suc zero) p x y h hp e = omega arith
flip_step (suc (suc d)) p x y h hp e = absurd (omega arith)

-- a number and the one of the opposite bits make all ones
flipped : (n : ℕ) (b : ℕ → ℕ) → Bits b → number n (λ j. 1 - b j) + number n b ≡ 2 ^ n - 1
unfolding number
flipped zero b h = refl
flipped (suc n) b h =
    rw pow-succ' (flip_step (b n) (2 ^ n) (number n (λ j. 1 - b j)) (number n b) (h n) (pow_pos n)
    (flipped n b h))

pub bit_not : (n m j : ℕ) → m < 2 ^ n → j < n → bit (2 ^ n - 1 - m) j ≡ 1 - bit m j
bit_not n m j hm l =
    let f : ℕ → ℕ = λ i. 1 - bit m i in
    let s = flipped n (bit m) (bit_lt m) in
    let t = number_bit n m ∙ mod-eq_of_lt hm in
    let e : 2 ^ n - 1 - m ≡ number n f = omega arith in
    rw e (bit_number n f (λ i. omega arith) j l)

-- ---- the bits of shifted and shortened numbers

pub bit_shr : (x p i : ℕ) → bit (x / 2 ^ p) i ≡ bit x (p + i)
unfolding bit
bit_shr x p i = rw (shr-shr x p i)

pub bit_mod : (n x j : ℕ) → j < n → bit (x % 2 ^ n) j ≡ bit x j
bit_mod n x j l = rw (← number_bit n x) (bit_number n (bit x) (bit_lt x) j l)

pub bit_high : (x j : ℕ) → x < 2 ^ j → bit x j ≡ 0
unfolding bit
bit_high x j l = rw (div-eq_of_lt l)

-- bits below the shift are 0, and bit p + i is bit i of what was shifted
pub bit_shl_low : (a p j : ℕ) → j < p → bit (a * 2 ^ p) j ≡ 0
bit_shl_low a p j l = rw (← add-zero (a * 2 ^ p)) (bit_under a p 0 j l ∙ bit_high 0 j (pow_pos j))

pub bit_shl : (a p i : ℕ) → bit (a * 2 ^ p) (p + i) ≡ bit a i
bit_shl a p i = sym (bit_shr (a * 2 ^ p) p i) ∙ rw (shl-shr a p)

-- the bits of n ones
pub bit_ones : (n j : ℕ) → j < n → bit (2 ^ n - 1) j ≡ 1
bit_ones n j l =
    let e : 2 ^ n - 1 - 0 ≡ 2 ^ n - 1 = omega arith in
    rw (← e) (bit_not n 0 j (pow_pos n) l ∙ rw (bit_high 0 j (pow_pos j)))
