-- Quotients: rounding up and to nearest, and quotients from one whole division.
-- Assumes nothing.
use mathlib.Core.Path.{◌≡◌, sym}
use Prim.Native.Nat.{ℕ, ◌+◌, ◌-◌, ◌*◌, ◌/◌, ◌%◌, ◌<◌, ◌≤◌}
use native.Mathlib.Nat.{add-mul-div_right, mul-add-div_right, lt-div-mul-add, div-mul-le_self, mul_comm}
use native.Mathlib.Nat.{div-add-mod', mod-lt, div-eq_of_lt-le, div-div-eq-div-mul, le-div_iff_mul-le}
use native.Mathlib.Nat.{mul-le-mul_right, div-lt_iff_lt-mul}
use native.Mathlib.Omega.{arith}
use Rattle.scaler.specs.Rounding.{round_up, nearest, RoundingLaw}

-- ---- one division of n by d gives the others

module _ (n d : ℕ) (h : 0 < d) where
  -- to nearest: the quotient, and one more where what is left is half of d or more
  pub nearest_up : d ≤ 2 * (n % d) → nearest n d ≡ n / d + 1
  unfolding nearest
  nearest_up e =
      let w = div-add-mod' n d in
      let l = mod-lt n h in
      div-eq_of_lt-le (2 * d) (omega arith) (omega arith)

  pub nearest_down : 2 * (n % d) < d → nearest n d ≡ n / d
  unfolding nearest
  nearest_down e =
      let w = div-add-mod' n d in
      div-eq_of_lt-le (2 * d) (omega arith) (omega arith)

  pub half : n / (2 * d) ≡ n / d / 2
  half = rw (mul_comm 2 d) (sym (div-div-eq-div-mul n d 2))

  pub thrice : 3 * n / d ≡ 3 * (n / d) + 3 * (n % d) / d
  thrice =
      let w = div-add-mod' n d in
      let e : 3 * n ≡ 3 * (n / d) * d + 3 * (n % d) = omega arith in
      rw e (mul-add-div_right h (3 * (n / d)) (3 * (n % d)))

  -- what is reached in n is reached in the quotient
  pub reached_yes : (s : ℕ) → s ≤ n / d → s * d ≤ n
  reached_yes s e = (le-div_iff_mul-le h).0 e

  pub reached_no : (s : ℕ) → n / d < s → n < s * d
  reached_no s e =
      let w = lt-div-mul-add {a = n} h in
      let m = mul-le-mul_right d e in
      omega arith

  pub taken_away : (s : ℕ) → s * d ≤ n → (n - s * d) / d ≡ n / d - s
  taken_away s e =
      let w : n - s * d + s * d ≡ n = omega arith in
      let q : n / d ≡ (n - s * d) / d + s = rw w at (add-mul-div_right (n - s * d) s h) in
      omega arith

-- ---- what the two roundings mean

pub rounding_law : RoundingLaw
unfolding round_up nearest
rounding_law a b h =
    let reaches = lt-div-mul-add {a = a + (b - 1)} h in
    let short = div-mul-le_self (a + (b - 1)) b in
    let below = div-mul-le_self (2 * a + b) (2 * b) in
    let above = lt-div-mul-add {a = 2 * a + b} {b = 2 * b} (omega arith) in
    record {
      up = λ k. (
        λ e. rw (sym e) (omega arith, omega arith),
        λ p.
            let l = p.0 in let u = p.1 in div-eq_of_lt-le b (omega arith) (omega arith),
      );
      near = λ k. (
        λ e. rw (sym e) (omega arith, omega arith),
        λ p.
            let l = p.0 in let u = p.1 in div-eq_of_lt-le (2 * b) (omega arith) (omega arith),
      );
    }

-- rounded up, a number is at most any that times b reaches it
pub round_up_le : (a b k : ℕ) → 0 < b → a ≤ k * b → round_up a b ≤ k
unfolding round_up
round_up_le a b k h e =
    let l = (div-lt_iff_lt-mul {k = b} {x = a + (b - 1)} {y = k + 1} h).1 (omega arith) in omega arith
