-- Rounding of a quotient: up, and to nearest with the half up (document 01, "From picture to fields").
-- Assumes nothing.
use Rattle.std.specs.Prelude.{◌≡◌, ◌↔◌, ℕ, ◌+◌, ◌-◌, ◌*◌, ◌/◌, ◌<◌, ◌≤◌}

unfoldable pub round_up : ℕ → ℕ → ℕ
round_up a b = (a + (b - 1)) / b

unfoldable pub nearest : ℕ → ℕ → ℕ
nearest a b = (2 * a + b) / (2 * b)

-- What the two mean, for every a and every b above 0.
pub record RoundsMean (a b : ℕ) : Type 0 where
  -- the one number that times b reaches a, by less than b
  pub up : (k : ℕ) → (round_up a b ≡ k) ↔ ((a ≤ k * b) × (k * b < a + b))
  -- the one number that times b is less than half of b below a, or at most half of b above it
  pub near : (k : ℕ) → (nearest a b ≡ k) ↔ ((2 * a < 2 * (k * b) + b) × (2 * (k * b) ≤ 2 * a + b))

abbrev pub RoundingLaw : Type 0
RoundingLaw = (a b : ℕ) → 0 < b → RoundsMean a b
