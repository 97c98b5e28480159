-- Differences and floors of ℤ, where both sides are natural numbers.
-- Assumes nothing.
use mathlib.Core.Path.{◌≡◌}
use Prim.Native.Nat.{ℕ, zero, suc, ◌+◌, ◌-◌, ◌<◌, ◌≤◌}
use native.Mathlib.Omega.{arith}
use borrow.Author.Tests.{lt-ltb, le-ltb}
use lib.IntN.{pos, negsuc, ◌-ℤ◌}

pub sub_pos : (a b : ℕ) → b ≤ a → pos a -ℤ pos b ≡ pos (a - b)
sub_pos a zero l = let e : a + 0 ≡ a - 0 = omega arith in rw e
sub_pos a (suc b) l = rw (le-ltb a (suc b) l)

pub sub_neg : (a b : ℕ) → a < b → pos a -ℤ pos b ≡ negsuc (b - suc a)
sub_neg a zero l = absurd (omega arith)
sub_neg a (suc b) l = rw (lt-ltb a (suc b) l)
