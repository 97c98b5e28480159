-- Where the picture lies on the monitor: no number of it is below 0.
-- Assumes nothing.
use mathlib.Core.Bool.{Bool, true, false, cond}
use mathlib.Core.Path.{◌≡◌, refl}
use Prim.Native.Nat.{ℕ, suc, ◌+◌, ◌-◌, ◌*◌, ◌/◌, ◌^◌, ◌<◌, ◌≤◌}
use native.Mathlib.Omega.{arith}
use borrow.Author.Tests.{le-ltb}
use lib.Dec.{eqb}
use lib.IntN.{ℤ, pos, negsuc, ◌+ℤ◌}
use lib.Signed.{mag}
use Rattle.bits.proofs.Tests.{refusals}
use Rattle.scaler.specs.Limits.{most_pixels, most_lines, offset_holds}
use Rattle.scaler.specs.Numbers.{by, adwhs_of, adwhe_of, centred_line, fal_of, lal_of, hlen_of}
use Rattle.scaler.proofs.Integers.{sub_pos}

-- what holds at 60 Hz and at 50 Hz holds by the standard
pub at_both : (P : Bool → Type 0) (sixty : Bool) → P true → P false → P sixty
at_both P true a b = a
at_both P false a b = b

pub by_le : (standard sixty fifty most : ℕ) → sixty ≤ most → fifty ≤ most → by standard sixty fifty ≤ most
by_le standard sixty fifty most = at_both (λ t. cond t sixty fifty ≤ most) (eqb standard 0)

-- chosen among integers, as among naturals
pub by_pos : (standard sixty fifty : ℕ) → by standard (pos sixty) (pos fifty) ≡ pos (by standard sixty fifty)
by_pos standard sixty fifty =
    at_both (λ t. cond t (pos sixty) (pos fifty) ≡ pos (cond t sixty fifty)) (eqb standard 0) refl refl

-- ---- a number moved by the offset

pub record Moved (a : ℕ) (offset : ℤ) : Type 0 where
  pub line : ℕ
  pub is : pos a +ℤ offset ≡ pos line
  pub low : a ≤ line + 8
  pub high : line ≤ a + 8

pub moved : (a : ℕ) (offset : ℤ) → offset_holds offset ≡ true → 8 ≤ a → Moved a offset
unfolding offset_holds
moved a (pos n) e l =
    let h = simp refusals at e in
    record { line = a + n; is = refl; low = omega arith; high = omega arith }
moved a (negsuc n) e l =
    let h = (simp refusals at e).0 in
    record {
      line = a - suc n;
      is = rw (le-ltb a (suc n) (omega arith));
      low = omega arith;
      high = omega
          arith;
    }

-- an offset that the limits let through fits eight bits
pub offset_small : (offset : ℤ) → offset_holds offset ≡ true → mag offset < 2 ^ 7
unfolding offset_holds
offset_small (pos n) e = let h = simp refusals at e in omega arith
offset_small (negsuc n) e = let h = simp refusals at e in omega arith

-- ---- FAL and LAL

module _ (standard outlin : ℕ) (offset : ℤ) (l : outlin ≤ most_lines standard) (o : offset_holds offset ≡ true)
  where
    -- the first line before the offset
    abbrev pub unmoved : ℕ
    unmoved = by standard 19 23 + (by standard 240 287 - outlin) / 2

    pub centred_is : centred_line standard outlin ≡ pos unmoved
    unfolding centred_line
    centred_is = rw (sub_pos (by standard 240 287) outlin l)

    pub first : Moved unmoved offset
    first =
        moved unmoved offset o
        (let h = at_both (λ t. 8 ≤ cond t 19 23) (eqb standard 0) (omega arith) (omega arith) in omega arith)

    pub fal_is : fal_of standard outlin offset ≡ pos first.line
    unfolding fal_of
    fal_is = rw centred_is first.is

    pub lal_is : lal_of standard outlin offset ≡ pos (first.line + outlin)
    unfolding lal_of
    lal_is = rw fal_is

-- ---- ADWHS, ADWHE and HLEN

module _ (standard outpix : ℕ) (l : outpix ≤ most_pixels standard) where
  pub most_below : most_pixels standard ≤ by standard 966 986
  most_below = at_both (λ t. cond t 710 702 ≤ cond t 966 986) (eqb standard 0) (omega arith) (omega arith)

  pub adwhs_is : adwhs_of standard outpix ≡ pos (by standard 966 986 - outpix)
  unfolding adwhs_of
  adwhs_is = sub_pos (by standard 966 986) outpix (omega (arith, most_below))

  pub adwhe_is : adwhe_of standard outpix ≡ pos (by standard 966 986 - outpix + 2 * outpix)
  unfolding adwhe_of
  adwhe_is = rw adwhs_is

pub hlen_is : (inppl : ℕ) → 1 ≤ inppl → hlen_of inppl ≡ pos (inppl - 1)
unfolding hlen_of
hlen_is inppl l = sub_pos inppl 1 l
