-- The first line as the machine works it out: signed operations on 64 bits, each read back from its bits.
-- Assumes nothing.
use mathlib.Core.Bool.{true}
use mathlib.Core.Logic.{⊎_elim}
use mathlib.Core.Path.{◌≡◌, sym}
use Prim.Native.Nat.{ℕ, suc, ◌+◌, ◌-◌, ◌/◌, ◌^◌, ◌<◌, ◌≤◌}
use native.Mathlib.Omega.{arith}
use lib.Dec.{T}
use lib.IntN.{ℤ, pos, negsuc, nat_abs, ◌+ℤ◌, ◌-ℤ◌}
use lib.Signed.{mag, shr_z, non_neg, mag_shr}
use mir.Facts.{to_z-of_z}
use mir.Syntax.{w8, w64}
use mir.Val.{SFits, of_z, to_z}
use Rattle.bits.proofs.Tests.{le_or_lt}
use Rattle.scaler.specs.Limits.{most_lines, offset_holds}
use Rattle.scaler.specs.Numbers.{by, centred_line, fal_of}
use Rattle.scaler.proofs.Integers.{sub_pos, sub_neg}
use Rattle.scaler.proofs.Windows.{by_le, Moved, first, fal_is}

-- ---- how large a sum can be

mag_sub : (a b : ℕ) → mag (pos a -ℤ pos b) ≤ a + b
mag_sub a b =
    ⊎_elim (λ l. rw (sub_pos a b l) (omega arith)) (λ l. rw (sub_neg a b l) (omega arith)) (le_or_lt b a)

pub mag_add : (a : ℕ) (z : ℤ) → mag (pos a +ℤ z) ≤ a + mag z + 1
mag_add a (pos b) = omega arith
mag_add a (negsuc b) = omega (arith, mag_sub a (suc b))

-- ---- numbers that 64 bits hold read back as themselves

pub natural : (n : ℕ) → n < 2 ^ 63 → to_z w64 n ≡ pos n
natural n l = to_z-of_z {w = w64} {z = pos n} (record { sfits = l })

-- the values on the way, as the machine has them
abbrev difference : ℕ → ℕ → ℤ
difference full outlin = to_z w64 full -ℤ to_z w64 outlin

abbrev half : ℕ → ℕ → ℤ
half full outlin = shr_z (to_z w64 (of_z w64 (difference full outlin))) 2

abbrev line : ℕ → ℕ → ℕ → ℤ
line top full outlin = to_z w64 top +ℤ to_z w64 (of_z w64 (half full outlin))

-- none is out of range, and the last is the centred line
pub record Centred (standard outlin top full : ℕ) : Type 0 where
  pub difference_fits : SFits w64 (difference full outlin)
  pub line_fits : SFits w64 (line top full outlin)
  pub is : to_z w64 (of_z w64 (line top full outlin)) ≡ centred_line standard outlin

module _ (standard outlin : ℕ) (o : outlin < 2 ^ 16) where
  abbrev top : ℕ
  top = by standard 19 23

  abbrev full : ℕ
  full = by standard 240 287

  top_le : top ≤ 23
  top_le = by_le standard 19 23 23 (omega arith) (omega arith)

  full_le : full ≤ 287
  full_le = by_le standard 240 287 287 (omega arith) (omega arith)

  difference_is : difference full outlin ≡ pos full -ℤ pos outlin
  difference_is = rw (natural full (omega (arith, full_le)), natural outlin (omega arith))

  difference_small : SFits w64 (pos full -ℤ pos outlin)
  difference_small = record { sfits = omega (arith, mag_sub full outlin, full_le) }

  half_is : half full outlin ≡ shr_z (pos full -ℤ pos outlin) 2
  half_is = rw (difference_is, to_z-of_z difference_small)

  half_le : mag (shr_z (pos full -ℤ pos outlin) 2) ≤ 287 + outlin
  half_le = omega (arith, mag_shr (pos full -ℤ pos outlin) 2, mag_sub full outlin, full_le)

  half_small : SFits w64 (shr_z (pos full -ℤ pos outlin) 2)
  half_small = record { sfits = omega (arith, half_le) }

  line_is : line top full outlin ≡ centred_line standard outlin
  unfolding centred_line
  line_is = rw (half_is, to_z-of_z half_small, natural top (omega (arith, top_le)))

  pub centred_small : mag (centred_line standard outlin) < 2 ^ 17
  unfolding centred_line
  centred_small = omega (arith, mag_add top (shr_z (pos full -ℤ pos outlin) 2), half_le, top_le)

  pub centred : Centred standard outlin top full
  centred =
      let wide : SFits w64 (centred_line standard outlin) = record { sfits = omega (arith, centred_small) } in
      record {
        difference_fits = rw difference_is difference_small;
        line_fits = rw line_is wide;
        is = rw (line_is, to_z-of_z wide);
      }

-- ---- moved by the offset, that is FAL

abbrev shifted : ℤ → ℤ → ℤ
shifted z offset = to_z w64 (of_z w64 z) +ℤ to_z w64 (of_z w64 (to_z w8 (of_z w8 offset)))

pub record Shifted (standard outlin : ℕ) (offset z : ℤ) : Type 0 where
  pub offset_fits : SFits w64 (to_z w8 (of_z w8 offset))
  pub line_fits : SFits w64 (shifted z offset)
  pub positive : T (non_neg (to_z w64 (of_z w64 (shifted z offset))))
  pub small : nat_abs (to_z w64 (of_z w64 (shifted z offset))) < 2 ^ 16
  pub is : pos (nat_abs (to_z w64 (of_z w64 (shifted z offset)))) ≡ fal_of standard outlin offset

module _ (standard outlin : ℕ) (offset z : ℤ) (l : outlin ≤ most_lines standard)
    (o : offset_holds offset ≡ true) (s : SFits w8 offset) (e : z ≡ centred_line standard outlin)
    (m : mag z < 2 ^ 17) where
  abbrev fal : Moved (by standard 19 23 + (by standard 240 287 - outlin) / 2) offset
  fal = first standard outlin offset l o

  wide : SFits w64 offset
  wide = record { sfits = omega (arith, s.sfits) }

  shifted_is : shifted z offset ≡ pos fal.line
  unfolding fal_of
  shifted_is =
      rw (to_z-of_z {w = w64} {z = z} (record { sfits = omega arith }), to_z-of_z s, to_z-of_z wide, e)
      (fal_is standard outlin offset l o)

  line_lt : fal.line < 2 ^ 16
  line_lt =
      omega (
        arith,
        fal.high,
        by_le standard 19 23 23 (omega arith) (omega arith),
        by_le standard 240 287 287 (omega arith) (omega arith),
      )

  read : to_z w64 (of_z w64 (shifted z offset)) ≡ pos fal.line
  read = rw shifted_is (natural fal.line (omega (arith, line_lt)))

  pub shifted_line : Shifted standard outlin offset z
  shifted_line =
      record {
        offset_fits = rw (to_z-of_z s) wide;
        line_fits = rw shifted_is (record { sfits = omega (arith, line_lt) });
        positive = rw read tt;
        small = rw read line_lt;
        is = rw read (sym (fal_is standard outlin offset l o));
      }
