-- Document 01, "From picture to fields": the numbers, in its order. What is subtracted there is subtracted in
-- ℤ, so that a number below 0 is seen to be one.
-- Assumes nothing.
use Rattle.std.specs.Prelude.{Bool, cond, ℕ, ◌+◌, ◌*◌, ◌/◌, ◌^◌, eqb, leb, ℤ, pos, ◌+ℤ◌, ◌-ℤ◌}
use Rattle.std.specs.Int.Signed.{shr_z}
use Rattle.scaler.specs.Rounding.{round_up, nearest}

-- one of two by the standard: 0 is 60 Hz, 1 is 50 Hz
abbrev pub by : {A : Type 0} → ℕ → A → A → A
by standard sixty fifty = cond (eqb standard 0) sixty fifty

-- a quotient rounded down, below 0 too
abbrev pub floor : ℤ → ℕ → ℤ
floor = shr_z

abbrev pub fise_of : ℕ → ℕ
fise_of standard = by standard 1 0

-- ADWHS and ADWHE, in encoder clocks, two to an output pixel; ADWHS is that far before the middle
abbrev pub middle_clock : ℕ → ℕ
middle_clock standard = by standard 966 986

unfoldable pub adwhs_of : ℕ → ℕ → ℤ
adwhs_of standard outpix = pos (middle_clock standard) -ℤ pos outpix

unfoldable pub adwhe_of : ℕ → ℕ → ℤ
adwhe_of standard outpix = adwhs_of standard outpix +ℤ pos (2 * outpix)

-- FAL and LAL; the first line is that of a centred picture, moved by the offset
unfoldable pub centred_line : ℕ → ℕ → ℤ
centred_line standard outlin =
    pos (by standard 19 23) +ℤ floor (pos (by standard 240 287) -ℤ pos outlin) 2

unfoldable pub fal_of : ℕ → ℕ → ℤ → ℤ
fal_of standard outlin offset = centred_line standard outlin +ℤ offset

unfoldable pub lal_of : ℕ → ℕ → ℤ → ℤ
lal_of standard outlin offset = fal_of standard outlin offset +ℤ pos outlin

-- XPIX and HLEN; HLEN is in pixel clocks
abbrev pub xpix_of : ℕ → ℕ
xpix_of inpix = inpix / 2

unfoldable pub hlen_of : ℕ → ℤ
hlen_of inppl = pos inppl -ℤ pos 1

-- XINC; 4,096 is written as 0
unfoldable pub written_step : ℕ → ℕ
written_step step = cond (eqb step 4096) 0 step

unfoldable pub xinc_of : ℕ → ℕ → ℕ
xinc_of outpix inpix = written_step (round_up (4096 * outpix) inpix)

-- L, the source's lines in a field; F, the encoder clocks in a field; PCL
unfoldable pub lines_of : ℕ → ℕ → ℕ → ℕ
lines_of standard inlin outlin = (inlin + 2) * by standard 525 625 / (2 * outlin)

abbrev pub field_clocks : ℕ → ℕ
field_clocks standard = by standard 450450 540000

unfoldable pub pcl_of : ℕ → ℕ → ℕ → ℕ
pcl_of standard inppl lines = inppl * lines * 2 ^ 21 / field_clocks standard

-- N and D; YINC
unfoldable pub num_of : ℕ → ℕ → ℕ
num_of outlin yskip = outlin * (4095 + yskip) * 4096

unfoldable pub den_of : ℕ → ℕ
den_of inlin = (inlin + 2) * 4095

abbrev pub yinc_of : ℕ → ℕ → ℕ
yinc_of n d = nearest n d

-- YIWGTO; and YIWGTE and YOFSE, by two cases
unfoldable pub yiwgto_of : ℕ → ℕ → ℕ
yiwgto_of n d = 2048 + n / (2 * d)

abbrev pub reached : ℕ → ℕ → ℕ → Bool
reached n d yskip = leb (yskip * d) n

unfoldable pub yiwgte_of : ℕ → ℕ → ℕ → ℤ
yiwgte_of n d yskip =
    cond (reached n d yskip)
    (floor (pos n -ℤ pos (yskip * d)) (2 * d))
    (floor (pos (3 * n) -ℤ pos (yskip * d)) (2 * d))

unfoldable pub yofse_of : ℕ → ℕ → ℕ → ℕ → ℕ
yofse_of n d yskip yofso = cond (reached n d yskip) yofso (yofso + 1)
