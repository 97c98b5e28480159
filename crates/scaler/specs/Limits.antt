-- Document 01, "Reply numbers", 4 to 8, and "From picture to fields", output limits and clock limit: what is
-- refused of a request, each number with its test.
-- Assumes nothing.
use Rattle.std.specs.Prelude.{Bool, not, ◌&&◌, ◌||◌, List, [], ◌∷◌, ℕ, ◌+◌, ◌*◌, ◌%◌, eqb, leb, ltb, ℤ, pos, negsuc}
use Rattle.std.specs.Int.Signed.{le_z, lt_z}
use Rattle.reply.specs.Reply.{lowest, wrong_request, output_limit, too_large, too_fast, wrong_weight}
use Rattle.scaler.specs.Numbers.{by, lines_of, field_clocks, num_of, den_of, yinc_of, yiwgto_of, yiwgte_of}
use Rattle.scaler.specs.Numbers.{yofse_of}
use Rattle.scaler.specs.declared.request.Request.{Request}

-- L, N and D of a request
abbrev pub lines_for : Request → ℕ
lines_for q = lines_of q.standard q.inlin q.outlin

abbrev pub num_for : Request → ℕ
num_for q = num_of q.outlin q.yskip

abbrev pub den_for : Request → ℕ
den_for q = den_of q.inlin

-- 4: the standard, and the source picture
unfoldable pub wrong_source : Request → Bool
wrong_source q =
    ltb 1 q.standard
    || ((not (eqb (q.inpix % 2) 0) || (ltb q.inpix 2 || ltb 800 q.inpix))
    || ((ltb q.inlin 1 || ltb 600 q.inlin) || ltb q.inppl (q.xofs.0 + q.inpix)))

-- 5: the output limits; the most lines are named apart from the same numbers in FAL
abbrev pub most_pixels : ℕ → ℕ
most_pixels standard = by standard 710 702

abbrev pub most_lines : ℕ → ℕ
most_lines standard = by standard 240 287

unfoldable pub pixels_hold : ℕ → ℕ → ℕ → Bool
pixels_hold standard inpix outpix =
    (leb 1 outpix && leb outpix (most_pixels standard)) && (leb outpix inpix && leb inpix (2 * outpix))

unfoldable pub lines_hold : ℕ → ℕ → ℕ → Bool
lines_hold standard inlin outlin =
    (leb 1 outlin && leb outlin (most_lines standard)) && leb (inlin + 2) (4 * outlin)

unfoldable pub offset_holds : ℤ → Bool
offset_holds offset = le_z (negsuc 7) offset && le_z offset (pos 8)

unfoldable pub output_holds : Request → Bool
output_holds q =
    pixels_hold q.standard q.inpix q.outpix
    && (lines_hold q.standard q.inlin q.outlin && offset_holds q.offset)

-- 6: what does not fit its field; HLEN has eleven bits in the printed map, so InPpl is at most 2,048
unfoldable pub numbers_pass : Request → Bool
numbers_pass q =
    (ltb 1023 q.xofs.0
    || (ltb 1023 q.yofso || ltb 1023 (yofse_of (num_for q) (den_for q) q.yskip q.yofso)))
    || (ltb 2048 q.inppl || (ltb 4095 q.yskip || ltb 4095 (yinc_of (num_for q) (den_for q))))

-- 7: the pixel clock over 45 MHz
unfoldable pub clock_passes : ℕ → ℕ → ℕ → Bool
clock_passes standard inppl lines = ltb (5 * field_clocks standard) (3 * (inppl * lines))

-- 8: a weight below 0 or over 4,095
unfoldable pub outside : ℤ → Bool
outside weight = lt_z weight (pos 0) || lt_z (pos 4095) weight

unfoldable pub weights_pass : ℕ → ℕ → ℕ → Bool
weights_pass n d yskip = outside (pos (yiwgto_of n d)) || outside (yiwgte_of n d yskip)

unfoldable pub request_tests : Request → List (ℕ × Bool)
request_tests q =
    (wrong_request, wrong_source q)
    ∷ (output_limit, not (output_holds q))
    ∷ (too_large, numbers_pass q)
    ∷ (too_fast, clock_passes q.standard q.inppl (lines_for q))
    ∷ (wrong_weight, weights_pass (num_for q) (den_for q) q.yskip)
    ∷ []

unfoldable pub request_reply : Request → ℕ
request_reply q = lowest (request_tests q)
