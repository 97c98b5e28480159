-- Figures 1 to 8, by evaluation of the definitions.
-- Assumes nothing.
use mathlib.Core.Path.{refl}
use Rattle.bits.specs.Bit.{bit, number}
use Rattle.fields.specs.Fields.{put_all}
use Rattle.pieces.specs.Piece.{put_piece, with_bits, put}
use Rattle.chip.specs.Fields.{picture_fields}
use Rattle.chip.specs.File.{caption}
use Rattle.chip.specs.Map.{printed, named_at, masks_from, masks}
use Rattle.reply.specs.Reply.{lowest}
use Rattle.bursts.specs.Burst.{bus_bytes, encoded}
use Rattle.bursts.specs.Runs.{changed, clear, bridged, joined, with_place, runs_from, burst_of, bursts_for}
use Rattle.bursts.specs.Stuck.{bits_agree, fixed_at, some_from, stuck}
use Rattle.transactions.specs.Writes as writes
use Rattle.bus.specs.States.{bus_write}
use Rattle.scaler.specs.Answer.{fields_of, values_of, no_fields, refusal, checked}
use Rattle.scaler.specs.Limits.{clock_passes, outside, weights_pass, request_tests, request_reply}
use Rattle.scaler.specs.Limits.{wrong_source, pixels_hold, lines_hold, offset_holds, output_holds, numbers_pass}
use Rattle.scaler.specs.Numbers.{adwhs_of, adwhe_of, centred_line, fal_of, lal_of, hlen_of, written_step, xinc_of}
use Rattle.scaler.specs.Numbers.{lines_of, pcl_of, num_of, den_of, yiwgto_of, yiwgte_of, yofse_of}
use Rattle.scaler.specs.Rounding.{round_up, nearest}
use Rattle.picture.specs.Writing.{write_tests, write_reply, written, file_after}
use Rattle.plan.specs.Plan as plan
use Rattle.figures.specs.Figures.{changed_at, figures, answered, given, FiguresHold}

pub figures_hold : FiguresHold
unfolding lowest round_up nearest adwhs_of adwhe_of centred_line fal_of lal_of hlen_of written_step xinc_of lines_of
    pcl_of num_of den_of yiwgto_of yiwgte_of yofse_of wrong_source pixels_hold lines_hold offset_holds output_holds
    numbers_pass clock_passes outside weights_pass request_tests request_reply fields_of values_of no_fields refusal
    checked put_piece with_bits put put_all picture_fields bit number write_tests write_reply written file_after
    printed named_at masks_from masks caption bus_bytes encoded changed clear bridged joined with_place runs_from
    burst_of bursts_for bits_agree fixed_at some_from stuck plan.plan_tests plan.plan_reply plan.refusal
    plan.plan_answer bus_write writes.registers_pass writes.passes writes.write_tests writes.write_reply changed_at
    figures answered given
figures_hold s a b = refl
