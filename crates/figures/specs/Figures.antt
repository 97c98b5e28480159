-- Document 01, "Bench figures" 1 to 8: what the check, a write of a picture, a plan and a bus write answer,
-- as far as the paper gives it.
-- Assumes nothing.
use Rattle.std.specs.Prelude.{List, [], ◌∷◌, ◌++◌, map, ◌≡◌, ℕ, pos, length, get_or, set, replicate}
use Rattle.reply.specs.Reply.{done, wrong_length, passes_end, too_large, too_fast}
use Rattle.bursts.specs.Burst.{encoded}
use Rattle.bus.specs.States.{bus_write}
use Rattle.bus.specs.declared.state.State.{State}
use Rattle.scaler.specs.Answer.{checked}
use Rattle.scaler.specs.declared.request.Fields.{Fields}
use Rattle.scaler.specs.declared.request.Request.{Request}
use Rattle.picture.specs.Writing.{file_after}
use Rattle.plan.specs.Plan.{Planned, list_for, plan_answer}

-- the file to begin with
abbrev pub zeros : List ℕ
zeros = replicate 256 0

-- the same with some places changed
unfoldable pub changed_at : List ℕ → List ℕ
changed_at [] = zeros
changed_at (p ∷ ps) = set (changed_at ps) p 1

-- One figure: what is asked, and what is to be answered.
pub data Figure : Type 0 where
  -- a request: the reply, fields with their numbers, and places with the bytes that a write leaves there
  picture : Request → ℕ → List ((Fields → ℕ) × ℕ) → List (ℕ × ℕ) → Figure
  -- changed places: the reply in a buffer that the list just fills, its bytes and bursts, and the list
  plan : List ℕ → ℕ → ℕ → ℕ → List ℕ → Figure
  -- a transaction: the reply
  write : List ℕ → ℕ → Figure

-- a request for 640 output pixels, unmoved: standard, InPix, InLin, InPpl, OutLin, YSKIP, XOFS and YOFSO
abbrev pub asked : ℕ → ℕ → ℕ → ℕ → ℕ → ℕ → ℕ → ℕ → Request
asked standard inpix inlin inppl outlin yskip xofs yofso =
    record {
      standard = standard;
      inpix = inpix;
      inlin = inlin;
      inppl = inppl;
      outpix = 640;
      outlin = outlin;
      offset = pos 0;
      yskip = yskip;
      xofs = record { 0 = xofs };
      yofso = yofso;
    }

-- 640 x 480 of figures 1 to 3, 5 and 6, by standard, InPpl, OutLin and YSKIP; at 60 Hz with no line skipped;
-- and figure 1 by InPpl
abbrev pub vga : ℕ → ℕ → ℕ → ℕ → Request
vga standard inppl outlin yskip = asked standard 640 480 inppl outlin yskip 80 66

abbrev pub plain : ℕ → ℕ → Request
plain inppl outlin = vga 0 inppl outlin 0

abbrev pub first : ℕ → Request
first inppl = plain inppl 216

-- 800 x 600 of figure 4
abbrev pub svga : Request
svga = asked 1 800 600 1024 255 4095 200 89

-- figure 6 by OutLin
abbrev pub sixth : ℕ → Request
sixth outlin = vga 1 800 outlin 4095

-- all of them, with any two bytes as the data of figure 8
unfoldable pub figures : ℕ → ℕ → List Figure
figures a b =
    -- 1
    picture (first 800) done
    ((λ f. f.adwhs.0, 326) ∷ (λ f. f.adwhe.0, 1606) ∷ (λ f. f.fal, 31) ∷ (λ f. f.lal, 247)
    ∷ (λ f. f.xinc, 0) ∷ (λ f. f.pcl, 2178859) ∷ (λ f. f.yinc, 1836) ∷ (λ f. f.yiwgto, 2965)
    ∷ (λ f. f.yiwgte, 917) ∷ (λ f. f.xofs.0, 80) ∷ (λ f. f.yofso, 66) ∷ [])
    ((0x81, 0x2B) ∷ (0x82, 0x3F) ∷ (0x83, 0x21) ∷ [])
    -- 2
    ∷ picture (plain 800 220) done ((λ f. f.pcl, 2141613) ∷ (λ f. f.yinc, 1870) ∷ []) []
    -- 3
    ∷ picture (vga 0 800 212 2048) done
    ((λ f. f.pcl, 2219829) ∷ (λ f. f.yinc, 2703) ∷ (λ f. f.yiwgto, 3399) ∷ (λ f. f.yiwgte, 327) ∷ []) []
    -- 4
    ∷ picture svga done
    ((λ f. f.xinc, 3277) ∷ (λ f. f.pcl, 2930917) ∷ (λ f. f.yinc, 3470) ∷ (λ f. f.yiwgto, 3783)
    ∷ (λ f. f.yiwgte, 3157) ∷ (λ f. f.yofse, 90) ∷ (λ f. f.xofs.0, 200) ∷ []) []
    -- 5
    ∷ picture (first 1283) done [] []
    ∷ picture (first 1284) too_fast [] []
    -- 6
    ∷ picture (sixth 240) done ((λ f. f.yinc, 4079) ∷ (λ f. f.hlen.0, 799) ∷ []) []
    ∷ picture (sixth 241) too_large [] []
    -- 7
    ∷ plan (0x70 ∷ 0x71 ∷ 0x74 ∷ []) done 7 1 (0x70 ∷ 5 ∷ 1 ∷ 1 ∷ 0 ∷ 0 ∷ 1 ∷ [])
    ∷ plan (0x70 ∷ 0x74 ∷ []) done 6 2 (0x70 ∷ 1 ∷ 1 ∷ 0x74 ∷ 1 ∷ 1 ∷ [])
    -- 8: 88h alone, as any byte alone, is refused
    ∷ write (0x88 ∷ 0xFD ∷ a ∷ []) done
    ∷ write (0x88 ∷ 0xFD ∷ a ∷ b ∷ []) passes_end
    ∷ write (a ∷ []) wrong_length
    ∷ []

-- a plan's numbers
abbrev pub planned : Planned → List ℕ
planned r = r.reply ∷ r.bytes ∷ r.bursts ∷ []

-- what is answered for a figure, in any state
unfoldable pub answered : State → Figure → List ℕ
answered s (picture q _ numbers bytes) =
    (checked q).reply ∷ map (λ n. n.0 (checked q).fields) numbers
    ++ map (λ y. get_or (file_after zeros q) y.0 0) bytes
answered s (plan places _ _ _ list) =
    planned (plan_answer zeros (changed_at places) (length list)) ++ encoded (list_for zeros (changed_at places))
answered s (write t _) = (bus_write s t).reply ∷ []

-- and what the paper says
unfoldable pub given : Figure → List ℕ
given (picture _ reply numbers bytes) = reply ∷ map (λ n. n.1) numbers ++ map (λ y. y.1) bytes
given (plan _ reply bytes bursts list) = reply ∷ bytes ∷ bursts ∷ list
given (write _ reply) = reply ∷ []

-- Every figure holds, whatever the state and the two bytes.
abbrev pub FiguresHold : Type 0
FiguresHold = (s : State) (a b : ℕ) → map (answered s) (figures a b) ≡ map given (figures a b)
