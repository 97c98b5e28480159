-- What a record does to the parts of a state: the file, the colour table and the cursor map.
-- Assumes nothing.
use Rattle.std.specs.Prelude.{◌≡◌, List, ℕ, ◌<◌, length}
use Rattle.bus.specs.declared.state.State.{State}
use Rattle.records.specs.Records.{body_length}
use Rattle.effects.specs.Effects.{outcome}

-- a state of its parts
abbrev pub in_parts : List ℕ → List ℕ → List ℕ → ℕ → ℕ → ℕ → State
in_parts file colours cursor status chip fifo =
    record { file = file; colours = colours; cursor = cursor; status = status; chip = chip; fifo = fifo }

-- a body of a known kind
pub record Body (kind : ℕ) (body : List ℕ) : Type 0 where
  pub known : 0 < body_length kind
  pub long : length body ≡ body_length kind

-- The parts after a record are those of its outcome, whatever the readable bytes are, and so is the reply,
-- which is one digit.
pub record Does (kind : ℕ) (body file colours cursor : List ℕ) (reply : ℕ) (file' colours' cursor' : List ℕ)
    : Type 0 where
  pub outcome_is : (status chip fifo : ℕ)
      → outcome (in_parts file colours cursor status chip fifo) kind body
      ≡ record { state = in_parts file' colours' cursor' status chip fifo; reply = reply }
  pub digit : reply < 10
