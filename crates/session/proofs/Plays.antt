-- A session, record by record.
-- Assumes nothing.
use mathlib.Core.Path.{◌≡◌, refl}
use mathlib.Core.Bool.{true, false}
use mathlib.Core.List.{List, [], ◌∷◌}
use Prim.Native.Nat.{ℕ, zero, suc}
use lib.ListN.{take, drop}
use Rattle.reply.specs.Reply.{wrong_length}
use Rattle.bus.specs.declared.state.State.{State}
use Rattle.lines.specs.Lines.{line}
use Rattle.records.specs.Records.{body_length, whole}
use Rattle.effects.specs.Effects.{outcome}
use Rattle.session.specs.Runs.{line_of, printing, play}

module _ (s : State) (kind : ℕ) (left : List ℕ) where
  pub play_done : whole kind left ≡ true
      → play s 0 (kind ∷ left)
      ≡ (let body = take (body_length kind) left in
      printing (line_of kind body (outcome s kind body))
      (play (outcome s kind body).state (body_length kind) left))
  unfolding play
  play_done w = rw w

  pub play_broken : whole kind left ≡ false
      → play s 0 (kind ∷ left) ≡ record { state = s; printed = line kind wrong_length [] }
  unfolding play
  play_broken w = rw w

-- what has been read is passed over
pub play_read : (s : State) (read : ℕ) (session : List ℕ) → play s read session ≡ play s 0 (drop read session)
unfolding play
play_read s zero session = refl
play_read s (suc read) [] = refl
play_read s (suc read) (byte ∷ left) = play_read s read left
