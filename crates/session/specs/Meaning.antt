-- What sessions mean: theorems about the definitions of Runs.antt and of effects/specs/Effects.antt.
-- Assumes nothing.
use Rattle.std.specs.Prelude.{◌≡◌, List, [], ◌∷◌, ◌⊎◌, ℕ, ◌<◌, ◌≤◌, length}
use Rattle.fields.specs.Laws.{Bytes}
use Rattle.reply.specs.Reply.{done}
use Rattle.bus.specs.declared.state.State.{State}
use Rattle.bus.specs.Meaning.{Sized}
use Rattle.effects.specs.Effects.{outcome}
use Rattle.effects.specs.Parts.{Body}
use Rattle.session.specs.Runs.{played, bench_state, run_answer, longest_session, longest_print}

-- a reply that a whole record can give
abbrev pub Given : ℕ → Type 0
Given r = (r ≡ 0) ⊎ ((r ≡ 4) ⊎ ((r ≡ 5) ⊎ ((r ≡ 6) ⊎ (r ≡ 7))))

-- Any record, on any state.
pub record RecordMeans (s : State) (kind : ℕ) (body : List ℕ) : Type 0 where
  -- a refusal changes nothing, and the state keeps its lengths
  pub refused : ((outcome s kind body).reply ≡ done → ⊥) → (outcome s kind body).state ≡ s
  pub sized : Sized s → Sized (outcome s kind body).state
  -- a whole record replies 0, 4, 5, 6 or 7, each of which is one digit in decimal
  pub replies : Sized s → Body kind body → Bytes body → Given (outcome s kind body).reply
  -- and only 01 can be refused
  pub others : Body kind body → Bytes body → (kind ≡ 0x01 → ⊥) → (outcome s kind body).reply ≡ done

pub record SessionsMean : Type 0 where
  pub records : (s : State) (kind : ℕ) (body : List ℕ) → RecordMeans s kind body
  -- the empty session changes nothing and prints nothing
  pub empty : (s : State) → played s [] ≡ record { state = s; printed = [] }
  -- one that is too long changes nothing, and prints the line 00 1
  pub long : (s : State) (session : List ℕ) → longest_session < length session
      → played s session ≡ record { state = s; printed = 0x30 ∷ 0x30 ∷ 0x20 ∷ 0x31 ∷ 0x0A ∷ [] }
  -- none prints more than the longest print, so that what is told to be in the buffer is there
  pub fits : (s : State) (session : List ℕ) → length (played s session).printed ≤ longest_print
  pub told : (s : State) (session buffer : List ℕ) → (run_answer s session buffer).bytes ≤ length buffer
  -- the state keeps its lengths
  pub sized : (s : State) (session : List ℕ) → Sized s → Sized (played s session).state
  -- document 01's example: 02 81 2b 05 81 prints 02 0 and 05 0 2b
  pub example : (played bench_state (0x02 ∷ 0x81 ∷ 0x2B ∷ 0x05 ∷ 0x81 ∷ [])).printed
      ≡ 0x30 ∷ 0x32 ∷ 0x20 ∷ 0x30 ∷ 0x0A
      ∷ 0x30 ∷ 0x35 ∷ 0x20 ∷ 0x30 ∷ 0x20 ∷ 0x32 ∷ 0x62 ∷ 0x0A ∷ []
