-- A state and its lent bytes correspond.
-- Assumes nothing.
use mathlib.Core.Path.{◌≡◌, sym, ap, ◌∙◌}
use mathlib.Core.List.{List, [], ◌∷◌, ◌++◌}
use Prim.Native.Nat.{ℕ, ◌+◌}
use native.Mathlib.Omega.{arith}
use lib.ListN.{length, get_or, take, drop, length-append}
use lib.Seq.{take_at, drop_at, drop-drop, get_or-drop}
use Rattle.bus.specs.Meaning.{Sized}
use Rattle.bus.specs.declared.state.State.{State}
use Rattle.states.specs.Lent.{state_in, bytes_of, StatesCross}
use Rattle.states.proofs.Parts.{part_long, whole}

state_sized : (xs : List ℕ) → length xs ≡ 1283 → Sized (state_in xs)
unfolding state_in
state_sized xs l =
    record {
      file = part_long 0 256 xs (omega (arith, l));
      colours = part_long 256 768 xs (omega (arith, l));
      cursor = part_long 1024 256 xs (omega (arith, l));
    }

module _ (s : State) (z : Sized s) where
  abbrev three : List ℕ
  three = s.status ∷ s.chip ∷ s.fifo ∷ []

  abbrev behind : List ℕ
  behind = s.colours ++ (s.cursor ++ three)

  bytes_long : length (bytes_of s) ≡ 1283
  unfolding bytes_of
  bytes_long =
      rw (
        length-append s.file behind,
        length-append s.colours (s.cursor ++ three),
        length-append s.cursor three,
        z.file,
        z.colours,
        z.cursor,
      )

  behind_file : drop 256 (bytes_of s) ≡ behind
  unfolding bytes_of
  behind_file = drop_at s.file behind 256 z.file

  behind_colours : drop 1024 (bytes_of s) ≡ s.cursor ++ three
  behind_colours =
      sym (drop-drop 768 256 (bytes_of s))
      ∙ ap (λ (t : List ℕ). drop 768 t) behind_file
      ∙ drop_at s.colours (s.cursor ++ three) 768 z.colours

  readables : drop 1280 (bytes_of s) ≡ three
  readables =
      sym (drop-drop 256 1024 (bytes_of s))
      ∙ ap (λ (t : List ℕ). drop 256 t) behind_colours
      ∙ drop_at s.cursor three 256 z.cursor

  readable : (i : ℕ) → get_or (bytes_of s) (1280 + i) 0 ≡ get_or three i 0
  readable i = sym (get_or-drop 1280 (bytes_of s) i 0) ∙ ap (λ (t : List ℕ). get_or t i 0) readables

  file_back : take 256 (bytes_of s) ≡ s.file
  unfolding bytes_of
  file_back = take_at s.file behind 256 z.file

  colours_back : take 768 (drop 256 (bytes_of s)) ≡ s.colours
  colours_back = rw behind_file (take_at s.colours (s.cursor ++ three) 768 z.colours)

  cursor_back : take 256 (drop 1024 (bytes_of s)) ≡ s.cursor
  cursor_back = rw behind_colours (take_at s.cursor three 256 z.cursor)

  state_back : state_in (bytes_of s) ≡ s
  unfolding state_in
  state_back = rw (file_back, colours_back, cursor_back, readable 0, readable 1, readable 2)

pub states_cross : StatesCross
states_cross = record { there = whole; sized = state_sized; back = state_back; long = bytes_long }
