-- What a session prints fits the longest print.
-- Assumes nothing.
use mathlib.Core.Path.{◌≡◌, refl, ap, ◌∙◌}
use mathlib.Core.Bool.{Bool, true, false}
use mathlib.Core.List.{List, [], ◌∷◌}
use Prim.Native.Nat.{ℕ, zero, suc, ◌+◌, ◌-◌, ◌*◌, ◌/◌, ◌%◌, ◌<◌, ◌≤◌}
use native.Mathlib.Decide.{ℕ_discrete}
use native.Mathlib.Omega.{arith}
use lib.ListN.{length, take, length-append}
use Rattle.bus.specs.declared.state.State.{State}
use Rattle.bus.specs.Answers.{Answer}
use Rattle.lines.specs.Lines.{hex, added_byte}
use Rattle.lines.proofs.Digits.{line_long}
use Rattle.records.specs.Records.{body_length, whole}
use Rattle.records.proofs.Steps.{whole_known, whole_long}
use Rattle.effects.specs.Effects.{outcome}
use Rattle.effects.proofs.Effects.{shown_byte, shown_none}
use Rattle.session.specs.Runs.{line_of, play, longest_session, longest_print}
use Rattle.session.proofs.Plays.{play_done, play_broken}

-- 05 has a body of one byte
show_wide : body_length 5 ≡ 1
unfolding body_length
show_wide = refl

-- its line has eight bytes, and that of every other kind five
show_long : (kind : ℕ) (body : List ℕ) (after : Answer) → kind ≡ 5 → length (line_of kind body after) ≡ 8
unfolding added_byte hex
show_long kind body after e = line_long kind _ _ ∙ ap (λ l. 5 + length l) (shown_byte kind _ body e)

other_long : (kind : ℕ) (body : List ℕ) (after : Answer) → (kind ≡ 5 → ⊥)
    → length (line_of kind body after) ≡ 5
other_long kind body after n = line_long kind _ _ ∙ ap (λ l. 5 + length l) (shown_none kind _ body n)

-- every kind but 05 has a body of two bytes at least
wide : (kind : ℕ) → 0 < body_length kind → (kind ≡ 5 → ⊥) → 2 ≤ body_length kind
unfolding body_length
wide zero l five = absurd (omega arith)
wide (suc zero) l five = omega arith
wide (suc (suc zero)) l five = omega arith
wide (suc (suc (suc zero))) l five = omega arith
wide (suc (suc (suc (suc zero)))) l five = omega arith
wide (suc (suc (suc (suc (suc zero))))) l five = absurd (five refl)
wide (suc (suc (suc (suc (suc (suc n)))))) l five = absurd (omega arith)

-- the most that so many bytes print: eight bytes for two, and five for one that is left over
abbrev most : ℕ → ℕ
most n = 8 * (n / 2) + 5 * (n % 2)

-- a record, its line, and what is left behind its body
module _ (s : State) (kind : ℕ) (left : List ℕ) (w : whole kind left ≡ true) where
  abbrev body : List ℕ
  body = take (body_length kind) left

  abbrev text : List ℕ
  text = line_of kind body (outcome s kind body)

  by_kind : Dec (kind ≡ 5) → length text + most (length left - body_length kind) ≤ most (suc (length left))
  by_kind (yes e) =
      let n : body_length kind ≡ 1 = ap body_length e ∙ show_wide in
      let l = whole_long kind left w in
      let t : length text ≡ 8 = show_long kind body (outcome s kind body) e in
      omega arith
  by_kind (no f) =
      let n = wide kind (whole_known kind left w) f in
      let l = whole_long kind left w in
      let t : length text ≡ 5 = other_long kind body (outcome s kind body) f in
      omega arith

  turn : length text + most (length left - body_length kind) ≤ most (suc (length left))
  turn = by_kind (ℕ_discrete kind 5)

record_fits : (s : State) (kind : ℕ) (left : List ℕ)
    → (let body = take (body_length kind) left in
    length (play (outcome s kind body).state (body_length kind) left).printed
    ≤ most (length left - body_length kind))
    → (b : Bool) → whole kind left ≡ b → length (play s 0 (kind ∷ left)).printed ≤ most (suc (length left))
record_fits s kind left rest true w =
    let body = take (body_length kind) left in
    let after = outcome s kind body in
    let p = play after.state (body_length kind) left in
    rw (play_done s kind left w, length-append (line_of kind body after) p.printed)
    (let t = turn s kind left w in omega arith)
record_fits s kind left rest false w =
    rw (play_broken s kind left w) (let t = line_long kind 1 [] in omega arith)

print_fits : (s : State) (read : ℕ) (session : List ℕ)
    → length (play s read session).printed ≤ most (length session - read)
unfolding play
print_fits s read [] = omega arith
print_fits s (suc read) (byte ∷ left) =
    let e : length (byte ∷ left) - suc read ≡ length left - read = omega arith in
    rw e (print_fits s read left)
print_fits s zero (kind ∷ left) =
    let z : length (kind ∷ left) - 0 ≡ suc (length left) = omega arith in
    rw z
    (record_fits s kind left
    (print_fits (outcome s kind (take (body_length kind) left)).state (body_length kind) left)
    (whole kind left) refl)

-- a session that is not too long
pub session_fits : (s : State) (session : List ℕ) → length session ≤ longest_session
    → length (play s 0 session).printed ≤ longest_print
session_fits s session l = let f = print_fits s 0 session in omega arith
