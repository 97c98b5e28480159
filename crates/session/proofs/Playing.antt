-- A session as it is run: what is left of it gives the whole.
-- Assumes nothing.
use mathlib.Core.Path.{◌≡◌, sym, ap, ◌∙◌}
use mathlib.Core.List.{List, [], ◌∷◌, ◌++◌}
use Prim.Native.Nat.{ℕ, ◌+◌, ◌-◌, ◌<◌, ◌≤◌}
use native.Mathlib.Numerals.{add-one}
use native.Mathlib.Omega.{arith}
use borrow.Rule.Slice.PartMut.{put_mid, mid_of, mid_len}
use lib.ListN.{length, get_or, take, drop, length-append, length-take, length-drop, drop_of_length-le}
use lib.Seq.{sets, sets-eq, length-sets, take_all, drop-cons, drop-drop}
use Rattle.std.proofs.Common.{append_assoc}
use Rattle.std.proofs.lemmas.List.{append-nil}
use Rattle.bits.proofs.Stores.{sets_append, sets_front}
use Rattle.reply.specs.Reply.{wrong_length}
use Rattle.bus.specs.declared.state.State.{State}
use Rattle.lines.specs.Lines.{line}
use Rattle.records.specs.Records.{body_length}
use Rattle.records.proofs.Steps.{RecordTells, BrokenTells, whole_known}
use Rattle.effects.specs.Effects.{outcome}
use Rattle.effects.specs.Parts.{Body}
use Rattle.session.specs.Runs.{line_of, printing, play}
use Rattle.session.proofs.Plays.{play_done, play_broken, play_read}

-- what is left of a session from a place on
abbrev left : State → List ℕ → ℕ → List ℕ
left s session at = (play s 0 (drop at session)).printed

-- behind the end nothing is left
nothing_left : (s : State) (session : List ℕ) (at : ℕ) → length session ≤ at
    → play s 0 (drop at session) ≡ record { state = s; printed = [] }
unfolding play
nothing_left s session at l = rw (drop_of_length-le session l)

-- while the record at a place is next: the state, the buffer and the count so far
pub record Playing (first : State) (session before : List ℕ) (s : State) (out : List ℕ) (at bytes : ℕ)
    : Type 0 where
  pub long : length out ≡ length before
  pub inside : at ≤ length session
  pub fits : length (play first 0 session).printed ≤ length before
  pub ends : (play s 0 (drop at session)).state ≡ (play first 0 session).state
  pub whole : sets out bytes (left s session at) ≡ sets before 0 (play first 0 session).printed
  pub count : bytes + length (left s session at) ≡ length (play first 0 session).printed

-- what is lent from a place on has room for a text that fits behind the place
pub part_room : (out text : List ℕ) (at : ℕ) → at + length text ≤ length out
    → length text ≤ length (mid_of at (length out - at) out)
part_room out text at l = let e = mid_len at (length out) out (omega arith) in omega arith

-- and a text at its front is stored at the place
pub part_stored : (out text : List ℕ) (at : ℕ) → at + length text ≤ length out
    → put_mid at (length out - at) out (sets (mid_of at (length out - at) out) 0 text) ≡ sets out at text
part_stored out text at l =
    let n : length (drop at out) ≤ length out - at = omega (arith, length-drop at out) in
    let f : length text ≤ length (drop at out) = omega (arith, length-drop at out) in
    rw (take_all (length out - at) (drop at out) n, sets_front text (drop at out) f)
    (rw (
      drop_of_length-le (drop at out) n,
      append-nil,
      drop-drop (length text) at out,
      ← append_assoc (take at out) text (drop (at + length text) out),
    )
    (sym (sets-eq text out at l)))

-- the kind byte at a place, and what is left behind it
from_place : (session : List ℕ) (at kind : ℕ) → at < length session → kind ≡ get_or session at 0
    → drop at session ≡ kind ∷ drop (at + 1) session
from_place session at kind l e = rw (add-one at, e) (drop-cons session at 0 l)

-- a record's body, as a part of the session
abbrev pub body_of : List ℕ → ℕ → ℕ → List ℕ
body_of session body next = take (next - body) (drop body session)

pub body_there : (session : List ℕ) (at kind body next : ℕ) → RecordTells session at kind body next
    → Body kind (body_of session body next)
body_there session at kind body next t =
    record {
      known = whole_known kind (drop body session) t.is_whole;
      long = rw (length-take (next - body) (drop body session), length-drop body session)
          (omega (arith, t.is_next, t.fits));
    }

module _ (first : State) (session before : List ℕ) (s : State) (out : List ℕ) (at bytes : ℕ)
    (p : Playing first session before s out at bytes) where
  -- all is done
  module _ (l : length session ≤ at) where
    rest_none : play s 0 (drop at session) ≡ record { state = s; printed = [] }
    rest_none = nothing_left s session at l

    pub all_state : s ≡ (play first 0 session).state
    all_state = sym (ap (λ r. r.state) rest_none) ∙ p.ends

    left_none : left s session at ≡ []
    left_none = ap (λ r. r.printed) rest_none

    pub all_printed : out ≡ sets before 0 (play first 0 session).printed
    all_printed = sym (ap (sets out bytes) left_none) ∙ p.whole

    pub all_count : bytes ≡ length (play first 0 session).printed
    all_count = let e = ap length left_none in let c = p.count in omega arith

  -- a whole record is next
  module _ (kind body next : ℕ) (t : RecordTells session at kind body next) (s' : State) (reply : ℕ)
      (o : record { state = s'; reply = reply } ≡ outcome s kind (body_of session body next)) where
    abbrev text : List ℕ
    text = line_of kind (body_of session body next) (record { state = s'; reply = reply })

    -- what is left behind the kind byte, and the body at its front
    abbrev behind : List ℕ
    behind = drop (at + 1) session

    body_is : take (body_length kind) behind ≡ body_of session body next
    body_is = let n : next - body ≡ body_length kind = omega (arith, t.is_next) in rw (n, t.is_body)

    done_is : outcome s kind (take (body_length kind) behind) ≡ record { state = s'; reply = reply }
    done_is = ap (outcome s kind) body_is ∙ sym o

    next_is : drop (body_length kind) behind ≡ drop next session
    next_is = rw (t.is_next, t.is_body) (drop-drop (body_length kind) (at + 1) session)

    rest_record : play s 0 (drop at session) ≡ printing text (play s' 0 (drop next session))
    rest_record =
        ap (play s 0) (from_place session at kind t.inside t.is_kind)
        ∙ (play_done s kind behind (rw t.is_body at t.is_whole)
        ∙ rw (done_is, body_is, ← next_is)
        (ap (printing text) (play_read s' (body_length kind) behind)))

    left_record : left s session at ≡ text ++ left s' session next
    left_record = ap (λ r. r.printed) rest_record

    more_count : bytes + length text + length (left s' session next) ≡ length (play first 0 session).printed
    more_count =
        let e = ap length left_record ∙ length-append text (left s' session next) in
        let c = p.count in
        omega arith

    pub text_fits : bytes + length text ≤ length out
    text_fits = omega (arith, more_count, p.long, p.fits)

    pub play_more : Playing first session before s' (sets out bytes text) next (bytes + length text)
    play_more =
        record {
          long = length-sets out bytes text ∙ p.long;
          inside = t.fits;
          fits = p.fits;
          ends = sym (ap (λ r. r.state) rest_record) ∙ p.ends;
          whole = sym (sets_append out bytes text (left s' session next))
              ∙ (sym (ap (sets out bytes) left_record) ∙ p.whole);
          count = more_count;
        }

  -- a broken record is next: it is the last
  module _ (kind : ℕ) (t : BrokenTells session at kind) where
    abbrev word : List ℕ
    word = line kind wrong_length []

    rest_broken : play s 0 (drop at session) ≡ record { state = s; printed = word }
    rest_broken =
        ap (play s 0) (from_place session at kind t.inside t.is_kind)
        ∙ play_broken s kind _ t.not_whole

    left_broken : left s session at ≡ word
    left_broken = ap (λ r. r.printed) rest_broken

    pub last_count : bytes + length word ≡ length (play first 0 session).printed
    last_count = let e = ap length left_broken in let c = p.count in omega arith

    pub word_fits : bytes + length word ≤ length out
    word_fits = omega (arith, last_count, p.long, p.fits)

    pub last_state : s ≡ (play first 0 session).state
    last_state = sym (ap (λ r. r.state) rest_broken) ∙ p.ends

    pub last_printed : sets out bytes word ≡ sets before 0 (play first 0 session).printed
    last_printed = sym (ap (sets out bytes) left_broken) ∙ p.whole
