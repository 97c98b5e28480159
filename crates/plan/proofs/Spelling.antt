-- The list in the buffer, as it is written: what is left of the headings gives the whole.
-- Assumes nothing.
use mathlib.Core.Path.{◌≡◌, sym, ◌∙◌}
use mathlib.Core.List.{List, ◌∷◌}
use Prim.Native.Nat.{ℕ, suc, ◌+◌, ◌<◌, ◌≤◌}
use native.Mathlib.Numerals.{add-one}
use native.Mathlib.Omega.{arith}
use lib.ListN.{length, get_or, set, take, drop}
use lib.ListN.{length-append, length-take, length-drop, length-set, drop_of_length-le}
use lib.Seq.{sets, length-sets, drop-cons}
use Rattle.bits.proofs.Stores.{sets_append}
use Rattle.runs.specs.Found.{heading_bytes}
use Rattle.runs.specs.declared.find.Heading.{Heading}
use Rattle.plan.specs.Spelled.{spelled, HeadsFit}

-- the data of a heading that lies in the file
data_long : (to : List ℕ) (s n : ℕ) → s + n ≤ length to → length (take n (drop s to)) ≡ n
data_long to s n l = rw (length-take n (drop s to), length-drop s to) (omega arith)

-- while the k-th of the headings is next: the buffer so far, and the place for it
pub record Writing (to : List ℕ) (hs : List Heading) (before out : List ℕ) (at k : ℕ) : Type 0 where
  pub long : length out ≡ length before
  pub room : at + length (spelled to (heading_bytes (drop k hs))) ≤ length before
  pub fit : HeadsFit to (heading_bytes (drop k hs))
  pub whole : sets out at (spelled to (heading_bytes (drop k hs))) ≡ sets before 0 (spelled to (heading_bytes hs))

-- where there is no heading, one that has no bytes stands for it
abbrev blank : Heading
blank = record { start = 0; count = 0 }

module _ (to : List ℕ) (hs : List Heading) (before out : List ℕ) (at k : ℕ) (w : Writing to hs before out at k) where
  pub write_all : length hs ≤ k → out ≡ sets before 0 (spelled to (heading_bytes hs))
  unfolding spelled heading_bytes
  write_all l = rw (drop_of_length-le hs l) at w.whole

  module _ (l : k < length hs) where
    abbrev start : ℕ
    start = (get_or hs k blank).start

    abbrev count : ℕ
    count = (get_or hs k blank).count

    next_two : heading_bytes (drop k hs) ≡ start ∷ count ∷ heading_bytes (drop (k + 1) hs)
    unfolding heading_bytes
    next_two = rw (add-one k, drop-cons hs k blank l)

    pub fits_file : start + count ≤ length to
    unfolding HeadsFit
    fits_file = let f = rw next_two at w.fit in f.0

    -- the heading, its data, and what is left of the headings
    turn_room : at + (2 + count) + length (spelled to (heading_bytes (drop (k + 1) hs))) ≤ length before
    unfolding spelled
    turn_room =
        let d = take count (drop start to) in
        let r = rw next_two at w.room in
        omega (
          arith,
          data_long to start count fits_file,
          length-append d (spelled to (heading_bytes (drop (k + 1) hs))),
        )

    pub fits_out : at + (2 + count) ≤ length out
    fits_out = let r = turn_room in let e = w.long in omega arith

    -- what a turn stores
    abbrev turn : List ℕ
    turn = sets (set (set out at start) (at + 1) count) (at + 2) (take count (drop start to))

    pub write_more : Writing to hs before turn (at + (2 + count)) (k + 1)
    unfolding spelled HeadsFit
    write_more =
        let d = take count (drop start to) in
        let rest = spelled to (heading_bytes (drop (k + 1) hs)) in
        let e : at + (2 + count) ≡ suc (suc at) + length d =
        omega (arith, data_long to start count fits_file) in
        let two : at + 2 ≡ suc (suc at) = omega arith in
        record {
          long = simp (length-sets, length-set) w.long;
          room = turn_room;
          fit = let f = rw next_two at w.fit in f.1;
          whole = rw (e, two, add-one at)
              (sym (sets_append (set (set out at start) (suc at) count) (suc (suc at)) d rest)
              ∙ (rw next_two at w.whole));
        }
