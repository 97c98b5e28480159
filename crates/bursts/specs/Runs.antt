-- Document 01, "The list of writes": our list. Changed places are written in runs, and a run goes on over a
-- gap of at most two unchanged places.
-- Assumes nothing.
use Rattle.std.specs.Prelude.{Bool, true, false, cond, not, ◌&&◌, List, [], ◌∷◌, map, ℕ, zero, suc, ◌+◌, ◌-◌, eqb, leb, length, get_or, take, drop}
use Rattle.bursts.specs.Burst.{Burst}

-- a run of places, from its start up to, not including, its end
pub record Run : Type 0 where
  pub start : ℕ
  pub end : ℕ

abbrev pub run : ℕ → ℕ → Run
run start end = record { start = start; end = end }

-- a place is changed where the files differ
unfoldable pub changed : List ℕ → List ℕ → ℕ → Bool
changed from to p = not (eqb (get_or from p 0) (get_or to p 0))

-- none of n places from p on is barred
unfoldable pub clear : (ℕ → Bool) → ℕ → ℕ → Bool
clear barred p zero = true
clear barred p (suc n) = not (barred p) && clear barred (suc p) n

-- A run goes on over so many unchanged places. One place is a byte less than a heading. Two are as many
-- bytes, and save a burst. Three would be a byte more.
abbrev pub bridge : ℕ
bridge = 2

-- a run that ends at e goes on at the place p, over the places between, which must not be barred
unfoldable pub bridged : (ℕ → Bool) → ℕ → ℕ → Bool
bridged barred e p = leb p (e + bridge) && clear barred e (p - e)

-- a run in front of others: it joins the first of them, or stands by itself
unfoldable pub joined : (ℕ → Bool) → Run → List Run → List Run
joined barred r [] = r ∷ []
joined barred r (s ∷ rs) =
    cond (bridged barred r.end s.start) (run r.start s.end ∷ rs) (r ∷ s ∷ rs)

-- a place in front of the runs behind it: an unchanged one leaves them, a changed one is a run of one place
unfoldable pub with_place : (ℕ → Bool) → Bool → ℕ → List Run → List Run
with_place barred false p rs = rs
with_place barred true p rs = joined barred (run p (suc p)) rs

-- the runs of n places from p on
unfoldable pub runs_from : (ℕ → Bool) → (ℕ → Bool) → ℕ → ℕ → List Run
runs_from changes barred p zero = []
runs_from changes barred p (suc n) = with_place barred (changes p) p (runs_from changes barred (suc p) n)

-- the burst of a run: each data byte is the wanted file's whole byte
unfoldable pub burst_of : List ℕ → Run → Burst
burst_of to r = record { place = r.start; bytes = take (r.end - r.start) (drop r.start to) }

-- our list, between two files
unfoldable pub bursts_for : (ℕ → Bool) → List ℕ → List ℕ → List Burst
bursts_for barred from to = map (burst_of to) (runs_from (changed from to) barred 0 (length from))
