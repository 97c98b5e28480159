-- A run that is open: what is known of it while it is found, place after place.
-- Assumes nothing.
use mathlib.Core.Path.{◌≡◌, sym, ◌∙◌}
use mathlib.Core.Bool.{true, false, true≢false}
use mathlib.Core.List.{List, [], ◌∷◌}
use mathlib.Core.Logic.{⊎_elim}
use Prim.Native.Nat.{ℕ, suc, ◌+◌, ◌-◌, ◌<◌, ◌≤◌}
use native.Mathlib.Nat.{eq-or-lt_of_le}
use native.Mathlib.Numerals.{add-one}
use native.Mathlib.Omega.{arith}
use lib.ListN.{get_or}
use Rattle.bits.proofs.Tests.{le_or_lt}
use Rattle.bursts.specs.Runs.{run, changed, bridged, joined, with_place, runs_from}
use Rattle.bursts.specs.Stuck.{some_from}
use Rattle.bursts.proofs.Bridges.{bridged_here}
use Rattle.chip.specs.File.{registers_end, caption}
use Rattle.changes.specs.Places.{NextChange}
use Rattle.runs.specs.Found.{runs_at, stuck_at, RunFound}
use Rattle.runs.proofs.Behind.{fixed_behind}
use Rattle.runs.proofs.Joining.{join_near, join_far, runs_step, runs_pass}
use Rattle.runs.proofs.Stuck.{free_at}

pub record Open (from to : List ℕ) (start end next : ℕ) : Type 0 where
  pub runs : joined caption (run start end) (runs_at from to next) ≡ runs_at from to start
  pub more : start < end
  pub behind : NextChange from to end next
  pub low : end ≤ registers_end

module _ (from to : List ℕ) (p : ℕ) (l : 256 ≤ p) where
  -- no run and no stuck place is left at the end of the file
  pub no_runs : runs_at from to p ≡ []
  unfolding runs_at runs_from
  no_runs = let z : 256 - p ≡ 0 = omega arith in rw z

  pub none_stuck : stuck_at from to p ≡ false
  unfolding stuck_at some_from
  none_stuck = let z : 256 - p ≡ 0 = omega arith in rw z

module _ (from to : List ℕ) (lf : (i : ℕ) → get_or from i 0 < 256) (lt : (i : ℕ) → get_or to i 0 < 256)
    (free : stuck_at from to 0 ≡ false) where
  -- the runs from a changed place on, with the next changed place behind it
  runs_change : (p n : ℕ) → p < 256 → changed from to p ≡ true → NextChange from to (p + 1) n
      → runs_at from to p ≡ joined caption (run p (suc p)) (runs_at from to n)
  unfolding with_place
  runs_change p n l e b =
      runs_step from to p l ∙ rw (e, ← add-one p, runs_pass from to (p + 1) n b.passed)

  low_change : (p : ℕ) → p < 256 → changed from to p ≡ true → p + 1 ≤ registers_end
  low_change p m e =
      ⊎_elim (λ l. absurd (true≢false
      (sym (fixed_behind from to p (lf p) (lt p) l e) ∙ free_at from to free p m)))
      (λ l. omega arith)
      (le_or_lt registers_end p)

  pub open_first : (p n : ℕ) → p < 256 → changed from to p ≡ true → NextChange from to (p + 1) n
      → Open from to p (p + 1) n
  open_first p n l e b =
      record {
        runs = rw (add-one p) (sym (runs_change p n l e b));
        more = omega arith;
        behind = b;
        low = low_change p l e;
      }

  pub open_more : (s e p n : ℕ) → Open from to s e p → p < 256 → bridged caption e p ≡ true
      → NextChange from to (p + 1) n → Open from to s (p + 1) n
  open_more s e p n o l h b =
      let d = o.behind.differs l in
      record {
        runs = rw (add-one p) (sym (join_near caption s e p (runs_at from to n) h)
            ∙ rw (← runs_change p n l d b) o.runs);
        more = omega (arith, o.more, o.behind.passed.above);
        behind = b;
        low = low_change p l d;
      }

  -- it is closed where the file ends, or before a gap that is not bridged
  closed_runs : (s e p : ℕ) → (p < 256 → changed from to p ≡ true) → (p < 256 → bridged caption e p ≡ false)
      → joined caption (run s e) (runs_at from to p) ≡ run s e ∷ runs_at from to p
  unfolding joined with_place
  closed_runs s e p d h =
      ⊎_elim (λ l. rw (no_runs from to p l))
      (λ l. rw (runs_step from to p l, d l) (join_far caption s e p (runs_at from to (suc p)) (h l)))
      (le_or_lt 256 p)

  closed_gap : (e p : ℕ) → e ≤ p → bridged caption e p ≡ false → e < p
  closed_gap e p l h =
      ⊎_elim (λ z. absurd (true≢false (sym (bridged_here caption e) ∙ rw (← z) at h))) (λ m. m)
      (eq-or-lt_of_le l)

  pub closed : (s e p : ℕ) → Open from to s e p → (p < 256 → bridged caption e p ≡ false)
      → RunFound from to s (record { end = e; next = p })
  closed s e p o h =
      let b = o.behind in
      record {
        runs = sym o.runs ∙ closed_runs s e p b.differs h;
        more = o.more;
        gap = λ l. closed_gap e p b.passed.above (h l);
        inside = b.passed.inside;
        differs = b.differs;
        low = o.low;
      }
