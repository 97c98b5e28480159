-- How long a list can be: two bursts write every place that may be written.
-- Assumes nothing.
use mathlib.Core.Path.{◌≡◌, sym, ◌∙◌}
use mathlib.Core.Bool.{true, false, true≢false}
use mathlib.Core.List.{List, [], ◌∷◌}
use mathlib.Core.Logic.{inl, inr, ⊎_elim}
use Prim.Native.Nat.{ℕ, ◌<◌, ◌≤◌}
use native.Mathlib.Omega.{arith}
use borrow.Author.Tests.{le-leb, lt-leb}
use lib.ListN.{length}
use Rattle.bits.proofs.Tests.{le_or_lt}
use Rattle.bursts.specs.Burst.{Burst, bus_bytes}
use Rattle.bursts.specs.Runs.{Run, run}
use Rattle.bursts.specs.Shortest.{Files}
use Rattle.bursts.specs.Stuck.{Stuck}
use Rattle.bursts.proofs.Bridges.{Free}
use Rattle.bursts.proofs.Covering.{weight}
use Rattle.bursts.proofs.Holding.{Within, Fair}
use Rattle.bursts.proofs.Shortest.{cover_heavier}
use Rattle.bursts.proofs.Unstuck.{changed_free, changed_below}
use Rattle.chip.specs.File.{caption, registers_end}
use Rattle.chip.specs.Map.{masks}
use Rattle.plan.specs.Plan.{list_for, longest_list}

-- every place before the caption bytes, and every one behind them
two : List Run
two = run 0 0x67 ∷ run 0x6B 0xFE ∷ []

before_free : Free caption 0 0x67
unfolding caption
before_free i l k = rw (lt-leb 0x67 i k)

behind_free : Free caption 0x6B 0xFE
unfolding caption
behind_free i l k = rw (le-leb 0x67 i (omega arith), lt-leb i 0x6A l)

two_fair : (limit : ℕ) → 256 ≤ limit → Fair caption limit two
unfolding two Fair
two_fair limit h = (
  record { some = omega arith; inside = omega arith; free = before_free },
  (record { some = omega arith; inside = omega arith; free = behind_free }, tt),
)

caption_between : (q : ℕ) → 0x67 ≤ q → q < 0x6B → caption q ≡ true
unfolding caption
caption_between q l k = rw (le-leb 0x67 q l, le-leb q 0x6A (omega arith))

two_hold : (q : ℕ) → q < 0xFE → caption q ≡ false → Within q two
unfolding two Within
two_hold q h f =
    ⊎_elim
    (λ l. ⊎_elim (λ m. inr (inl (m, h))) (λ m. absurd (true≢false (sym (caption_between q l m) ∙ f)))
    (le_or_lt 0x6B q))
    (λ m. inl (omega arith, m)) (le_or_lt 0x67 q)

module _ (from to : List ℕ) (files : Files masks registers_end from to)
    (unstuck : Stuck masks caption from to → ⊥) where
  pub list_small : 256 ≤ length from → bus_bytes (list_for from to) ≤ longest_list
  unfolding two weight
  list_small l =
      cover_heavier masks caption registers_end from to files unstuck two (two_fair (length from) l)
      (λ q t. two_hold q (changed_below masks caption registers_end from to files unstuck q t)
      (changed_free masks caption registers_end from to files unstuck q t))

-- a burst has more than one byte
pub bursts_fewer : (bs : List Burst) → length bs ≤ bus_bytes bs
unfolding bus_bytes
bursts_fewer [] = omega arith
bursts_fewer (b ∷ bs) = let f = bursts_fewer bs in omega arith
