-- What bus writes mean, from their definitions.
-- Assumes nothing.
use mathlib.Core.Path.{◌≡◌, refl, ◌∙◌}
use mathlib.Core.Bool.{Bool, true, false, cond}
use mathlib.Core.List.{List, ◌∷◌}
use Prim.Native.Nat.{ℕ, ◌<◌}
use native.Mathlib.Omega.{arith}
use borrow.Author.Tests.{ne_eqb}
use lib.Dec.{eqb}
use lib.ListN.{length, get_or, drop, length-replicate}
use Rattle.bits.specs.Run.{merge_run}
use Rattle.bits.proofs.Runs.{run_law, rule_long, masked, run_none, run_more}
use Rattle.chip.specs.Map.{masks}
use Rattle.transactions.specs.Writes.{write_reply}
use Rattle.transactions.proofs.Accepted.{accepted, registers_fit, registers_end_lem}
use Rattle.transactions.proofs.Accepted.{cursor_fits, colours_fit, cells_fit}
use Rattle.writers.proofs.Cells.{cells_mean, cells_long}
use Rattle.bus.specs.declared.state.State.{State}
use Rattle.bus.specs.Answers.{Answer}
use Rattle.bus.specs.States.{zero_state, known_chip, fresh_answer, stored, bus_write}
use Rattle.bus.specs.Meaning.{AnyWrite, RegisterWrite, CursorWrite, ColourWrite, Sized, WritesMean}

-- a readable byte, or any part that no target of a write has, is the same in each of the three states and in
-- the old one
kept : {A : Type 0} (part : State → A) (s a b d : State) (t u v : Bool) → part a ≡ part s → part b ≡ part s
    → part d ≡ part s
    → part (cond t (cond u a (cond v b d)) s) ≡ part s
kept part s a b d true true v ea eb ed = ea
kept part s a b d true false true ea eb ed = eb
kept part s a b d true false false ea eb ed = ed
kept part s a b d false u v ea eb ed = refl

any_write : (s : State) (t : List ℕ) → AnyWrite s t (bus_write s t).state
unfolding bus_write stored
any_write s t =
    record {
      refused = λ n. rw (ne_eqb (write_reply t) 0 n);
      status = kept (λ x. x.status) s _ _ _ (eqb (write_reply t) 0) (eqb (get_or t 1 0) 0xFE)
          (eqb (get_or t 1 0) 0xFF) refl refl refl;
      chip = kept (λ x. x.chip) s _ _ _ (eqb (write_reply t) 0) (eqb (get_or t 1 0) 0xFE)
          (eqb (get_or t 1 0) 0xFF) refl refl refl;
      fifo = kept (λ x. x.fifo) s _ _ _ (eqb (write_reply t) 0) (eqb (get_or t 1 0) 0xFE)
          (eqb (get_or t 1 0) 0xFF) refl refl refl;
    }

register_write : (s : State) (t : List ℕ) → Sized s → write_reply t ≡ 0 → get_or t 1 0 < 0xFE
    → RegisterWrite s (get_or t 1 0) (drop 2 t) (bus_write s t).state
unfolding bus_write stored
register_write s t z e l =
    let n : get_or t 1 0 ≡ 0xFE → ⊥ = λ h. omega arith in
    let m : get_or t 1 0 ≡ 0xFF → ⊥ = λ h. omega arith in
    let f = registers_end_lem (get_or t 1 0) (drop 2 t)
    (registers_fit (get_or t 1 0) (drop 2 t) (accepted t e).fits n m) in
    rw (e, ne_eqb (get_or t 1 0) 0xFE n, ne_eqb (get_or t 1 0) 0xFF m)
    (record { run = run_law masks s.file (get_or t 1 0) (drop 2 t) (omega (arith, z.file)); rest = refl })

cursor_write : (s : State) (start : ℕ) (bytes : List ℕ) → Sized s → write_reply (0x88 ∷ 0xFE ∷ start ∷ bytes)
    ≡ 0
    → CursorWrite s start bytes (bus_write s (0x88 ∷ 0xFE ∷ start ∷ bytes)).state
unfolding bus_write stored
cursor_write s start bytes z e =
    let t : List ℕ = 0x88 ∷ 0xFE ∷ start ∷ bytes in
    let f = cells_fit 1 s.cursor (start ∷ bytes) (omega arith) z.cursor
    (cursor_fits 0xFE (start ∷ bytes) (accepted t e).fits refl) (omega arith) in
    rw e (record { cells = cells_mean 1 s.cursor start bytes (omega arith); rest = refl })

colour_write : (s : State) (start : ℕ) (bytes : List ℕ) → Sized s → write_reply (0x88 ∷ 0xFF ∷ start ∷ bytes)
    ≡ 0
    → ColourWrite s start bytes (bus_write s (0x88 ∷ 0xFF ∷ start ∷ bytes)).state
unfolding bus_write stored
colour_write s start bytes z e =
    let t : List ℕ = 0x88 ∷ 0xFF ∷ start ∷ bytes in
    let f = cells_fit 3 s.colours (start ∷ bytes) (omega arith) z.colours
    (colours_fit 0xFF (start ∷ bytes) (accepted t e).fits (λ h. omega arith) refl) (omega arith) in
    rw e (record { cells = cells_mean 3 s.colours start bytes (omega arith); rest = refl })

-- ---- lengths

sized_zeros : (chip : ℕ) → Sized (zero_state chip)
unfolding zero_state
sized_zeros chip =
    record {
      file = length-replicate {A = ℕ} 256 0;
      colours = length-replicate {A = ℕ} 768 0;
      cursor = length-replicate {A = ℕ} 256 0;
    }

sized_fresh : (t : Bool) (a b : Answer) → Sized a.state → Sized b.state → Sized (cond t a b).state
sized_fresh true a b sa sb = sa
sized_fresh false a b sa sb = sb

fresh_sized : (chip : ℕ) → Sized (fresh_answer chip).state
unfolding fresh_answer
fresh_sized chip = sized_fresh (known_chip chip) _ _ (sized_zeros chip) (sized_zeros 0)

write_sized : (s : State) (t : List ℕ) → Sized s → Sized (bus_write s t).state
unfolding bus_write stored
write_sized s t z =
    let r = eqb (write_reply t) 0 in
    let u = eqb (get_or t 1 0) 0xFE in
    let v = eqb (get_or t 1 0) 0xFF in
    let long = rule_long (merge_run masks) (masked masks) (run_none masks) (run_more masks) in
    record {
      file = kept (λ x. length x.file) s _ _ _ r u v refl refl
          (long s.file (get_or t 1 0) (drop 2 t)) ∙ z.file;
      colours = kept (λ x. length x.colours) s _ _ _ r u v refl
          (cells_long 3 s.colours (drop 2 t)) refl ∙ z.colours;
      cursor = kept (λ x. length x.cursor) s _ _ _ r u v
          (cells_long 1 s.cursor (drop 2 t)) refl refl ∙ z.cursor;
    }

pub writes_mean : WritesMean
writes_mean =
    record {
      fresh = fresh_sized;
      sized = write_sized;
      any = any_write;
      registers = register_write;
      cursor = cursor_write;
      colours = colour_write;
    }
