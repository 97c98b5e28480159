-- Runs of bytes into a file: a law for any rule that gives the first byte to its place and then does the rest
-- from the next place on, and the run under a table of masks.
-- Assumes nothing.
use mathlib.Core.Path.{◌≡◌, refl, ◌∙◌, ap}
use mathlib.Core.Bool.{false}
use mathlib.Core.List.{List, [], ◌∷◌}
use mathlib.Core.Logic.{◌⊎◌, inl, inr, ⊎_elim}
use Prim.Native.Nat.{ℕ, zero, suc, ◌+◌, ◌-◌, ◌<◌, ◌≤◌}
use native.Mathlib.Nat.{add-zero, add-suc, not-suc-le-zero, le_of_suc-le-suc}
use native.Mathlib.Numerals.{add-one}
use native.Mathlib.Decide.{dec_lt}
use native.Mathlib.Omega.{arith}
use lib.ListN.{length, get_or, set, drop, length-set, drop_of_length-le}
use lib.Seq.{drop-cons, get_or-set_same, get_or-set_other}
use Rattle.bits.specs.Bit.{bit, has}
use Rattle.bits.specs.Merge.{merge}
use Rattle.bits.specs.Run.{merge_run, RunMeans, RunLaw}
use Rattle.bits.proofs.Merging.{merge_means}

-- ---- any rule; `put` is what a place takes, by the place, its old byte and the new one

module _ (rule : List ℕ → ℕ → List ℕ → List ℕ) (put : ℕ → ℕ → ℕ → ℕ)
    (none : (file : List ℕ) (at : ℕ) → rule file at [] ≡ file)
    (more : (file : List ℕ) (at b : ℕ) (bytes : List ℕ) → rule file at (b ∷ bytes)
    ≡ rule (set file at (put at (get_or file at 0) b)) (suc at) bytes) where
  -- a loop that stores a byte a turn: what is left gives the whole
  pub turn_next : (file : List ℕ) (at : ℕ) (bytes : List ℕ) (i : ℕ) → i < length bytes
      → rule (set file (at + i) (put (at + i) (get_or file (at + i) 0) (get_or bytes i 0))) (at + (i + 1))
      (drop (i + 1) bytes)
      ≡ rule file (at + i) (drop i bytes)
  turn_next file at bytes i l =
      rw (
        add-one i,
        add-suc at i,
        drop-cons bytes i 0 l,
        more file (at + i) (get_or bytes i 0) (drop (suc i) bytes),
      )

  pub turn_last : (file : List ℕ) (at : ℕ) (bytes : List ℕ) (i : ℕ) → length bytes ≤ i → file
      ≡ rule file (at + i) (drop i bytes)
  turn_last file at bytes i l = rw (drop_of_length-le bytes l, none file (at + i))

  -- the length stays, a place outside the run stays, and a place of the run takes its byte
  pub rule_long : (file : List ℕ) (at : ℕ) (bytes : List ℕ) → length (rule file at bytes) ≡ length file
  rule_long file at [] = rw (none file at)
  rule_long file at (b ∷ bytes) =
      rw (more file at b bytes) (rule_long (set file at (put at (get_or file at 0) b)) (suc at) bytes ∙ length-set file at _)

  pub rule_outside : (file : List ℕ) (at : ℕ) (bytes : List ℕ) (p : ℕ) → (p < at) ⊎ (at + length bytes ≤ p)
      → get_or (rule file at bytes) p 0 ≡ get_or file p 0
  rule_outside file at [] p h = rw (none file at)
  rule_outside file at (b ∷ bytes) p h =
      rw (more file at b bytes)
      (rule_outside (set file at (put at (get_or file at 0) b)) (suc at) bytes p (⊎_elim (λ l. inl (omega arith)) (λ l. inr (omega arith)) h)
      ∙ get_or-set_other file at p _ 0 (⊎_elim (λ l. omega arith) (λ l. omega arith) h))

  pub rule_inside : (file : List ℕ) (at : ℕ) (bytes : List ℕ) → at + length bytes ≤ length file → (i : ℕ)
      → i < length bytes
      → get_or (rule file at bytes) (at + i) 0 ≡ put (at + i) (get_or file (at + i) 0) (get_or bytes i 0)
  rule_inside file at [] f i l = absurd (not-suc-le-zero l)
  rule_inside file at (b ∷ bytes) f zero l =
      rw (more file at b bytes, add-zero at)
      (rule_outside (set file at (put at (get_or file at 0) b)) (suc at) bytes at (inl (omega arith)) ∙ get_or-set_same file at _ 0 (omega arith))
  rule_inside file at (b ∷ bytes) f (suc i) l =
      let file' = set file at (put at (get_or file at 0) b) in
      let e : at + suc i ≡ suc at + i = omega arith in
      let fits : suc at + length bytes ≤ length file' = rw length-set (omega arith) in
      rw (more file at b bytes, e)
      (rule_inside file' (suc at) bytes fits i (le_of_suc-le-suc l)
      ∙ ap (λ (x : ℕ). put (suc at + i) x (get_or bytes i 0))
      (get_or-set_other file at (suc at + i) _ 0 (omega arith)))

-- ---- the run under masks

-- what a place takes
abbrev pub masked : List ℕ → ℕ → ℕ → ℕ → ℕ
masked masks p old b = merge (get_or masks p 0) old b

pub run_none : (masks file : List ℕ) (at : ℕ) → merge_run masks file at [] ≡ file
unfolding merge_run
run_none masks file at = refl

pub run_more : (masks file : List ℕ) (at b : ℕ) (bytes : List ℕ)
    → merge_run masks file at (b ∷ bytes)
    ≡ merge_run masks (set file at (masked masks at (get_or file at 0) b)) (suc at) bytes
unfolding merge_run
run_more masks file at b bytes = refl

-- a run of one byte sets its place
pub run_one : (masks file : List ℕ) (at : ℕ) (bytes : List ℕ) → length bytes ≡ 1
    → merge_run masks file at bytes ≡ set file at (masked masks at (get_or file at 0) (get_or bytes 0 0))
unfolding merge_run
run_one masks file at [] e = absurd (omega arith)
run_one masks file at (b ∷ []) e = refl
run_one masks file at (b ∷ c ∷ bytes) e = absurd (omega arith)

-- a place is outside a run, or it is one of its places
place_cases : (p at n : ℕ) → ((p < at) ⊎ (at + n ≤ p)) ⊎ ((i : ℕ) × (i < n) × (p ≡ at + i))
place_cases p at n = before (dec_lt p at)
  where
    behind : (p < at → ⊥) → Dec (p < at + n) → ((p < at) ⊎ (at + n ≤ p)) ⊎ ((i : ℕ) × (i < n) × (p ≡ at + i))
    behind l (yes k) = inr (p - at, omega arith, omega arith)
    behind l (no k) = inl (inr (omega arith))

    before : Dec (p < at) → ((p < at) ⊎ (at + n ≤ p)) ⊎ ((i : ℕ) × (i < n) × (p ≡ at + i))
    before (yes l) = inl (inl l)
    before (no l) = behind l (dec_lt p (at + n))

module _ (masks file : List ℕ) (at : ℕ) (bytes : List ℕ) (fits : at + length bytes ≤ length file) where
  run_outside : (p : ℕ) → (p < at) ⊎ (at + length bytes ≤ p) → get_or (merge_run masks file at bytes) p 0
      ≡ get_or file p 0
  run_outside = rule_outside (merge_run masks) (masked masks) (run_none masks) (run_more masks) file at bytes

  run_inside : (i : ℕ) → i < length bytes
      → get_or (merge_run masks file at bytes) (at + i) 0
      ≡ merge (get_or masks (at + i) 0) (get_or file (at + i) 0) (get_or bytes i 0)
  run_inside = rule_inside (merge_run masks) (masked masks) (run_none masks)
      (run_more masks) file at bytes fits

  run_unnamed : (p j : ℕ) → j < 8 → has (get_or masks p 0) j ≡ false
      → bit (get_or (merge_run masks file at bytes) p 0) j ≡ bit (get_or file p 0) j
  run_unnamed p j l h =
      ⊎_elim (λ o. ap (λ (x : ℕ). bit x j) (run_outside p o)) (λ w. within w)
      (place_cases p at (length bytes))
    where
      within : (i : ℕ) × (i < length bytes) × (p ≡ at + i) → bit (get_or (merge_run masks file at bytes) p 0) j
          ≡ bit (get_or file p 0) j
      within w =
          let e = w.2 in
          let h' : has (get_or masks (at + w.0) 0) j ≡ false = rw e at h in
          rw (e, run_inside w.0 w.1) ((merge_means _ _ _).kept j l h')

  run_means : RunMeans masks file at bytes (merge_run masks file at bytes)
  run_means =
      record {
        long = rule_long (merge_run masks) (masked masks) (run_none masks) (run_more masks) file at bytes;
        inside = run_inside;
        outside = run_outside;
        named = λ i j li lj h. rw (run_inside i li) ((merge_means _ _ _).taken j lj h);
        unnamed = run_unnamed;
      }

pub run_law : RunLaw
run_law = run_means
