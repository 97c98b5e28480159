-- The runs of changed places, a place at a time, and what it means that a run goes on over a gap.
-- Assumes nothing.
use mathlib.Core.Path.{◌≡◌, refl}
use mathlib.Core.Bool.{Bool, true, false, not, and-eq-true_iff}
use mathlib.Core.List.{List, [], ◌∷◌}
use mathlib.Core.Logic.{◌⊎◌, inl, inr, ⊎_elim}
use Prim.Native.Nat.{ℕ, zero, suc, ◌+◌, ◌-◌, ◌<◌, ◌≤◌}
use native.Mathlib.Nat.{eq-or-lt_of_le}
use native.Mathlib.Omega.{arith}
use lib.Dec.{leb}
use borrow.Author.Tests.{leb-true, le-leb, not-true}
use Rattle.bits.proofs.Tests.{le_or_lt}
use Rattle.bursts.specs.Runs.{Run, run, clear, bridge, bridged, joined, with_place, runs_from}

-- a Bool is true or false
pub either : (b : Bool) → (b ≡ true) ⊎ (b ≡ false)
either true = inl refl
either false = inr refl

-- no place from s up to e is barred
abbrev pub Free : (ℕ → Bool) → ℕ → ℕ → Type 0
Free barred s e = (i : ℕ) → s ≤ i → i < e → barred i ≡ false

module _ (barred : ℕ → Bool) where
  pub free_none : (p : ℕ) → Free barred p p
  free_none p i l k = absurd (omega arith)

  pub free_more : (p e : ℕ) → barred p ≡ false → Free barred (suc p) e → Free barred p e
  free_more p e f g i l k = ⊎_elim (λ q. rw (← q) f) (λ m. g i m k) (eq-or-lt_of_le l)

  pub free_join : (p m e : ℕ) → Free barred p m → Free barred m e → Free barred p e
  free_join p m e f g i l k = ⊎_elim (λ n. g i n k) (λ n. f i l n) (le_or_lt m i)

  clear_free : (p n : ℕ) → clear barred p n ≡ true → Free barred p (p + n)
  unfolding clear
  clear_free p zero t i l k = absurd (omega arith)
  clear_free p (suc n) t i l k =
      let b = (and-eq-true_iff (not (barred p)) (clear barred (suc p) n)).0 t in
      free_more p (suc p + n) (not-true (barred p) b.0) (clear_free (suc p) n b.1) i l (omega arith)

  free_clear : (p n : ℕ) → Free barred p (p + n) → clear barred p n ≡ true
  unfolding clear
  free_clear p zero f = refl
  free_clear p (suc n) f =
      rw (f p (omega arith) (omega arith), free_clear (suc p) n (λ i l k. f i (omega arith) (omega arith)))

  -- a run that ends at e goes on at p: p is near, and no place between is barred
  pub bridged_near : (e p : ℕ) → bridged barred e p ≡ true → p ≤ e + bridge
  unfolding bridged
  bridged_near e p t = leb-true p (e + bridge) ((and-eq-true_iff (leb p (e + bridge)) _).0 t).0

  pub bridged_free : (e p : ℕ) → bridged barred e p ≡ true → Free barred e p
  unfolding bridged
  bridged_free e p t i l k =
      clear_free e (p - e) ((and-eq-true_iff (leb p (e + bridge)) _).0 t).1 i l (omega arith)

  pub free_bridged : (e p : ℕ) → p ≤ e + bridge → Free barred e p → bridged barred e p ≡ true
  unfolding bridged
  free_bridged e p l f =
      rw (le-leb p (e + bridge) l, free_clear e (p - e) (λ i m k. f i m (omega arith)))

  -- a run always goes on at the place right behind it
  pub bridged_here : (e : ℕ) → bridged barred e e ≡ true
  bridged_here e = free_bridged e e (omega arith) (free_none e)

  -- ---- a run in front of others

  pub joined_one : (r : Run) → joined barred r [] ≡ r ∷ []
  unfolding joined
  joined_one r = refl

  pub joined_over : (r s : Run) (rs : List Run) → bridged barred r.end s.start ≡ true
      → joined barred r (s ∷ rs) ≡ run r.start s.end ∷ rs
  unfolding joined
  joined_over r s rs t = rw t

  pub joined_apart : (r s : Run) (rs : List Run) → bridged barred r.end s.start ≡ false
      → joined barred r (s ∷ rs) ≡ r ∷ s ∷ rs
  unfolding joined
  joined_apart r s rs f = rw f

-- ---- a place more

module _ (changes barred : ℕ → Bool) (p n : ℕ) where
  pub runs_skip : changes p ≡ false → runs_from changes barred p (suc n) ≡ runs_from changes barred (suc p) n
  unfolding runs_from with_place
  runs_skip f = rw f

  pub runs_step : changes p ≡ true
      → runs_from changes barred p (suc n) ≡ joined barred (run p (suc p)) (runs_from changes barred (suc p) n)
  unfolding runs_from with_place
  runs_step t = rw t
