-- A state's parts in its lent bytes, and the bytes after one of them has changed.
-- Assumes nothing.
use mathlib.Core.Path.{◌≡◌, sym, ap, ◌∙◌}
use mathlib.Core.List.{List, [], ◌∷◌, ◌++◌, append_assoc}
use Prim.Native.Nat.{ℕ, ◌+◌, ◌≤◌}
use native.Mathlib.Omega.{arith}
use lib.ListN.{length, get_or, set, take, drop, length-drop, take-append-drop, drop_of_length-le}
use lib.Seq.{length-take-le, drop-cons, drop-drop, take-add, take-set-le, drop-set-add}
use Rattle.bus.specs.States.{with_arrays, with_status, with_fifo}
use Rattle.states.specs.Lent.{state_in, bytes_of}

-- a part has its length
pub part_long : (a n : ℕ) (xs : List ℕ) → a + n ≤ length xs → length (take n (drop a xs)) ≡ n
part_long a n xs h = length-take-le n (drop a xs) (rw (length-drop a xs) (omega arith))

module _ (xs : List ℕ) (l : length xs ≡ 1283) where
  abbrev three : List ℕ
  three = get_or xs 1280 0 ∷ get_or xs 1281 0 ∷ get_or xs 1282 0 ∷ []

  -- ---- what stands behind each part

  readables : drop 1280 xs ≡ three
  readables =
      drop-cons xs 1280 0 (omega (arith, l))
      ∙ ap (λ (t : List ℕ). get_or xs 1280 0 ∷ t) (drop-cons xs 1281 0 (omega (arith, l))
      ∙ ap (λ (t : List ℕ). get_or xs 1281 0 ∷ t) (drop-cons xs 1282 0 (omega (arith, l))
      ∙ ap (λ (t : List ℕ). get_or xs 1282 0 ∷ t) (drop_of_length-le xs {i = 1283} (omega (arith, l)))))

  behind_cursor : drop 256 (drop 1024 xs) ≡ three
  behind_cursor = drop-drop 256 1024 xs ∙ readables

  behind_colours : drop 768 (drop 256 xs) ≡ take 256 (drop 1024 xs) ++ three
  behind_colours =
      drop-drop 768 256 xs
      ∙ sym (take-append-drop 256 (drop 1024 xs))
      ∙ ap (λ (t : List ℕ). take 256 (drop 1024 xs) ++ t) behind_cursor

  behind_file : drop 256 xs ≡ take 768 (drop 256 xs) ++ (take 256 (drop 1024 xs) ++ three)
  behind_file =
      sym (take-append-drop 768 (drop 256 xs))
      ∙ ap (λ (t : List ℕ). take 768 (drop 256 xs) ++ t) behind_colours

  -- the three arrays, before what stands behind them
  arrays : (t : List ℕ) → take 1280 xs ++ t
      ≡ take 256 xs ++ (take 768 (drop 256 xs) ++ (take 256 (drop 1024 xs) ++ t))
  arrays t =
      ap (λ (f : List ℕ). f ++ t) (take-add 1024 256 xs)
      ∙ append_assoc (take 1024 xs) (take 256 (drop 1024 xs)) t
      ∙ ap (λ (f : List ℕ). f ++ (take 256 (drop 1024 xs) ++ t)) (take-add 256 768 xs)
      ∙ append_assoc (take 256 xs) (take 768 (drop 256 xs)) (take 256 (drop 1024 xs) ++ t)

  -- ---- the whole, and the whole with some parts anew

  pub whole : bytes_of (state_in xs) ≡ xs
  unfolding bytes_of state_in
  whole =
      sym (ap (λ (t : List ℕ). take 256 xs ++ t) behind_file)
      ∙ take-append-drop 256 xs

  -- the arrays as three parts that are split off in turn: they are those of the state, and anew they are its
  -- bytes before what stands behind them
  pub arrays_in : with_arrays (state_in xs) (take 256 xs) (take 768 (drop 256 xs))
      (take 256 (drop 768 (drop 256 xs)))
      ≡ state_in xs
  unfolding state_in
  arrays_in = rw (drop-drop 768 256 xs)

  pub arrays_anew : (f t m : List ℕ) → f ++ (t ++ (m ++ drop 256 (drop 768 (drop 256 xs))))
      ≡ bytes_of (with_arrays (state_in xs) f t m)
  unfolding bytes_of state_in
  arrays_anew f t m = rw (drop-drop 768 256 xs, behind_cursor)

  -- one of the readable bytes
  readable_anew : (i byte : ℕ) → set xs (1280 + i) byte ≡ take 1280 xs ++ set three i byte
  readable_anew i byte =
      sym (take-append-drop 1280 (set xs (1280 + i) byte))
      ∙ rw (take-set-le 1280 xs (1280 + i) byte (omega arith), drop-set-add 1280 xs i byte, readables)

  pub status_anew : (byte : ℕ) → set xs 1280 byte ≡ bytes_of (with_status (state_in xs) byte)
  unfolding bytes_of state_in
  status_anew byte = readable_anew 0 byte ∙ arrays (set three 0 byte)

  pub fifo_anew : (byte : ℕ) → set xs 1282 byte ≡ bytes_of (with_fifo (state_in xs) byte)
  unfolding bytes_of state_in
  fifo_anew byte = readable_anew 2 byte ∙ arrays (set three 2 byte)
