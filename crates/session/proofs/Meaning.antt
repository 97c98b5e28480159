-- What sessions mean.
-- Assumes nothing.
use mathlib.Core.Path.{◌≡◌, refl, ap, sym, subst, ◌∙◌}
use mathlib.Core.Bool.{Bool, true, false, cond, not}
use mathlib.Core.List.{List, [], ◌∷◌}
use mathlib.Core.Logic.{inl, inr, ⊎_elim}
use Prim.Native.Nat.{ℕ, zero, suc, ◌<◌, ◌≤◌}
use native.Mathlib.Decide.{ℕ_discrete}
use native.Mathlib.Omega.{arith}
use borrow.Author.Tests.{eq-eqb, lt-ltb, le-ltb, lt-leb, le-leb}
use Rattle.bits.proofs.Tests.{le_or_lt}
use lib.Dec.{eqb, ltb}
use lib.ListN.{length, get_or, take}
use Rattle.reply.specs.Reply.{done, wrong_length, lowest}
use Rattle.transactions.specs.Writes.{write_address, cursor_at, colours_at}
use Rattle.transactions.specs.Writes.{registers_pass, passes, write_tests, write_reply}
use Rattle.bus.specs.declared.state.State.{State}
use Rattle.bus.specs.Answers.{Answer}
use Rattle.bus.specs.Meaning.{Sized}
use Rattle.bus.specs.States.{with_file, zero_state, fresh_answer, stored, bus_write}
use Rattle.fields.specs.Laws.{Bytes}
use Rattle.chip.specs.File.{registers_end}
use Rattle.chip.specs.Map.{masks, masks_from, named_at, printed}
use Rattle.bits.specs.Bit.{bit, number}
use Rattle.bits.specs.Merge.{merge}
use Rattle.bits.specs.Run.{merge_run}
use Rattle.bus.proofs.Meaning.{writes_mean}
use Rattle.scaler.specs.Limits.{wrong_source, output_holds, numbers_pass, clock_passes, weights_pass}
use Rattle.scaler.specs.Limits.{lines_for, num_for, den_for, request_tests, request_reply}
use Rattle.scaler.specs.declared.request.Request.{Request}
use Rattle.scaler.proofs.Meaning.{answers_mean, reply_is}
use Rattle.picture.specs.Writing as picture
use Rattle.readback.proofs.Meaning.{pictures_mean}
use Rattle.requests.specs.Requests.{request_of}
use Rattle.lines.specs.Lines.{glyph, hex, added_byte, line}
use Rattle.records.specs.Records.{body_length, whole}
use Rattle.effects.specs.Effects.{outcome, pictured, nothing, shown}
use Rattle.effects.specs.Parts.{Body, Does}
use Rattle.effects.proofs.Effects.{picture_does, body_long, last_kind, register_none, register_does}
use Rattle.effects.proofs.Effects.{cell_fits, colour_does, cursor_does, show_does}
use Rattle.session.specs.Meaning.{Given, RecordMeans, SessionsMean}
use Rattle.session.specs.Runs.{play, played, bench_state, run_answer, longest_session, longest_print}
use Rattle.lines.proofs.Digits.{line_long}
use Rattle.session.proofs.Fitting.{session_fits}
use Rattle.session.proofs.Plays.{play_done, play_broken}

-- what holds of an answer, whatever the record was
record Good (s : State) (a : Answer) : Type 0 where
  refused : (a.reply ≡ done → ⊥) → a.state ≡ s
  sized : Sized s → Sized a.state

good_nothing : (s : State) → Good s (nothing s)
good_nothing s = record { refused = λ n. refl; sized = λ z. z }

good_write : (s : State) (t : List ℕ) → Good s (bus_write s t)
unfolding bus_write
good_write s t =
    record { refused = (writes_mean.any s t).refused; sized = writes_mean.sized s t }

good_picture : (s : State) (body : List ℕ) → Good s (pictured s body)
good_picture s body =
    let w = pictures_mean.writes s.file (request_of body) in
    record {
      refused = λ n. ap (with_file s) (w.refused n);
      sized = λ z. record { file = w.long ∙ z.file; colours = z.colours; cursor = z.cursor };
    }

-- a choice of two
choice : (s : State) (b : Bool) (x y : Answer) → Good s x → Good s y → Good s (cond b x y)
choice s true x y g h = g
choice s false x y g h = h

good : (s : State) (kind : ℕ) (body : List ℕ) → Good s (outcome s kind body)
unfolding outcome
good s kind body =
    choice s (eqb kind 0x01) _ _ (good_picture s body)
    (choice s (eqb kind 0x02) _ _
    (choice s (ltb (get_or body 0 0) registers_end) _ _ (good_write s (write_address ∷ body)) (good_nothing s))
    (choice s (eqb kind 0x03) _ _ (good_write s (write_address ∷ colours_at ∷ body))
    (choice s (eqb kind 0x04) _ _ (good_write s (write_address ∷ cursor_at ∷ body)) (good_nothing s))))

-- ---- records 02 to 05 are done

module _ (s : State) (kind : ℕ) (body : List ℕ) (b : Body kind body) (byte : get_or body 0 0 < 256) where
  -- what a record does, as a literal kind has it
  done_as : (k reply : ℕ) (file colours cursor : List ℕ) → kind ≡ k
      → Does k body s.file s.colours s.cursor reply file colours cursor
      → (outcome s kind body).reply ≡ reply
  done_as k reply file colours cursor e d =
      ap (λ n. (outcome s n body).reply) e
      ∙ ap (λ a. a.reply) (d.outcome_is s.status s.chip s.fifo)

  register_done : kind ≡ 2 → (outcome s kind body).reply ≡ done
  unfolding body_length
  register_done e =
      ⊎_elim
      (λ l. done_as 0x02 0 _ _ _ e (register_none body _ _ _ l))
      (λ l. done_as 0x02 0 _ _ _ e (register_does body _ _ _ (body_long kind 2 body b e) l))
      (le_or_lt 0xFE (get_or body 0 0))

  others : (kind ≡ 1 → ⊥) → Dec (kind ≡ 2) → Dec (kind ≡ 3) → Dec (kind ≡ 4)
      → (outcome s kind body).reply ≡ done
  unfolding body_length
  others one (yes e) three four = register_done e
  others one (no two) (yes e) four =
      done_as 0x03 0 _ _ _ e
      (colour_does body _ _ _ (cell_fits 3 body (omega arith) (body_long kind 3 body b e) byte))
  others one (no two) (no three) (yes e) =
      done_as 0x04 0 _ _ _ e
      (cursor_does body _ _ _ (cell_fits 1 body (omega arith) (body_long kind 4 body b e) byte))
  others one (no two) (no three) (no four) =
      done_as 0x05 0 _ _ _ (last_kind kind body b one two three four) (show_does body _ _ _)

  all_others : (kind ≡ 1 → ⊥) → (outcome s kind body).reply ≡ done
  all_others one = others one (ℕ_discrete kind 2) (ℕ_discrete kind 3) (ℕ_discrete kind 4)

-- ---- the replies

-- the check's numbers, and that 8 is not given
abbrev chosen : Bool → Bool → Bool → Bool → Bool → ℕ
chosen a b c d e = cond a 4 (cond b 5 (cond c 6 (cond d 7 (cond e 8 0))))

one_of : (a b c d e : Bool) → (chosen a b c d e ≡ 8 → ⊥) → Given (chosen a b c d e)
one_of true b c d e n = inr (inl refl)
one_of false true c d e n = inr (inr (inl refl))
one_of false false true d e n = inr (inr (inr (inl refl)))
one_of false false false true e n = inr (inr (inr (inr refl)))
one_of false false false false true n = absurd (n refl)
one_of false false false false false n = inl refl

picture_replies : (file : List ℕ) (q : Request) → length file ≡ 256
    → Given (picture.write_reply file q)
unfolding picture.write_reply picture.write_tests request_reply request_tests lowest
picture_replies file q l =
    let n : request_reply q ≡ 8 → ⊥ = λ e. (answers_mean q).never (reply_is q ∙ e) in
    rw (eq-eqb (length file) 256 l) (one_of (wrong_source q) (not (output_holds q)) (numbers_pass q)
    (clock_passes q.standard q.inppl (lines_for q)) (weights_pass (num_for q) (den_for q) q.yskip) n)

all_replies : (s : State) (kind : ℕ) (body : List ℕ) → Sized s → Body kind body → Bytes body → Dec (kind ≡ 1)
    → Given (outcome s kind body).reply
all_replies s kind body z b l (yes e) =
    subst Given (sym (done_as s kind body b (l 0) 0x01 _ _ _ _ e (picture_does body _ _ _)))
    (picture_replies s.file (request_of body) z.file)
all_replies s kind body z b l (no one) =
    inl (all_others s kind body b (l 0) one)

record_means : (s : State) (kind : ℕ) (body : List ℕ) → RecordMeans s kind body
record_means s kind body =
    let g = good s kind body in
    record {
      refused = g.refused;
      others = λ b l one. all_others s kind body b (l 0) one;
      replies = λ z b l. all_replies s kind body z b l (ℕ_discrete kind 1);
      sized = g.sized;
    }

-- ---- sessions

record_sized : (s : State) (kind : ℕ) (left : List ℕ) → Sized s
    → (let body = take (body_length kind) left in
    Sized (play (outcome s kind body).state (body_length kind) left).state)
    → (b : Bool) → whole kind left ≡ b → Sized (play s 0 (kind ∷ left)).state
record_sized s kind left z rest true w = rw (play_done s kind left w) rest
record_sized s kind left z rest false w = rw (play_broken s kind left w) z

play_sized : (s : State) (read : ℕ) (session : List ℕ) → Sized s → Sized (play s read session).state
unfolding play
play_sized s read [] z = z
play_sized s (suc read) (byte ∷ left) z = play_sized s read left z
play_sized s zero (kind ∷ left) z =
    let body = take (body_length kind) left in
    record_sized s kind left z
    (play_sized (outcome s kind body).state (body_length kind) left ((good s kind body).sized z))
    (whole kind left) refl

module _ (s : State) (session : List ℕ) where
  long_is : longest_session < length session
      → played s session ≡ record { state = s; printed = line 0x00 wrong_length [] }
  unfolding played
  long_is l = rw (lt-ltb longest_session (length session) l)

  short_is : length session ≤ longest_session → played s session ≡ play s 0 session
  unfolding played
  short_is l = rw (le-ltb longest_session (length session) l)

  print_fits : length (played s session).printed ≤ longest_print
  print_fits =
      ⊎_elim (λ l. rw (short_is l) (session_fits s session l))
      (λ l. rw (long_is l) (omega (arith, line_long 0x00 wrong_length [])))
      (le_or_lt (length session) longest_session)

  session_sized : Sized s → Sized (played s session).state
  session_sized z =
      ⊎_elim (λ l. rw (short_is l) (play_sized s 0 session z)) (λ l. rw (long_is l) z)
      (le_or_lt (length session) longest_session)

  told_fits : (buffer : List ℕ) → (run_answer s session buffer).bytes ≤ length buffer
  unfolding run_answer
  told_fits buffer =
      ⊎_elim (λ l. rw (le-leb longest_print (length buffer) l) (let f = print_fits in omega arith))
      (λ l. rw (lt-leb longest_print (length buffer) l) (omega arith))
      (le_or_lt longest_print (length buffer))

  long_line : longest_session < length session
      → played s session ≡ record { state = s; printed = 0x30 ∷ 0x30 ∷ 0x20 ∷ 0x31 ∷ 0x0A ∷ [] }
  unfolding line hex glyph
  long_line l = long_is l

-- document 01's example, by evaluation
example_prints : (played bench_state (0x02 ∷ 0x81 ∷ 0x2B ∷ 0x05 ∷ 0x81 ∷ [])).printed
    ≡ 0x30 ∷ 0x32 ∷ 0x20 ∷ 0x30 ∷ 0x0A ∷ 0x30 ∷ 0x35 ∷ 0x20 ∷ 0x30 ∷ 0x20 ∷ 0x32 ∷ 0x62 ∷ 0x0A ∷ []
unfolding played play whole body_length outcome shown added_byte line hex glyph bus_write stored
    write_reply write_tests passes registers_pass lowest fresh_answer zero_state merge_run merge number bit masks
    masks_from named_at printed
example_prints = refl

pub sessions_mean : SessionsMean
unfolding play played
sessions_mean =
    record {
      records = record_means;
      empty = λ s. refl;
      long = long_line;
      fits = print_fits;
      told = told_fits;
      sized = session_sized;
      example = example_prints;
    }
