-- A command to the notes is answered by its tests, and where none applies the reply is all that it leaves. Each test is a rule of the promise.
-- Assumes nothing.
use Prim.Native.Nat.{ℕ, zero, suc, ◌+◌, ◌*◌, ◌/◌, ◌<◌, min}
use mathlib.Core.Path.{◌≡◌, refl, sym, ap, ◌∙◌}
use mathlib.Core.Logic.{◌⊎◌, inl, inr}
use mathlib.Core.Bool.{Bool, true, false, cond, not, ◌&&◌, ◌||◌, true≢false}
use mathlib.Core.List.{List, [], ◌∷◌, ◌++◌}
use native.Mathlib.Decide.{dec_lt}
use native.Mathlib.Omega.{arith}
use borrow.Author.Tests.{eqb-true, eq-eqb, lt-ltb, le-ltb, leb-true, le-leb, ltb-true, ltb-false, not-true, not-false}
use lib.Dec.{eqb, ltb, leb}
use lib.ListN.{length, length-drop, length-append}
use Rattle.octets.specs.Lists.{octet, Octets}
use Rattle.octets.specs.Numbers.{number_at, bytes}
use Rattle.octets.proofs.Alls.{and_left, and_right}
use Rattle.image.specs.Image.{valid_image}
use Rattle.numbers.specs.Numbers.{agrees}
use Rattle.judging.specs.Answers.{first}
use Rattle.judging.specs.Said.{no_desk}
use Rattle.judging.specs.declared.answers.Refusal.TheVariants as answer
use Rattle.judging.proofs.First.{passed}
use Rattle.link.specs.Calls.{Left, refused}
use Rattle.command_form.specs.Form.{tag_of, value_of, measured}
use Rattle.event_log.specs.Events.{event_line, dump_value, dump_reply, erase_reply}
use Rattle.event_log.proofs.Lines.{value_more}
use Rattle.event_log.specs.Held.{event_at, room_for, kept_count, events_in, held}
use Rattle.notes.specs.Noting.{LentNotes, log_in, for_log}
use Rattle.note_commands.specs.NoteCommands.{for_notes, wrong_desk, bare, note_reply, note_tests, replied, note_commanded}
use Rattle.noting.specs.Noted.{command_noted}
use Rattle.promises.specs.Answers.{report_of, Exactly}
use Rattle.promises.proofs.Answers.{Numbered, exactly, next-rule, last_done, differ}
use Rattle.promises.proofs.Valids.{rules-kept, rules-valid, agreement, agreement_tested}
use Rattle.noted_promises.specs.Answers.{room_in, kept_in, DeskRules, Bare, reply_size, note_rules, NoteCommandAnswers}
use Rattle.noted_promises.specs.Dumps.{lines_of, dump_of, erase_of}
use Rattle.noted_promises.specs.Refusals.{ForLog, ForNotes}
use Rattle.noted_promises.proofs.Refusals.{noted_refusals}

-- ---- which command it is

either : (a b : Bool) → (a || b) ≡ true → (a ≡ true) ⊎ (b ≡ true)
either true b e = inl refl
either false b e = inr e

module _ (command : List ℕ) where
  pub log_tested : ForLog command → for_log (tag_of command) ≡ true
  log_tested (inl e) = rw e
  log_tested (inr e) = rw e

  log-kept : for_log (tag_of command) ≡ true → ForLog command
  log-kept e = by-tag (either (eqb (octet command 0) 0x33) (eqb (octet command 0) 0x34) e)
    where
      by-tag : (eqb (octet command 0) 0x33 ≡ true) ⊎ (eqb (octet command 0) 0x34 ≡ true) → ForLog command
      by-tag (inl t) = inl (eqb-true (octet command 0) 0x33 t)
      by-tag (inr t) = inr (eqb-true (octet command 0) 0x34 t)

  pub notes_tested : ForNotes command → for_notes (tag_of command) ≡ true
  notes_tested (inl (inl e)) = rw e
  notes_tested (inl (inr e)) = rw e
  notes_tested (inr e) = rw e

  -- ---- 13

  bare-kept : bare command ≡ true → Bare command
  bare-kept e =
      let whole = and_left (measured command) (eqb (length (value_of command)) 0) e in
      let none = eqb-true (length (value_of command)) 0 (and_right (measured command) _ e) in
      let long = leb-true 3 (length command) (and_left (leb 3 (length command)) _ whole) in
      let counts = eqb-true (number_at 1 2 command) (length (value_of command)) (and_right (leb 3 (length command)) _ whole) in
      record { long = omega (arith, length-drop 3 command); field = counts ∙ none }

  bare_tested : Bare command → bare command ≡ true
  bare_tested b =
      let none : length (value_of command) ≡ 0 = omega (arith, length-drop 3 command, b.long) in
      rw (le-leb 3 (length command) (omega (arith, b.long)), none, b.field)

-- ---- 19

module _ (desk : ℕ) (command : List ℕ) where
  seat_kept : wrong_desk desk (tag_of command) ≡ false → DeskRules desk command
  seat_kept e = by_tests (no_desk desk) (for_log (tag_of command)) (eqb desk 0) refl refl refl e
    where
      by_tests : (none log office : Bool) → no_desk desk ≡ none → for_log (tag_of command) ≡ log → eqb desk 0 ≡ office
          → (none || (log && not office)) ≡ false → DeskRules desk command
      by_tests true log office n k z e2 = absurd (true≢false e2)
      by_tests false false office n k z e2 =
          record { known = ltb-false 2 desk n; office = λ t. absurd (true≢false (sym (log_tested command t) ∙ k)) }
      by_tests false true true n k z e2 = record { known = ltb-false 2 desk n; office = λ t. eqb-true desk 0 z }
      by_tests false true false n k z e2 = absurd (true≢false e2)

  seat_tested : DeskRules desk command → wrong_desk desk (tag_of command) ≡ false
  seat_tested r = by-tag (for_log (tag_of command)) refl
    where
      by-tag : (log : Bool) → for_log (tag_of command) ≡ log → (no_desk desk || (log && not (eqb desk 0))) ≡ false
      by-tag true k = rw (le-ltb 2 desk r.known, eq-eqb desk 0 (r.office (log-kept command k)))
      by-tag false k = rw (le-ltb 2 desk r.known)

-- ---- the reply

lesser : (a b : ℕ) → cond (ltb a b) a b ≡ min a b
lesser a b = by_order (dec_lt a b)
  where
    by_order : Dec (a < b) → cond (ltb a b) a b ≡ min a b
    by_order (yes h) = rw (lt-ltb a b h) (omega arith)
    by_order (no g) = rw (le-ltb a b (omega arith)) (omega arith)

lines : (i : ℕ) (s : List ℕ) → dump_value (events_in i s) ≡ lines_of i s
unfolding events_in lines_of dump_value
lines zero s = refl
lines (suc i) s = value_more (events_in i s) (event_at s i) ∙ ap (λ (v : List ℕ). v ++ event_line (event_at s i)) (lines i s)

length-lines : (i : ℕ) (s : List ℕ) → length (lines_of i s) ≡ 5 * i
unfolding lines_of
length-lines zero s = refl
length-lines (suc i) s = simp (length-append, length-lines i s) (omega arith)

module _ (n : LentNotes) where
  room-is : room_for n.events ≡ room_in n
  unfolding room_for
  room-is = lesser (length n.events / 3) 256

  kept-is : kept_count n.notes.log.kept n.events ≡ kept_in n
  kept-is = rw room-is (lesser n.notes.log.kept (room_in n))

  pub dump-is : dump_reply (held (log_in n)).kept ≡ dump_of n
  unfolding dump_reply
  dump-is =
      let value = ap (λ (k : ℕ). dump_value (events_in k n.events)) kept-is ∙ lines (kept_in n) n.events in
      let long = ap length value ∙ length-lines (kept_in n) n.events in
      λ i. 0xB3 ∷ (bytes 2 (long i) ++ value i)

  pub erase-is : erase_reply (room_for n.events) ≡ erase_of n
  unfolding erase_reply bytes
  erase-is = rw room-is

  dump-long : length (dump_of n) ≡ 3 + 5 * kept_in n
  unfolding bytes
  dump-long = rw (length-lines (kept_in n) n.events) (omega arith)

  erase-long : length (erase_of n) ≡ 7
  unfolding bytes
  erase-long = refl

  size_is : (command : List ℕ) → length (note_reply (log_in n) (tag_of command)) ≡ reply_size n command
  unfolding note_reply
  size_is command = by-tag (eqb (tag_of command) 0x33) (eqb (tag_of command) 0x34)
    where
      by-tag : (a b : Bool)
          → length (cond a (dump_reply (held (log_in n)).kept) (cond b (erase_reply (room_for n.events)) [])) ≡ cond a (3 + 5 * kept_in n) (cond b 7 0)
      by-tag true b = ap length dump-is ∙ dump-long
      by-tag false true = ap length erase-is ∙ erase-long
      by-tag false false = refl

-- ---- the answer, and what is left

module _ (n : LentNotes) (image numbers : List ℕ) (desk : ℕ) (command output : List ℕ) where
  abbrev answered : ℕ
  answered = first (note_tests (log_in n) image numbers desk command (length output))

  abbrev reply : List ℕ
  reply = note_reply (log_in n) (tag_of command)

  by_answer : (t : Bool) → eqb answered 0 ≡ t → (cond t (replied reply image numbers output) (refused answered image numbers output)).answer ≡ answered
  by_answer true z = sym (eqb-true answered 0 z)
  by_answer false z = refl

  module _ (own : ForNotes command) where
    pub left_is : (command_noted n image numbers desk command output).left ≡ note_commanded (log_in n) image numbers desk command output
    unfolding command_noted
    left_is = rw (notes_tested command own)

    pub answer-is : (command_noted n image numbers desk command output).left.answer ≡ answered
    unfolding note_commanded
    answer-is = ap (λ (x : Left). x.answer) left_is ∙ by_answer (eqb answered 0) refl

    module _ (z : (command_noted n image numbers desk command output).left.answer ≡ 0) where
      pub done-left : (command_noted n image numbers desk command output).left ≡ replied reply image numbers output
      unfolding note_commanded
      done-left = left_is ∙ rw (eq-eqb answered 0 (sym answer-is ∙ z))

      pub done_seat : DeskRules desk command
      done_seat =
          let t1 = passed 1 (not (valid_image image)) _ (omega arith) (sym answer-is ∙ z) in
          let t2 = passed 2 (not (agrees image numbers)) _ (omega arith) t1.1 in
          let t19 = passed 19 (wrong_desk desk (tag_of command)) _ (omega arith) t2.1 in
          seat_kept desk command t19.0

  note_rules_lem : Octets image → Numbered (note_rules n image numbers desk command output) answered
  note_rules_lem octets =
      next-rule answer.BadImage (not (valid_image image)) _ _ _
      (λ t k. differ _ (rules-valid image octets k) (not-true (valid_image image) t))
      (λ t. rules-kept image octets (not-false (valid_image image) t))
      (next-rule answer.BadMarks (not (agrees image numbers)) _ _ _
      (λ t k. differ _ (agreement_tested image numbers octets k) (not-true (agrees image numbers) t))
      (λ t. agreement image numbers octets (not-false (agrees image numbers) t))
      (next-rule answer.WrongDesk (wrong_desk desk (tag_of command)) _ _ _
      (λ t k. differ (wrong_desk desk (tag_of command)) t (seat_tested desk command k))
      (λ t. seat_kept desk command t)
      (next-rule answer.BadCommand (not (bare command)) _ _ _
      (λ t k. differ (bare command) (bare_tested command k) (not-true (bare command) t))
      (λ t. bare-kept command (not-false (bare command) t))
      (next-rule answer.NoRoom (ltb (length output) (length reply)) _ _ _
      (λ t k. omega (arith, size_is n command, ltb-true (length output) (length reply) t))
      (λ t. omega (arith, size_is n command, ltb-false (length output) (length reply) t))
      last_done))))

  note_exactly : Octets image → ForNotes command
      → Exactly (note_rules n image numbers desk command output) (report_of (command_noted n image numbers desk command output).left)
  note_exactly octets own =
      exactly (note_rules n image numbers desk command output) (command_noted n image numbers desk command output).left
      (λ refuse. let u = noted_refusals.commanding n image numbers desk command output refuse in (u.length, u.stores)) refl
      (rw (answer-is own) (note_rules_lem octets))

pub note_command_answers : NoteCommandAnswers
note_command_answers = record { commanding = note_exactly }
