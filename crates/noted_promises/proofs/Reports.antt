-- What a desk's report tells after a check and after a command: the octets of a report that is renewed are known by answer, and where the answer
-- comes behind the search, the entry that was found serves the frame, and its number is told.
-- Assumes nothing.
use Prim.Native.Nat.{ℕ, ◌+◌, ◌*◌, ◌%◌, ◌≤◌, ◌<◌}
use mathlib.Core.Path.{◌≡◌, refl, sym, ap, ◌∙◌}
use mathlib.Core.Logic.{◌⊎◌, ◌≢◌, inl, inr}
use mathlib.Core.Bool.{Bool, true, false, cond, ◌&&◌, ◌||◌, true≢false}
use mathlib.Core.List.{List, [], ◌∷◌, ◌++◌}
use native.Mathlib.Decide.{dec_lt, ℕ_discrete}
use native.Mathlib.Omega.{arith}
use borrow.Author.Tests.{eq-eqb, eqb-true, ne_eqb}
use lib.Dec.{eqb}
use lib.ListN.{length, drop}
use Rattle.octets.specs.Lists.{octet, part}
use Rattle.octets.specs.Numbers.{bytes}
use Rattle.judging.specs.Answers.{Test, first}
use Rattle.judging.specs.Replies.{seen, front_tests, receiving_tests, checking_tests, checking}
use Rattle.judging.specs.Said.{Said, kind_said}
use Rattle.judging.specs.Wants.{checking_wants}
use Rattle.judging.proofs.Answered.{fronted, past_front}
use Rattle.judging.proofs.First.{stops}
use Rattle.judging.proofs.Searches.{finds}
use Rattle.link.specs.Calls.{Left, matched_number, comparison, checking_entry, checking_reply, checked_as, checked}
use Rattle.link.proofs.Leaving.{left-answer}
use Rattle.protection.specs.Protection.{spi_in}
use Rattle.association.specs.Association.{held_in, the_one}
use Rattle.command_form.specs.Form.{tag_of}
use Rattle.reports.specs.Desks.{desk_report, after_check, after_reset}
use Rattle.reports.specs.Report.{renewing}
use Rattle.reports.proofs.Placing.{no_desk_lem}
use Rattle.reports.proofs.Renewing.{check_renews, reset_renews}
use Rattle.notes.specs.Noting.{LentNotes}
use Rattle.notes.proofs.Apart.{check-apart, command-apart}
use Rattle.noting.specs.Noted.{Noted, check_noted, command_noted}
use Rattle.promises.specs.Frames.{spi_on}
use Rattle.promises.specs.Images.{last_at, Serves}
use Rattle.promises.proofs.Readings.{spi_on_lem}
use Rattle.promises.proofs.Valids.{serving}
use Rattle.noted_promises.specs.Reports.{three_reports, Reports, report_in, TellsEntry, Told, Resets, ReportTold}
use Rattle.noted_promises.proofs.Judged.{done_seat}
use Rattle.noted_promises.proofs.Refusals.{command-notes}

-- ---- the answers of the tests that come before the search, and at it

abbrev pub before_entry : ℕ → Bool
before_entry answer = eqb answer 1 || eqb answer 2 || eqb answer 19 || eqb answer 3 || eqb answer 12 || eqb answer 4

six : (a b c d e g : Bool) → let f = first ((1, a) ∷ (2, b) ∷ (19, c) ∷ (3, d) ∷ (12, e) ∷ (4, g) ∷ []) in
    (f ≡ 0) ⊎ (before_entry f ≡ true)
unfolding first
six true b c d e g = inr refl
six false true c d e g = inr refl
six false false true d e g = inr refl
six false false false true e g = inr refl
six false false false false true g = inr refl
six false false false false false true = inr refl
six false false false false false false = inl refl

four : (a b c d : Bool) → before_entry (first ((5, a) ∷ (6, b) ∷ (7, c) ∷ (8, d) ∷ [])) ≡ false
unfolding first
four true b c d = refl
four false true c d = refl
four false false true d = refl
four false false false true = refl
four false false false false = refl

module _ (image numbers : List ℕ) (said : Said) (frame output : List ℕ) where
  abbrev x : Left
  x = checked image numbers said frame output

  abbrev front : List Test
  front = front_tests (seen image numbers (checking_wants said frame)) said frame true

  abbrev behind : List Test
  behind =
      let a = the_one (seen image numbers (checking_wants said frame)).found in
      receiving_tests (held_in a) a.number (comparison image numbers said frame) (kind_said said) frame (length output)

  answer-is : x.answer ≡ first (front ++ behind)
  unfolding checked checked_as checking_reply checking checking_tests
  answer-is = left-answer (checking_reply (comparison image numbers said frame) image numbers said frame (length output)) image numbers output

  past : before_entry x.answer ≡ false → first front ≡ 0
  past read = by_first (six _ _ _ _ _ _) (dec_lt 0 (first front))
    where
      by_first : (first front ≡ 0) ⊎ (before_entry (first front) ≡ true) → Dec (0 < first front) → first front ≡ 0
      by_first (inl z) d = z
      by_first (inr b) (no g) = omega arith
      by_first (inr b) (yes h) =
          let same : x.answer ≡ first front = answer-is ∙ stops front behind h in
          absurd (true≢false (sym b ∙ ap before_entry (sym same) ∙ read))

  abbrev number : ℕ
  number = matched_number image numbers said frame x.numbers

  entry : first front ≡ 0
      → (e : ℕ) × Serves image 2 said (spi_on said frame) frame e × (number ≡ last_at x.numbers e)
  unfolding matched_number seen
  entry z =
      let found = (fronted (seen image numbers (checking_wants said frame)) said frame true [] z).0.found in
      let f = finds image numbers (checking_wants said frame) found in
      let e = checking_entry image said frame in (
        e,
        serving image 2 said (spi_on said frame) frame e f.below (rw (spi_on_lem said frame) f.passes),
        rw (eq-eqb (first front) 0 z),
      )

  -- the number that is told: of the entry that serves the frame, and 0 where none does
  pub matched : before_entry x.answer ≡ false
      → (e : ℕ) × Serves image 2 said (spi_on said frame) frame e × (number ≡ last_at x.numbers e)
  matched read = entry (past read)

  pub unmatched : before_entry x.answer ≡ true → number ≡ 0
  unfolding matched_number
  unmatched told = by_first (ℕ_discrete (first front) 0)
    where
      by_first : Dec (first front ≡ 0) → number ≡ 0
      by_first (yes z) =
          let see = seen image numbers (checking_wants said frame) in
          let on : x.answer ≡ first behind = answer-is ∙ past_front see said frame true behind (fronted see said frame true [] z).0 in
          absurd (true≢false (sym told ∙ ap before_entry on ∙ four _ _ _ _))
      by_first (no some) = rw (ne_eqb (first front) 0 some)

-- ---- a check

module _ (n : LentNotes) (image numbers : List ℕ) (said : Said) (frame output : List ℕ) where
  abbrev left : Left
  left = checked image numbers said frame output

  abbrev told : ℕ
  told = matched_number image numbers said frame left.numbers % 256

  abbrev after : List ℕ
  after = after_check (three_reports n) said.desk left.answer (spi_in (kind_said said) frame) told

  -- the octets with the number that is told are those with the number of the entry
  tells : (first-octet : ℕ) → before_entry left.answer ≡ false
      → part (4 * said.desk) 4 after ≡ first-octet ∷ (bytes 2 (spi_in (kind_said said) frame) ++ (told ∷ []))
      → TellsEntry image said frame left first-octet (part (4 * said.desk) 4 after)
  tells first-octet read octets =
      let m = matched image numbers said frame output read in
      let spi = sym (spi_on_lem said frame) in (m.0, m.1, octets ∙ (λ i. first-octet ∷ (bytes 2 (spi i) ++ (m.2 i % 256 ∷ []))))

  check-told : Reports n → said.desk ≤ 2 → Told image said frame left (report_in n said.desk) (part (4 * said.desk) 4 after)
  check-told known low =
      let r = check_renews (three_reports n) said.desk (omega arith) known.twelve known.octets (spi_in (kind_said said) frame) told left.answer in
      record {
        done = λ e. tells _ (ap before_entry e) (r.done e);
        unread = r.unread;
        association = λ e. r.association e ∙ rw (spi_on_lem said frame);
        other = other-by r.other;
        mac = λ e. tells _ (ap before_entry e) (r.mac e);
        window = λ e. tells _ (ap before_entry e) (r.window e);
      }
    where
      other-by : ((left.answer ≡ 5) ⊎ (left.answer ≡ 6) → part (4 * said.desk) 4 after ≡ 0xC8 ∷ (bytes 2 (spi_in (kind_said said) frame) ++ (told ∷ [])))
          → (left.answer ≡ 5) ⊎ (left.answer ≡ 6) → TellsEntry image said frame left 0xC8 (part (4 * said.desk) 4 after)
      other-by octets (inl e) = tells _ (ap before_entry e) (octets (inl e))
      other-by octets (inr e) = tells _ (ap before_entry e) (octets (inr e))

-- ---- a command

module _ (n : LentNotes) (image numbers : List ℕ) (desk : ℕ) (command output : List ℕ) where
  abbrev y : Noted
  y = command_noted n image numbers desk command output

  reset-octets : Reports n → Resets command y
      → report_in y.notes desk ≡ ((0xC0 + octet (report_in n desk) 0 % 8) ∷ drop 1 (report_in n desk))
  reset-octets known r =
      let low = (done_seat n image numbers desk command output (inr r.0) r.1).known in
      rw (command-notes n image numbers desk command output, r.0, r.1)
      (reset_renews (three_reports n) desk (omega arith) known.twelve known.octets)

  reset-others : (other : ℕ) → Reports n → desk ≢ other → report_in y.notes other ≡ report_in n other
  reset-others other known differ =
      ap (λ (m : LentNotes). report_in m other) (command-notes n image numbers desk command output)
      ∙ command-apart n desk other known.twelve differ (octet command 0) y.left.answer

  not-reset : (Resets command y → ⊥) → three_reports y.notes ≡ three_reports n
  unfolding command_noted
  not-reset other = by_tests (eqb (tag_of command) 0x37) (eqb y.left.answer 0) refl refl
    where
      by_tests : (a b : Bool) → eqb (tag_of command) 0x37 ≡ a → eqb y.left.answer 0 ≡ b
          → cond (a && b) (after_reset (three_reports n) desk) (three_reports n) ≡ three_reports n
      by_tests true true p q = absurd (other (eqb-true (tag_of command) 0x37 p, eqb-true y.left.answer 0 q))
      by_tests true false p q = refl
      by_tests false b p q = refl

-- ---- all of them

pub report-told : ReportTold
unfolding check_noted
report-told =
    record {
      check = check-told;
      check_others = λ n image numbers said frame output other known differ.
          let left = checked image numbers said frame output in
          check-apart n said.desk other known.twelve differ left.answer (spi_in (kind_said said) frame)
          (matched_number image numbers said frame left.numbers % 256);
      check_no_desk = λ n image numbers said frame output none.
          let left = checked image numbers said frame output in
          let number = matched_number image numbers said frame left.numbers % 256 in
          no_desk_lem (three_reports n) said.desk
          (renewing left.answer (spi_in (kind_said said) frame) number (desk_report (three_reports n) said.desk)) none;
      reset = reset-octets;
      reset_others = reset-others;
      commanding = not-reset;
    }
