-- Document 02, request 11: what a desk's report tells, in its four octets. Above C0 the first has 8 for the alarm, 4 for a bad number, 2 for a
-- bad MAC and 1 for a bad association; then come the SPI on the frame and the low octet of a number. Every check renews the report of the
-- desk that makes it: done, the alarm stays as it was, and any refusal sets it; flags of the check before are gone, unless it was refused
-- before its frame was read (1, 2, 3, 12), when all but the alarm stays. Where an entry serves the frame (0, 5, 6, 7, 8), the number is that
-- of the entry afterwards, and without one (4) it is 0. An alarm reset clears the alarm of the desk that gives it. Nothing else changes a
-- report: not the call of another desk, nor of a number that is no desk's (19), nor another command, nor a reset that is refused. It supposes
-- three reports of octets.
-- Assumes nothing.
use Rattle.std.specs.Prelude.{ℕ, ◌+◌, ◌*◌, ◌/◌, ◌%◌, ◌≤◌, ◌≡◌, ◌⊎◌, ◌≢◌, List, [], ◌∷◌, ◌++◌, length, drop}
use Rattle.octets.specs.Lists.{octet, part, Octets}
use Rattle.octets.specs.Numbers.{bytes}
use Rattle.link.specs.Calls.{Left}
use Rattle.judging.specs.Said.{Said}
use Rattle.notes.specs.Noting.{LentNotes}
use Rattle.noting.specs.Noted.{Noted, check_noted, command_noted}
use Rattle.promises.specs.Frames.{spi_on}
use Rattle.promises.specs.Images.{last_at, Serves}

-- ---- the reports in the notes: four octets for each of the desks 0, 1 and 2

abbrev pub three_reports : LentNotes → List ℕ
three_reports n = n.notes.reports.octets

pub record Reports (n : LentNotes) : Type 0 where
  pub twelve : length (three_reports n) ≡ 12
  pub octets : Octets (three_reports n)

abbrev pub report_in : LentNotes → ℕ → List ℕ
report_in n desk = part (4 * desk) 4 (three_reports n)

-- ---- after a check that left x, the report that was `before` is `after`

abbrev pub telling : ℕ → Said → List ℕ → ℕ → List ℕ
telling first said frame number = first ∷ (bytes 2 (spi_on said frame) ++ (number ∷ []))

-- of the entry that serves the frame
abbrev pub TellsEntry : List ℕ → Said → List ℕ → Left → ℕ → List ℕ → Type 0
TellsEntry image said frame x first after =
    (e : ℕ) × Serves image 2 said (spi_on said frame) frame e × (after ≡ telling first said frame (last_at x.numbers e % 256))

pub record Told (image : List ℕ) (said : Said) (frame : List ℕ) (x : Left) (before after : List ℕ) : Type 0 where
  pub done : x.answer ≡ 0 → TellsEntry image said frame x (0xC0 + 8 * (octet before 0 / 8 % 2)) after
  pub unread : (x.answer ≡ 1) ⊎ ((x.answer ≡ 2) ⊎ ((x.answer ≡ 3) ⊎ (x.answer ≡ 12)))
      → after ≡ ((0xC8 + octet before 0 % 8) ∷ drop 1 before)
  pub association : x.answer ≡ 4 → after ≡ telling 0xC9 said frame 0
  pub other : (x.answer ≡ 5) ⊎ (x.answer ≡ 6) → TellsEntry image said frame x 0xC8 after
  pub mac : x.answer ≡ 7 → TellsEntry image said frame x 0xCA after
  pub window : x.answer ≡ 8 → TellsEntry image said frame x 0xCC after

-- ---- the promise

-- a reset of the alarm that was done
abbrev pub Resets : List ℕ → Noted → Type 0
Resets command y = (octet command 0 ≡ 0x37) × (y.left.answer ≡ 0)

pub record ReportTold : Type 0 where
  pub check : (n : LentNotes) (image numbers : List ℕ) (said : Said) (frame output : List ℕ) → Reports n → said.desk ≤ 2
      → let y = check_noted n image numbers said frame output in
      Told image said frame y.left (report_in n said.desk) (report_in y.notes said.desk)
  pub check_others : (n : LentNotes) (image numbers : List ℕ) (said : Said) (frame output : List ℕ) (other : ℕ) → Reports n → said.desk ≢ other
      → report_in (check_noted n image numbers said frame output).notes other ≡ report_in n other
  pub check_no_desk : (n : LentNotes) (image numbers : List ℕ) (said : Said) (frame output : List ℕ) → 3 ≤ said.desk
      → three_reports (check_noted n image numbers said frame output).notes ≡ three_reports n
  pub reset : (n : LentNotes) (image numbers : List ℕ) (desk : ℕ) (command output : List ℕ) → Reports n
      → let y = command_noted n image numbers desk command output in
      Resets command y → report_in y.notes desk ≡ ((0xC0 + octet (report_in n desk) 0 % 8) ∷ drop 1 (report_in n desk))
  pub reset_others : (n : LentNotes) (image numbers : List ℕ) (desk : ℕ) (command output : List ℕ) (other : ℕ) → Reports n → desk ≢ other
      → report_in (command_noted n image numbers desk command output).notes other ≡ report_in n other
  pub commanding : (n : LentNotes) (image numbers : List ℕ) (desk : ℕ) (command output : List ℕ)
      → let y = command_noted n image numbers desk command output in
      (Resets command y → ⊥) → three_reports y.notes ≡ three_reports n
