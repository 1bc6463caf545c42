-- Document 02, request 11: what a check and what a command do to the caller's notes, the frame security reports and the event log, once they
-- have their answer. Nothing else changes the notes.
-- Assumes nothing.
use Rattle.std.specs.Prelude.{ℕ, Bool, cond, ◌&&◌, ◌||◌, List, eqb}
use Rattle.reports.specs.Desks.{fresh_reports, after_check, after_reset}
use Rattle.event_log.specs.Held.{LentLog, lent_log, event, entered_in, erased_in, fresh_log}
use Rattle.notes.specs.declared.Notes.{Notes}

abbrev pub fresh_notes : Notes
fresh_notes = record { reports = record { octets = fresh_reports }; log = fresh_log }

-- ---- the notes as they are lent: reports and the log's counts, and beside them the list of its events

pub record LentNotes : Type 0 where
  pub notes : Notes
  pub events : List ℕ

abbrev pub lent_notes : Notes → List ℕ → LentNotes
lent_notes notes events = record { notes = notes; events = events }

abbrev pub log_in : LentNotes → LentLog
log_in n = lent_log n.notes.log n.events

abbrev pub reports_in : LentNotes → List ℕ
reports_in n = n.notes.reports.octets

abbrev pub holding : List ℕ → LentLog → LentNotes
holding reports log = lent_notes (record { reports = record { octets = reports }; log = log.counts }) log.events

-- ---- a check

-- by a desk, of a frame with that SPI; `number` is the low octet of the number of the entry that it matched. It renews the desk's report, and
-- is one event, with no tag.
abbrev pub noted_check : LentNotes → ℕ → ℕ → ℕ → ℕ → LentNotes
noted_check n desk answer spi number = holding (after_check (reports_in n) desk answer spi number) (entered_in (log_in n) (event desk 0 answer))

-- ---- a command, by its first octet

abbrev pub dump_tag : ℕ
dump_tag = 0x33

abbrev pub erase_tag : ℕ
erase_tag = 0x34

abbrev pub alarm_reset_tag : ℕ
alarm_reset_tag = 0x37

-- dump and erase are for the log, and themselves no events
abbrev pub for_log : ℕ → Bool
for_log tag = eqb tag dump_tag || eqb tag erase_tag

-- a command that was done; a refused one resets and erases nothing
abbrev pub is_done : ℕ → ℕ → ℕ → Bool
is_done wanted tag answer = eqb tag wanted && eqb answer 0

-- alarm reset clears the alarm of the desk that gives it
abbrev pub reset_by : List ℕ → ℕ → ℕ → ℕ → List ℕ
reset_by reports desk tag answer = cond (is_done alarm_reset_tag tag answer) (after_reset reports desk) reports

abbrev pub logged_by : LentLog → ℕ → ℕ → ℕ → LentLog
logged_by log desk tag answer =
    cond (for_log tag) (cond (is_done erase_tag tag answer) (erased_in log) log) (entered_in log (event desk tag answer))

abbrev pub noted_command : LentNotes → ℕ → ℕ → ℕ → LentNotes
noted_command n desk tag answer = holding (reset_by (reports_in n) desk tag answer) (logged_by (log_in n) desk tag answer)
