-- A run in which desk 1's alarm is set and reset, and the log is dumped and erased; and a log that is full, one event before its count of the
-- dropped stays. By computing; the ciphers stay shut, so the frame that is checked is too short to be compared.
-- Assumes nothing.
use Prim.Native.Nat.{ℕ}
use mathlib.Core.Path.{◌≡◌, refl}
use mathlib.Core.List.{List, [], ◌∷◌}
use lib.ListN.{take, replicate}
use Rattle.procedures.specs.Procedures.{with_tag, called}
use Rattle.addressing.specs.Addressing.{entry_named}
use Rattle.link.specs.Calls.{handed, matched_number, comparison, checked}
use Rattle.commands.specs.Commanding.{command_reply, commanded}
use Rattle.reports.specs.Desks.{desk_report, with_report}
use Rattle.reports.specs.Report.{renewing, laid}
use Rattle.event_log.specs.Events.{dump_value, dump_reply, erase_reply}
use Rattle.event_log.specs.Held.{events_in, room_for, entered_in}
use Rattle.notes.specs.Noting.{lent_notes, fresh_notes}
use Rattle.note_commands.specs.NoteCommands.{note_reply, note_commanded}
use Rattle.noting.specs.Noted.{Noted, check_noted, command_noted}
use Rattle.promises.specs.Cases.{receiver, one_number, bare}
use Rattle.promises.specs.Runs.{State, check}
use Rattle.promises.proofs.Computing.{everything}
use Rattle.command_promises.specs.Cases.{spoken, ping}
use Rattle.command_promises.specs.Runs.{call, command}
use Rattle.noted_promises.specs.Reports.{report_in}
use Rattle.noted_promises.specs.Runs.{NotedState, after, ran}

-- ---- the start: the receiving end of case B, loaded, and fresh notes beside a list that holds something

abbrev pub lent : List ℕ
lent = replicate 768 0xEE

abbrev pub loaded-state : State
loaded-state = record { image = receiver 100 0; numbers = one_number 63 }

abbrev pub start : NotedState
start = record { state = loaded-state; notes = lent_notes fresh_notes lent }

-- a secured frame of an SPI that has no room for its number
abbrev pub short : ℕ → List ℕ
short spi = 0x00 ∷ 0x1B ∷ 0x14 ∷ 0x07 ∷ 0x00 ∷ 0x00 ∷ spi ∷ 0xAA ∷ []

abbrev pub out : List ℕ
out = replicate 20 0

abbrev pub dump : List ℕ
dump = spoken 0x33 []

abbrev pub erase : List ℕ
erase = spoken 0x34 []

abbrev pub reset : List ℕ
reset = spoken 0x37 []

-- ---- an alarm of desk 1, by a frame that is too short and by one that no entry serves; its reset, and a dump that desk 1 may not have

abbrev pub shortened : NotedState
shortened = after start (call (check (bare 1) (short 9) out))

abbrev pub alarmed : NotedState
alarmed = after shortened (call (check (bare 1) (short 10) out))

abbrev pub quiet : NotedState
quiet = ran alarmed (command 1 reset out ∷ command 1 dump out ∷ [])

pub alarm_told :
    (report_in shortened.notes 1 ≡ 0xC8 ∷ 0x00 ∷ 0x09 ∷ 0x3F ∷ [])
    × (report_in alarmed.notes 1 ≡ 0xC9 ∷ 0x00 ∷ 0x0A ∷ 0x00 ∷ [])
    × (report_in quiet.notes 1 ≡ 0xC1 ∷ 0x00 ∷ 0x0A ∷ 0x00 ∷ [])
    × (report_in quiet.notes 2 ≡ 0xC0 ∷ 0x00 ∷ 0x00 ∷ 0x00 ∷ [])
unfolding everything matched_number comparison checked desk_report with_report renewing laid room_for entered_in note_reply note_commanded check_noted command_noted after ran
alarm_told = (refl, refl, refl, refl)

-- ---- the key office dumps, erases, and desk 2 pings

abbrev pub dumped : Noted
dumped = command_noted quiet.notes quiet.state.image quiet.state.numbers 0 dump out

abbrev pub erased : Noted
erased = command_noted dumped.notes quiet.state.image quiet.state.numbers 0 erase out

abbrev pub pinged : NotedState
pinged = ran quiet (command 0 dump out ∷ command 0 erase out ∷ command 2 ping out ∷ [])

pub log-told :
    (handed dumped.left
    ≡ 0xB3 ∷ 0x00 ∷ 0x0F ∷ 0x00 ∷ 0x00 ∷ 0x02 ∷ 0x01 ∷ 0x05 ∷ 0x00 ∷ 0x00 ∷ 0x02 ∷ 0x01 ∷ 0x04 ∷ 0x37 ∷ 0x00 ∷ 0x02 ∷ 0x01 ∷ 0x00 ∷ [])
    × (handed erased.left ≡ 0xB4 ∷ 0x00 ∷ 0x04 ∷ 0x00 ∷ 0x00 ∷ 0x03 ∷ 0x00 ∷ [])
    × (erased.notes.notes.log.kept ≡ 0)
    × (pinged.notes.notes.log.kept ≡ 1)
    × (take 3 pinged.notes.events ≡ 0x02 ∷ 0x31 ∷ 0x00 ∷ [])
unfolding everything matched_number comparison checked desk_report with_report renewing laid events_in dump_value dump_reply erase_reply room_for entered_in note_reply note_commanded with_tag called entry_named command_reply commanded check_noted command_noted after ran
log-told = (refl, refl, refl, refl, refl)

-- ---- a log that is full

abbrev pub full : NotedState
full =
    record {
      state = loaded-state;
      notes = lent_notes (record { reports = fresh_notes.reports; log = record { kept = 256; dropped = 4294967294 } }) lent;
    }

abbrev pub fuller : NotedState
fuller = after full (call (check (bare 1) (short 9) out))

pub full_stays :
    (fuller.notes.notes.log.dropped ≡ 4294967295)
    × ((after fuller (call (check (bare 1) (short 9) out))).notes.notes.log.dropped ≡ 4294967295)
    × (fuller.notes.notes.log.kept ≡ 256)
    × (fuller.notes.events ≡ lent)
unfolding everything matched_number comparison checked room_for entered_in check_noted after
full_stays = (refl, refl, refl, refl)
