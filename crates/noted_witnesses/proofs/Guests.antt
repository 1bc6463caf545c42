-- Two runs with notes on the smallest image of version 4, which has no association and no key. In the one desk 1 has a frame checked, in the other
-- it does nothing; then desk 2 asks for a dump, has a frame checked and resets its alarm. They meet what the promise on desks with notes
-- supposes, and their logs differ. By computing.
-- Assumes nothing.
use Prim.Native.Nat.{ℕ}
use mathlib.Core.Path.{◌≡◌, refl}
use mathlib.Core.Logic.{inr}
use mathlib.Core.Bool.{false}
use mathlib.Core.List.{List, [], ◌∷◌}
use native.Mathlib.Omega.{arith}
use lib.ListN.{replicate}
use Rattle.link.specs.Calls.{matched_number, comparison, checked}
use Rattle.judging.specs.Said.{Said}
use Rattle.procedures.specs.Procedures.{with_tag, called}
use Rattle.addressing.specs.Addressing.{entry_named}
use Rattle.commands.specs.Commanding.{command_reply, commanded}
use Rattle.reports.specs.Desks.{desk_report, with_report}
use Rattle.reports.specs.Report.{renewing, laid}
use Rattle.event_log.specs.Held.{room_for, entered_in}
use Rattle.notes.specs.Noting.{lent_notes, fresh_notes}
use Rattle.note_commands.specs.NoteCommands.{note_reply, note_commanded}
use Rattle.noting.specs.Noted.{check_noted, command_noted}
use Rattle.promises.specs.Runs as frames
use Rattle.promises.specs.Runs.{State, check}
use Rattle.promises.proofs.Computing.{everything}
use Rattle.promises.proofs.Valids.{rules-kept}
use Rattle.command_promises.specs.Runs as plain
use Rattle.command_promises.specs.Runs.{call, command}
use Rattle.desks.specs.Desks.{By, is_load, is_cut, Pair, same, apart, here, there, AllOther, Allowed, AllAllowed, Sound, Start, KeyPartSame}
use Rattle.witness_frames.proofs.Computed.{octets_of_lem}
use Rattle.noted_promises.specs.Runs.{NotedState, after, ran}
use Rattle.noted_desks.specs.NotedDesks.{ReportsAlike, ToldTo}
use Rattle.noted_desks.proofs.NotedDesks.{noted-desks}
use Rattle.noted_witnesses.proofs.Noting.{lent, short, out, dump, reset}

-- ---- the two runs

abbrev pub bare_state : State
bare_state = record { image = 0x04 ∷ 0x00 ∷ 0xFF ∷ 0xFF ∷ 0x00 ∷ 0x06 ∷ 0x00 ∷ []; numbers = replicate 32 0 }

abbrev pub begin : NotedState
begin = record { state = bare_state; notes = lent_notes fresh_notes lent }

abbrev pub by : ℕ → Said
by desk = record { desk = desk; kind = 1; field = false }

abbrev pub guests : List Pair
guests =
    apart (call (check (by 1) (short 9) out) ∷ []) []
    ∷ same (command 2 dump out)
    ∷ same (call (check (by 2) (short 10) out))
    ∷ same (command 2 reset out)
    ∷ []

-- ---- what is supposed of them

sound : Sound bare_state
unfolding everything
sound =
    let octets = octets_of_lem bare_state.image refl in
    record { octets = octets; version = refl; valid = rules-kept bare_state.image octets refl; thirty_two = refl }

starts : Start 2 bare_state bare_state
starts =
    record {
      one = sound;
      other = sound;
      alike = record { size = refl; octets = λ p c. refl; numbers = λ i below own. refl };
      agree = λ a. a;
      agreed = λ a. a;
    }

allowed : AllAllowed 2 guests
unfolding everything By is_load is_cut AllOther Allowed AllAllowed
allowed = (
  (((λ e. omega arith, λ e. omega arith), refl, tt), tt),
  (inr (inr refl, octets_of_lem dump refl), (inr (inr refl), (inr (inr refl, octets_of_lem reset refl), tt))),
)

key_parts_lem : KeyPartSame bare_state bare_state guests
unfolding everything comparison checked with_tag called entry_named command_reply commanded frames.after plain.after plain.ran here there KeyPartSame
key_parts_lem = (λ p h. refl, (λ p h. refl, (λ p h. refl, (λ p h. refl, tt))))

reports-alike : ReportsAlike 2 begin begin
reports-alike = record { one = refl; other = refl; report = refl }

pub guests_told : ToldTo 2 begin begin guests
guests_told = noted-desks 2 (omega arith, omega arith) begin begin guests starts reports-alike allowed key_parts_lem

-- ---- and the logs differ: a dump of desk 2 is no event

abbrev pub last_steps : NotedState → NotedState
last_steps x = ran x (command 2 dump out ∷ call (check (by 2) (short 10) out) ∷ command 2 reset out ∷ [])

pub logs_differ :
    ((last_steps (after begin (call (check (by 1) (short 9) out)))).notes.notes.log.kept ≡ 3)
    × ((last_steps begin).notes.notes.log.kept ≡ 2)
unfolding everything matched_number comparison checked desk_report with_report renewing laid room_for entered_in note_reply note_commanded check_noted command_noted after ran
logs_differ = (refl, refl)
