-- Nothing is lost in the number that a command returns: the longest reply, a dump of 256 events, has 1,283 octets.
-- Assumes nothing.
use Prim.Native.Nat.{ℕ, ◌/◌, ◌≤◌}
use mathlib.Core.Path.{◌≡◌, refl}
use mathlib.Core.Bool.{Bool, true, false, cond}
use mathlib.Core.List.{List}
use native.Mathlib.Decide.{ℕ_discrete}
use native.Mathlib.Omega.{arith}
use borrow.Author.Tests.{eqb-true, ltb-true}
use lib.Dec.{eqb, ltb}
use lib.ListN.{length}
use Rattle.octets.specs.Lists.{Octets}
use Rattle.image.specs.Image.{valid_image}
use Rattle.judging.specs.Answers.{first}
use Rattle.link.specs.Calls.{refused}
use Rattle.link.proofs.Small.{Small, small-refused, small_either}
use Rattle.command_form.specs.Form.{tag_of}
use Rattle.commands.proofs.Small.{commanded-small}
use Rattle.event_log.specs.Held.{LentLog, room_for, kept_count}
use Rattle.event_log.proofs.Lines.{reply-long}
use Rattle.notes.specs.Noting.{LentNotes, log_in}
use Rattle.note_commands.specs.NoteCommands.{for_notes, note_reply, note_tests, note_commanded}
use Rattle.note_commands.proofs.Answering.{dumps, erases, replies_nothing, erase-long}
use Rattle.noting.specs.Noted.{commanded_with}
use Rattle.lent.specs.Interface.{Unpacked}
use Rattle.lent.proofs.Unpacking.{unpacked}
use Rattle.lent_commands.specs.LentCommands.{command_call}

-- ---- a command to the notes

room_most : (s : List ℕ) → room_for s ≤ 256
unfolding room_for
room_most s = by_test (ltb (length s / 3) 256) refl
  where
    by_test : (t : Bool) → ltb (length s / 3) 256 ≡ t → cond t (length s / 3) 256 ≤ 256
    by_test true e = omega (arith, ltb-true (length s / 3) 256 e)
    by_test false e = omega arith

kept-most : (l : LentLog) → kept_count l.counts.kept l.events ≤ 256
kept-most l = by_test (ltb l.counts.kept (room_for l.events)) refl
  where
    by_test : (t : Bool) → ltb l.counts.kept (room_for l.events) ≡ t → cond t l.counts.kept (room_for l.events) ≤ 256
    by_test true e = omega (arith, ltb-true l.counts.kept (room_for l.events) e, room_most l.events)
    by_test false e = room_most l.events

note_reply_short : (l : LentLog) (tag : ℕ) → length (note_reply l tag) ≤ 2048
note_reply_short l tag = by-tag (ℕ_discrete tag 0x33) (ℕ_discrete tag 0x34)
  where
    by-tag : Dec (tag ≡ 0x33) → Dec (tag ≡ 0x34) → length (note_reply l tag) ≤ 2048
    by-tag (yes e) d = rw (dumps l tag e, reply-long (kept_count l.counts.kept l.events) l.events) (omega (arith, kept-most l))
    by-tag (no n) (yes e) = rw (erases l tag n e) (omega (arith, erase-long (room_for l.events)))
    by-tag (no n) (no m) = rw (replies_nothing l tag n m) (omega arith)

note_commanded-small : (l : LentLog) (image last : List ℕ) (desk : ℕ) (command output : List ℕ)
    → Small (note_commanded l image last desk command output)
unfolding note_commanded
note_commanded-small l image last desk command output =
    let answer = first (note_tests l image last desk command (length output)) in
    small_either (eqb answer 0) (record { short = note_reply_short l (tag_of command); few = omega arith }) (small-refused answer image last output)

-- ---- every command, of octets, as all that C lends are

pub command_unpacked : (notes : LentNotes) (image numbers : List ℕ) (desk : ℕ) (command output : List ℕ) → Octets image → Octets command
    → Unpacked (command_call notes image numbers desk command output).left
unfolding command_call
command_unpacked notes image numbers desk command output octets spoken = by_count (eqb (length numbers) 32) refl
  where
    by_count : (t : Bool) → eqb (length numbers) 32 ≡ t
        → Unpacked
        (cond t (commanded_with (log_in notes) image numbers desk command output) (refused (cond (valid_image image) 2 1) image numbers output))
    by_count true e =
        unpacked (commanded_with (log_in notes) image numbers desk command output)
        (small_either (for_notes (tag_of command))
        (note_commanded-small (log_in notes) image numbers desk command output)
        (commanded-small image numbers desk command output octets spoken (eqb-true (length numbers) 32 e)))
    by_count false e = unpacked _ (small-refused (cond (valid_image image) 2 1) image numbers output)
