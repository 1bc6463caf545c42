-- Document 02, request 11: the commands to the caller's notes: dump and erase, which the key office alone gives, and alarm reset. They read no
-- entry and store nothing, so they stand beside the procedures, which are carried out on an image. The answer is the first that applies of 1,
-- 2, 19, 13 and 6. What a command does to the notes is said in crate notes, of these and of every other.
-- Assumes nothing.
use Rattle.std.specs.Prelude.{ℕ, Bool, cond, not, ◌&&◌, ◌||◌, List, [], ◌∷◌, eqb, ltb, length}
use Rattle.octets.specs.Output.{written}
use Rattle.bodies.specs.Body.{key_office}
use Rattle.image.specs.Image.{valid_image}
use Rattle.numbers.specs.Numbers.{agrees}
use Rattle.judging.specs.Answers.{Test, first}
use Rattle.judging.specs.Said.{no_desk}
use Rattle.link.specs.Calls.{Left, refused}
use Rattle.command_form.specs.Form.{tag_of, value_of, measured}
use Rattle.event_log.specs.Events.{dump_reply, erase_reply}
use Rattle.event_log.specs.Held.{LentLog, room_for, held}
use Rattle.notes.specs.Noting.{dump_tag, erase_tag, alarm_reset_tag, for_log}

-- by its first octet, whatever its length
abbrev pub for_notes : ℕ → Bool
for_notes tag = for_log tag || eqb tag alarm_reset_tag

-- a number that is no desk's, or a command to the log from another desk than the key office's
abbrev pub wrong_desk : ℕ → ℕ → Bool
wrong_desk desk tag = no_desk desk || (for_log tag && not (eqb desk key_office))

-- its value is empty
abbrev pub bare : List ℕ → Bool
bare command = measured command && eqb (length (value_of command)) 0

-- every octet of the reply; none for no reply
unfoldable pub note_reply : LentLog → ℕ → List ℕ
note_reply log tag = cond (eqb tag dump_tag) (dump_reply (held log).kept) (cond (eqb tag erase_tag) (erase_reply (room_for log.events)) [])

-- past 1 and 2, with that much room in the output
abbrev pub desk_tests : LentLog → ℕ → List ℕ → ℕ → List Test
desk_tests log desk command room =
    (19, wrong_desk desk (tag_of command)) ∷ (13, not (bare command)) ∷ (6, ltb room (length (note_reply log (tag_of command)))) ∷ []

abbrev pub note_tests : LentLog → List ℕ → List ℕ → ℕ → List ℕ → ℕ → List Test
note_tests log image last desk command room = (1, not (valid_image image)) ∷ (2, not (agrees image last)) ∷ desk_tests log desk command room

-- ---- carried out: log, image, numbers, desk, command, output

-- the reply at the start of the output, whose rest stays; nothing is stored
abbrev pub replied : List ℕ → List ℕ → List ℕ → List ℕ → Left
replied reply image last output =
    record {
      answer = 0;
      length = length reply;
      stores = 0;
      image = image;
      numbers = last;
      output = written reply output;
    }

abbrev pub answered_by : ℕ → List ℕ → List ℕ → List ℕ → List ℕ → Left
answered_by answer reply image last output = cond (eqb answer 0) (replied reply image last output) (refused answer image last output)

unfoldable pub note_commanded : LentLog → List ℕ → List ℕ → ℕ → List ℕ → List ℕ → Left
note_commanded log image last desk command output =
    answered_by (first (note_tests log image last desk command (length output))) (note_reply log (tag_of command)) image last output
