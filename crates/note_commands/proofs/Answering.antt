-- A command to the notes, by the first test that applies: a refusal changes nothing, and past the last test the reply has room.
-- Assumes nothing.
use Prim.Native.Nat.{ℕ}
use mathlib.Core.Path.{◌≡◌, refl, ap, ◌∙◌}
use mathlib.Core.Bool.{not}
use mathlib.Core.List.{List, []}
use native.Mathlib.Omega.{arith}
use borrow.Author.Tests.{eq-eqb, ne_eqb, ltb-false, le-leb}
use lib.ListN.{length}
use Rattle.std.specs.Prelude.{Err}
use Rattle.octets.specs.Numbers.{bytes}
use Rattle.octets.specs.Output.{written, fronted}
use Rattle.octets.proofs.Filling.{with_room}
use Rattle.image.specs.Image.{valid_image}
use Rattle.numbers.specs.Numbers.{agrees}
use Rattle.numbers.specs.declared.numbers.Numbers.{Numbers}
use Rattle.judging.specs.Answers.{Reported, refusal, first}
use Rattle.judging.specs.Verdicts.{Refuses}
use Rattle.judging.specs.declared.answers.Refusal.{Refusal}
use Rattle.judging.proofs.First.{passed}
use Rattle.link.specs.Calls.{Left, leaving}
use Rattle.link.specs.Steps.{outcome}
use Rattle.link.specs.declared.outcome.Outcome.{Outcome}
use Rattle.command_form.specs.Form.{tag_of}
use Rattle.event_log.specs.Events.{dump_reply, erase_reply}
use Rattle.event_log.specs.Held.{LentLog, room_for, held}
use Rattle.note_commands.specs.NoteCommands.{wrong_desk, bare, note_reply, note_tests, note_commanded}

-- ---- the reply, by the first octet

module _ (log : LentLog) (tag : ℕ) where
  pub dumps : tag ≡ 0x33 → note_reply log tag ≡ dump_reply (held log).kept
  unfolding note_reply
  dumps e = rw (eq-eqb tag 0x33 e)

  pub erases : (tag ≡ 0x33 → ⊥) → tag ≡ 0x34 → note_reply log tag ≡ erase_reply (room_for log.events)
  unfolding note_reply
  erases n e = rw (ne_eqb tag 0x33 n, eq-eqb tag 0x34 e)

  pub replies_nothing : (tag ≡ 0x33 → ⊥) → (tag ≡ 0x34 → ⊥) → note_reply log tag ≡ []
  unfolding note_reply
  replies_nothing n m = rw (ne_eqb tag 0x33 n, ne_eqb tag 0x34 m)

pub erase-long : (room : ℕ) → 7 ≡ length (erase_reply room)
unfolding erase_reply bytes
erase-long room = refl

-- ---- what is left

-- with no reply the output stays
pub fronted-none : (out : List ℕ) → out ≡ fronted [] out
unfolding fronted
fronted-none out = rw (le-leb 0 (length out) (omega arith))

module _ (log : LentLog) (image : List ℕ) (numbers : Numbers) (desk : ℕ) (command output : List ℕ) where
  abbrev answer : ℕ
  answer = first (note_tests log image numbers.last desk command (length output))

  abbrev reply : List ℕ
  reply = note_reply log (tag_of command)

  pub refusal-left : (a : Refusal) (r : Outcome) → Refuses a answer → r ≡ outcome (Err a) numbers
      → leaving r image output ≡ note_commanded log image numbers.last desk command output
  unfolding note_commanded
  refusal-left a r j e =
      let of : Reported → Left = λ x.
      record {
        answer = x.number;
        length = x.length;
        stores = x.stores;
        image = image;
        numbers = numbers.last;
        output = output;
      }
      in
      ap (λ (x : Outcome). leaving x image output) e ∙ ap (λ (n : ℕ). of (refusal n)) j.answer ∙ rw (ne_eqb answer 0 (λ z. omega (arith, j.some)))

  roomy : answer ≡ 0 → fronted reply output ≡ written reply output
  roomy z =
      let t1 = passed 1 (not (valid_image image)) _ (omega arith) z in
      let t2 = passed 2 (not (agrees image numbers.last)) _ (omega arith) t1.1 in
      let t19 = passed 19 (wrong_desk desk (tag_of command)) _ (omega arith) t2.1 in
      let t13 = passed 13 (not (bare command)) _ (omega arith) t19.1 in
      let t6 = passed 6 _ _ (omega arith) t13.1 in
      with_room reply output (ltb-false (length output) (length reply) t6.0)

  pub reply-left : (size : ℕ) (out : List ℕ) → answer ≡ 0 → size ≡ length reply → out ≡ fronted reply output
      → ◌≡◌ {A = Left} (record { answer = 0; length = size; stores = 0; image = image; numbers = numbers.last; output = out })
      (note_commanded log image numbers.last desk command output)
  unfolding note_commanded
  reply-left size out z s o =
      let wrote : out ≡ written reply output = o ∙ roomy z in
      rw (eq-eqb answer 0 z)
      (λ i. record { answer = 0; length = s i; stores = 0; image = image; numbers = numbers.last; output = wrote i })
