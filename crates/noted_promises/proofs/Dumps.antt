-- Dump and erase: one that is done leaves its reply and nothing else beside the notes, and what it does to the notes is told by its first octet.
-- Assumes nothing.
use Prim.Native.Nat.{ℕ, ◌≤◌}
use mathlib.Core.Path.{◌≡◌, refl, sym, ap, ◌∙◌}
use mathlib.Core.Logic.{◌≢◌, inl, inr}
use mathlib.Core.List.{List, [], ◌∷◌}
use native.Mathlib.Omega.{arith}
use borrow.Author.Tests.{eq-eqb, ne_eqb}
use lib.ListN.{length}
use Rattle.octets.specs.Lists.{octet, Octets}
use Rattle.octets.specs.Numbers.{bytes}
use Rattle.command_form.specs.Form.{tag_of}
use Rattle.notes.specs.Noting.{LentNotes, log_in}
use Rattle.note_commands.specs.NoteCommands.{note_reply, replied}
use Rattle.noting.specs.Noted.{Noted, command_noted}
use Rattle.promises.specs.Answers.{reporting, Gives}
use Rattle.promises.specs.Images.{ImageRules, Agreeing}
use Rattle.noted_promises.specs.Answers.{room_in}
use Rattle.noted_promises.specs.Dumps.{dump_of, erase_of, Replies, Erased, Dumped}
use Rattle.noted_promises.specs.Refusals.{ForLog}
use Rattle.noted_promises.proofs.Judged.{done-left, dump-is, erase-is, note_command_answers}
use Rattle.noted_promises.proofs.Refusals.{command-notes}

module _ (n : LentNotes) (image numbers : List ℕ) (desk : ℕ) (command output : List ℕ) where
  abbrev y : Noted
  y = command_noted n image numbers desk command output

  replies : (reply : List ℕ) → y.left ≡ replied reply image numbers output → Replies image numbers output reply y.left
  replies reply e = rw e (record { size = refl; stores = refl; images = refl; lasts = refl; outputs = refl })

  -- ---- done

  dump-reply : tag_of command ≡ 0x33 → note_reply (log_in n) (tag_of command) ≡ dump_of n
  unfolding note_reply
  dump-reply e = rw (eq-eqb (tag_of command) 0x33 e) (dump-is n)

  erase-reply : tag_of command ≡ 0x34 → note_reply (log_in n) (tag_of command) ≡ erase_of n
  unfolding note_reply
  erase-reply e = rw e (erase-is n)

  no_reply_lem : tag_of command ≡ 0x37 → note_reply (log_in n) (tag_of command) ≡ []
  unfolding note_reply
  no_reply_lem e = rw e

  dumped : octet command 0 ≡ 0x33 → y.left.answer ≡ 0 → Replies image numbers output (dump_of n) y.left × (y.notes ≡ n)
  dumped e z =
      let left = done-left n image numbers desk command output (inl (inl e)) z in (
        replies (dump_of n) (left ∙ ap (λ (r : List ℕ). replied r image numbers output) (dump-reply e)),
        command-notes n image numbers desk command output ∙ rw e,
      )

  erased : octet command 0 ≡ 0x34 → y.left.answer ≡ 0 → Replies image numbers output (erase_of n) y.left × Erased n y.notes
  erased e z =
      let left = done-left n image numbers desk command output (inl (inr e)) z in (
        replies (erase_of n) (left ∙ ap (λ (r : List ℕ). replied r image numbers output) (erase-reply e)),
        rw (command-notes n image numbers desk command output, e, z) (record { kept = refl; dropped = refl; events = refl; reports = refl }),
      )

  reset : tag_of command ≡ 0x37 → y.left.answer ≡ 0 → Replies image numbers output [] y.left
  reset e z =
      replies [] (done-left n image numbers desk command output (inr e) z ∙ ap (λ (r : List ℕ). replied r image numbers output) (no_reply_lem e))

  -- ---- refused

  not_noted : ForLog command → (y.left.answer ≡ 0 → ⊥) → y.notes ≡ n
  not_noted (inl e) refuse = command-notes n image numbers desk command output ∙ rw e
  not_noted (inr e) refuse = command-notes n image numbers desk command output ∙ rw (e, ne_eqb y.left.answer 0 refuse)

  other-desk : Octets image → ImageRules image → Agreeing image numbers → ForLog command → desk ≢ 0 → y.left.answer ≡ 19
  unfolding Gives
  other-desk octets rules agree log other =
      let given = (note_command_answers.commanding n image numbers desk command output octets (inl log)).alone
      (reporting 19 0 0) (inr (rules, inr (agree, inl (λ r. other (r.office log), refl)))) in
      sym given

room : (n : LentNotes) → 768 ≤ length n.events → erase_of n ≡ 0xB4 ∷ 0 ∷ 4 ∷ 0 ∷ 0 ∷ 3 ∷ 0 ∷ []
unfolding bytes
room n h =
    let whole : room_in n ≡ 256 = omega arith in
    rw whole

pub dumped_told : Dumped
dumped_told = record { dump = dumped; erase = erased; room = room; reset = reset; refused = not_noted; desks = other-desk }
