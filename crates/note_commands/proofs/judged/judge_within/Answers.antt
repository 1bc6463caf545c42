-- `judge_within` is right because it asks the definition's tests in their order, and each way out is the first that applies.
-- Assumes nothing.
use mathlib.Core.Path.{◌≡◌, sym, ap, ◌∙◌}
use mathlib.Core.Bool.{Bool, true, false, not}
use mathlib.Core.List.{List}
use Prim.Native.Nat.{ℕ}
use native.Mathlib.Omega.{arith}
use borrow.Author.Tests.{lt-ltb, le-ltb}
use lib.ListN.{length, drop}
use Rattle.command_form.specs.Form.{tag_of}
use Rattle.judging.specs.Answers.{Test, first}
use Rattle.judging.specs.declared.answers.Refusal.TheVariants as refused
use Rattle.judging.proofs.Admitting.{refuses}
use Rattle.judging.proofs.First.{none_left, applies, passes}
use Rattle.event_log.specs.Held.{LentLog, lent_log}
use Rattle.note_commands.specs.NoteCommands.{wrong_desk, bare, note_reply, desk_tests}
use Rattle.note_commands.proofs.judged.judge_within.Goals as goal

module _ (log : LentLog) (desk : ℕ) (command : List ℕ) (room : ℕ) where
  abbrev tests : List Test
  tests = desk_tests log desk command room

  -- ---- 19

  wrong : {t : ℕ} {r : Bool} → t ≡ tag_of command → r ≡ wrong_desk desk t → r ≡ wrong_desk desk (tag_of command)
  wrong e w = w ∙ ap (wrong_desk desk) e

  past-19 : {t : ℕ} {r : Bool} → t ≡ tag_of command → r ≡ wrong_desk desk t → r ≡ false → first tests ≡ first (drop 1 tests)
  past-19 e w f = passes 19 _ _ (sym (wrong e w) ∙ f)

  -- ---- 13

  past-13 : {t : ℕ} {r b : Bool} → t ≡ tag_of command → r ≡ wrong_desk desk t → r ≡ false → b ≡ bare command → b ≡ true
      → first tests ≡ first (drop 2 tests)
  past-13 e w f n h = past-19 e w f ∙ passes 13 _ _ (ap not (sym n ∙ h))

  -- ---- 6

  sized : {t size : ℕ} → t ≡ tag_of command → size ≡ length (note_reply log t) → size ≡ length (note_reply log (tag_of command))
  sized e s = s ∙ ap (λ (u : ℕ). length (note_reply log u)) e

pub returns-then-wrong_desk : goal.returns-then-wrong_desk
returns-then-wrong_desk c =
    let g = c.args in
    refuses refused.WrongDesk _ (omega arith)
    (applies 19 _ _
    (sym (wrong (lent_log g.log g.events.now) g.desk g.command.now g.room c.octet_at-tag.ensures c.wrong_desk.ensures)
    ∙ c.if-wrong_desk.true))

pub returns-then-not-bare : goal.returns-then-not-bare
returns-then-not-bare c =
    let g = c.args in
    refuses refused.BadCommand _ (omega arith)
    (past-19 (lent_log g.log g.events.now) g.desk g.command.now g.room c.octet_at-tag.ensures c.wrong_desk.ensures c.if-wrong_desk.false
    ∙ applies 13 _ _ (ap not (sym c.bare.ensures ∙ c.if-not-bare.true)))

pub returns-then-room-size : goal.returns-then-room-size
returns-then-room-size c =
    let g = c.args in
    let log = lent_log g.log g.events.now in
    refuses refused.NoRoom _ (omega arith)
    (past-13 log g.desk g.command.now g.room c.octet_at-tag.ensures c.wrong_desk.ensures c.if-wrong_desk.false c.bare.ensures c.if-not-bare.false
    ∙ applies 6 _ _
    (lt-ltb g.room _ (omega (arith, sized log g.desk g.command.now g.room c.octet_at-tag.ensures c.reply_size-size.ensures))))

pub returns : goal.returns
returns c =
    let g = c.args in
    let log = lent_log g.log g.events.now in
    let size = sized log g.desk g.command.now g.room c.octet_at-tag.ensures c.reply_size-size.ensures in (
      past-13 log g.desk g.command.now g.room c.octet_at-tag.ensures c.wrong_desk.ensures c.if-wrong_desk.false c.bare.ensures
          c.if-not-bare.false
          ∙ passes 6 _ _ (le-ltb g.room _ (omega (arith, size)))
          ∙ none_left,
      size,
    )
