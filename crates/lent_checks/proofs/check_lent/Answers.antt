-- `check_lent` is right because with 32 numbers it is checking with the notes, and with another count the refusal, noted.
-- Assumes nothing.
use Prim.Native.Nat.{ℕ}
use mathlib.Core.Path.{◌∙◌}
use mathlib.Core.List.{List}
use Rattle.image.specs.Image.{valid_image}
use Rattle.link.specs.Calls.{Left, checked}
use Rattle.notes.specs.Noting.{lent_notes}
use Rattle.noting.specs.Noted.{check_left, check_noted}
use Rattle.lent.specs.Interface.{told}
use Rattle.lent.proofs.Returning.{noted-returned, noted-miscounted}
use Rattle.lent_checks.specs.LentChecks.{check_call}
use Rattle.lent_checks.proofs.Unread.{unread-told}
use Rattle.lent_checks.proofs.check_lent.Goals as goal

pub returns-then-numbers-ne32 : goal.returns-then-numbers-ne32
unfolding check_call
returns-then-numbers-ne32 c = let g = c.args in
    let said = told g.desk g.kind g.field in
    let notes = lent_notes g.notes g.events.now in
    noted-miscounted
    (λ (n : List ℕ) (x : Left). (check_left notes g.image.now n said g.frame.now x).notes)
    (λ (n : List ℕ). checked g.image.now n said g.frame.now g.output.now)
    g.image.now g.numbers.now g.output.now
    c.if-numbers-ne32.true
    c.refuse_check.ensures.0
    (c.refuse_check.ensures.1 ∙ unread-told notes g.desk (valid_image g.image.now) _ _)

pub returns : goal.returns
unfolding check_call check_noted
returns c = let g = c.args in
    let said = told g.desk g.kind g.field in
    noted-returned
    (λ (n : List ℕ) (x : Left). (check_left (lent_notes g.notes g.events.now) g.image.now n said g.frame.now x).notes)
    (λ (n : List ℕ). checked g.image.now n said g.frame.now g.output.now)
    g.image.now g.numbers.now g.output.now
    c.check_noted-noted.result
    c.if-numbers-ne32.false
    c.numbers_in-given.ensures
    c.check_noted-noted.ensures
    c.returned.ensures

pub refuse_check-requires : goal.refuse_check-requires
refuse_check-requires c = tt
