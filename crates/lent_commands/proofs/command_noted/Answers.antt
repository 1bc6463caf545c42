-- `command_noted` is right because with 32 numbers it is the command call with the notes, and with another count the refusal, noted.
-- Assumes nothing.
use Prim.Native.Nat.{ℕ}
use mathlib.Core.Path.{ap, ◌∙◌}
use mathlib.Core.Bool.{cond}
use mathlib.Core.List.{List}
use Rattle.image.specs.Image.{valid_image}
use Rattle.link.specs.Calls.{Left}
use Rattle.notes.specs.Noting.{lent_notes, log_in, noted_command}
use Rattle.noting.specs.Noted.{commanded_with, command_left, command_noted}
use Rattle.lent.proofs.Returning.{noted-returned, noted-miscounted}
use Rattle.lent_commands.specs.LentCommands.{command_call}
use Rattle.lent_commands.proofs.command_noted.Goals as goal

pub returns-then-numbers-ne32 : goal.returns-then-numbers-ne32
unfolding command_call
returns-then-numbers-ne32 c = let g = c.args in
    let notes = lent_notes g.notes g.events.now in
    noted-miscounted
    (λ (n : List ℕ) (x : Left). (command_left notes g.desk g.command.now x).notes)
    (λ (n : List ℕ). commanded_with (log_in notes) g.image.now n g.desk g.command.now g.output.now)
    g.image.now g.numbers.now g.output.now
    c.if-numbers-ne32.true
    c.refuse_command.ensures.0
    (c.refuse_command.ensures.1
    ∙ ap (λ (t : ℕ). noted_command notes g.desk t (cond (valid_image g.image.now) 2 1)) c.octet_at.ensures)

pub returns : goal.returns
unfolding command_call command_noted
returns c = let g = c.args in
    let notes = lent_notes g.notes g.events.now in
    noted-returned
    (λ (n : List ℕ) (x : Left). (command_left notes g.desk g.command.now x).notes)
    (λ (n : List ℕ). commanded_with (log_in notes) g.image.now n g.desk g.command.now g.output.now)
    g.image.now g.numbers.now g.output.now
    c.command_noted-noted.result
    c.if-numbers-ne32.false
    c.numbers_in-given.ensures
    c.command_noted-noted.ensures
    c.returned.ensures

pub octet_at-requires : goal.octet_at-requires
octet_at-requires c = tt

pub refuse_command-requires : goal.refuse_command-requires
refuse_command-requires c = tt

pub command_noted-noted-requires : goal.command_noted-noted-requires
command_noted-noted-requires c = tt
