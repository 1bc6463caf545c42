-- `command` is right because a command that is not addressed is refused as its first test says, and another is carried out under its entry.
-- Assumes nothing.
use Prim.Native.Nat.{ℕ, ◌-◌}
use mathlib.Core.Path.{◌≡◌, ap, ◌∙◌, subst}
use mathlib.Core.List.{List}
use native.Mathlib.Omega.{arith}
use lib.ListN.{length, take, drop, length-drop}
use lib.Seq.{take_all}
use Rattle.judging.specs.Replies.{Reply}
use Rattle.link.specs.Calls.{left}
use Rattle.link.proofs.Carried.{carried_refusal}
use Rattle.command_form.specs.Form.{front_length}
use Rattle.commands.specs.Commanding.{command_reply, commanded}
use Rattle.commands.specs.Steps.{reply_under}
use Rattle.commands.proofs.Addressing.{command-refused, command_under}
use borrow.Author.Rules.{rules}
use Rattle.commands.proofs.command.Goals as goal

pub slice_bounds-command_under-count : goal.slice_bounds-command_under-count
slice_bounds-command_under-count c = let g = c.args in
    let l = c.in-Ok.ensures.long in
    search rules

pub slice_bounds-command_under-start : goal.slice_bounds-command_under-start
slice_bounds-command_under-start c = let g = c.args in
    let l = c.in-Ok.ensures.long in
    search rules

pub returns-in-Err : goal.returns-in-Err
unfolding commanded
returns-in-Err c = let g = c.args in
    carried_refusal (command_reply g.image.now g.numbers.last g.desk g.command.now (length g.output.now)) g.image.now g.output.now _ g.numbers _
    (command-refused g.image.now g.numbers.last g.desk g.command.now (length g.output.now) _
    c.in-Err.ensures)
    c.refused.ensures

pub returns-in-Ok : goal.returns-in-Ok
unfolding commanded
returns-in-Ok c = let g = c.args in
    let value : take (length g.command.now - front_length) (drop front_length g.command.now) ≡ drop front_length g.command.now =
    take_all (length g.command.now - front_length) (drop front_length g.command.now) (simp length-drop (omega arith)) in
    c.command_under.ensures
    ∙ ap (λ (v : List ℕ). left (reply_under c.in-Ok.address.procedure g.image.now g.numbers.last c.in-Ok.address.entry v (length g.output.now)) g.image.now g.numbers.last g.output.now) value
    ∙ ap (λ (q : Reply). left q g.image.now g.numbers.last g.output.now)
    (command_under g.image.now g.numbers.last g.desk g.command.now (length g.output.now) _ _
    c.in-Ok.ensures)
