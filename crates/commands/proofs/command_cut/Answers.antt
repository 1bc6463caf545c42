-- `command_cut` is right because a command that is not addressed makes no store, and another is cut under its entry.
-- Assumes nothing.
use Prim.Native.Nat.{◌-◌}
use mathlib.Core.Path.{◌≡◌, ap, ◌∙◌, subst}
use mathlib.Core.List.{List}
use Prim.Native.Nat.{ℕ}
use native.Mathlib.Omega.{arith}
use lib.ListN.{length, take, drop, length-drop}
use lib.Seq.{take_all}
use Rattle.judging.specs.Replies.{Reply}
use Rattle.link.specs.Calls.{cut}
use Rattle.command_form.specs.Form.{front_length}
use Rattle.commands.specs.Commanding.{made_by, command_reply}
use Rattle.commands.specs.Steps.{reply_under}
use Rattle.commands.proofs.Addressing.{command-refused, command_under}
use Rattle.commands.proofs.Cutting.{cut-refusal}
use borrow.Author.Rules.{rules}
use Rattle.commands.proofs.command_cut.Goals as goal

pub slice_bounds-cut_under-count : goal.slice_bounds-cut_under-count
slice_bounds-cut_under-count c = let g = c.args in
    let l = c.in-Ok.ensures.long in
    search rules

pub slice_bounds-cut_under-start : goal.slice_bounds-cut_under-start
slice_bounds-cut_under-start c = let g = c.args in
    let l = c.in-Ok.ensures.long in
    search rules

pub returns-in-Err : goal.returns-in-Err
returns-in-Err c = let g = c.args in
    let refused = c.in-Err.ensures in
    let made = cut-refusal (command_reply g.image.now g.numbers.last g.desk g.command.now g.room) g.image.now g.stores _
    (command-refused g.image.now g.numbers.last g.desk g.command.now g.room _ refused) in
    record { value = made.0; image_after = made.1 }

pub returns-in-Ok : goal.returns-in-Ok
returns-in-Ok c = let g = c.args in
    let p = c.in-Ok.address.procedure in
    let e = c.in-Ok.address.entry in
    let value : take (length g.command.now - front_length) (drop front_length g.command.now) ≡ drop front_length g.command.now =
    take_all (length g.command.now - front_length) (drop front_length g.command.now) (simp length-drop (omega arith)) in
    let whole = ap (λ (v : List ℕ). reply_under p g.image.now g.numbers.last e v g.room) value
    ∙ command_under g.image.now g.numbers.last g.desk g.command.now g.room p e
    c.in-Ok.ensures in record {
      value = c.cut_under.ensures.value ∙ ap (λ (q : Reply). length (take g.stores (made_by q))) whole;
      image_after = c.cut_under.ensures.image_after ∙ ap (λ (q : Reply). cut q g.image.now g.stores) whole;
    }
