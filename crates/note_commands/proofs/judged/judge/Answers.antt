-- `judge` is right because an image that breaks a rule is answered by 1, numbers that do not agree by 2, and the rest past these.
-- Assumes nothing.
use mathlib.Core.Path.{◌≡◌, sym, ap, ◌∙◌, subst}
use mathlib.Core.Bool.{not}
use Prim.Native.Nat.{ℕ}
use lib.ListN.{length}
use Rattle.std.specs.Prelude.{Result}
use Rattle.command_form.specs.Form.{tag_of}
use Rattle.judging.specs.Answers.{first}
use Rattle.judging.specs.declared.answers.Refusal.{Refusal}
use Rattle.judging.proofs.First.{passes}
use Rattle.judging.proofs.Standings.{standing_well, unfit_passed}
use Rattle.event_log.specs.Held.{lent_log}
use Rattle.note_commands.specs.NoteCommands.{note_reply, desk_tests, note_tests}
use Rattle.note_commands.specs.Steps.{Ruled}
use Rattle.note_commands.proofs.judged.judge.Goals as goal

pub returns-in_err-test_standing : goal.returns-in_err-test_standing
returns-in_err-test_standing c = let g = c.args in
    let lent = lent_log g.log g.events.now in
    let tests = note_tests lent g.image.now g.numbers.last g.desk g.command.now g.room in
    unfit_passed g.image.now g.numbers.last
    (λ (x : Result ℕ Refusal). Ruled x (first tests) (length (note_reply lent (tag_of g.command.now)))) _ _
    (desk_tests lent g.desk g.command.now g.room) (λ r j. j) (sym c.in_err-test_standing.ensures) c.from_residual.ensures.1

pub returns : goal.returns
returns c = let g = c.args in
    let lent = lent_log g.log g.events.now in
    let w = standing_well g.image.now g.numbers.last (sym c.in_ok-test_standing.ensures) in
    let past : first (note_tests lent g.image.now g.numbers.last g.desk g.command.now g.room)
    ≡ first (desk_tests lent g.desk g.command.now g.room) = passes 1 _ _ (ap not w.0) ∙ passes 2 _ _ (ap not w.1) in
    subst (λ (a : ℕ). Ruled c.judge_within.result a (length (note_reply lent (tag_of g.command.now)))) (sym past) c.judge_within.ensures
