-- `check_telling` is right because a frame that is not admitted is refused as its first test says, and no number is told; another is checked
-- under its entry, whose number is read in the numbers that the check left.
-- Assumes nothing.
use mathlib.Core.Path.{ap, ◌∙◌}
use mathlib.Core.Bool.{true}
use lib.ListN.{length}
use Rattle.judging.specs.Wants.{checking_wants}
use Rattle.link.specs.Calls.{left, comparison, checking_reply, checked_as, checked}
use Rattle.judging.specs.Replies.{Reply}
use Rattle.link.proofs.Carried.{carried_refusal}
use Rattle.judging.proofs.Admitting.{admitted_obeys}
use Rattle.link.proofs.Under.{checking-refused, checking_under, told_none, told_under}
use Rattle.checking.proofs.check_telling.Goals as goal

pub returns-in-Err : goal.returns-in-Err
unfolding checked checked_as
returns-in-Err c = let g = c.args in
    let r = c.in-Err.ensures in
    let right = comparison g.image.now g.numbers.last g.said g.frame.now in
    let reply = checking_reply right g.image.now g.numbers.last g.said g.frame.now (length g.output.now) in record {
      output_after = carried_refusal reply g.image.now g.output.now _ g.numbers _
          (checking-refused g.image.now g.numbers.last g.said g.frame.now (length g.output.now) _ r)
          c.refused.ensures;
      number_value = told_none g.image.now g.numbers.last g.said g.frame.now _ _ r;
    }

pub check_under-outcome-requires : goal.check_under-outcome-requires
check_under-outcome-requires c = let g = c.args in record {
  lent = c.requires;
  true_value = admitted_obeys g.image.now g.numbers.last (checking_wants g.said g.frame.now) g.said g.frame.now true _ _
      c.in-Ok.ensures;
}

pub returns-in-Ok : goal.returns-in-Ok
unfolding checked checked_as
returns-in-Ok c = let g = c.args in
    let r = c.in-Ok.ensures in record {
      output_after = c.check_under-outcome.ensures
          ∙ ap (λ (q : Reply). left q g.image.now g.numbers.last g.output.now)
          (checking_under g.image.now g.numbers.last g.said g.frame.now (length g.output.now) _ _ r);
      number_value = c.of.ensures ∙ told_under g.image.now g.numbers.last g.said g.frame.now _ _ _ r;
    }
