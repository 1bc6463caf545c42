-- `secure_by` is right because a frame that is not admitted is refused as its first test says, and another is secured under its entry.
-- Assumes nothing.
use mathlib.Core.Path.{ap, ◌∙◌}
use mathlib.Core.Bool.{false}
use lib.ListN.{length}
use Rattle.judging.specs.Wants.{securing_wants}
use Rattle.link.specs.Calls.{left, securing_reply, secured}
use Rattle.judging.specs.Replies.{Reply}
use Rattle.link.proofs.Carried.{carried_refusal}
use Rattle.judging.proofs.Admitting.{admitted_obeys}
use Rattle.link.proofs.Under.{securing-refused, securing_under}
use Rattle.securing.proofs.secure_by.Goals as goal

pub returns-in-Err : goal.returns-in-Err
unfolding secured
returns-in-Err c = let g = c.args in
    let reply = securing_reply g.image.now g.numbers.last g.said g.spi g.frame.now (length g.output.now) in
    carried_refusal reply g.image.now g.output.now _ g.numbers _
    (securing-refused g.image.now g.numbers.last g.said g.spi g.frame.now (length g.output.now) _ c.in-Err.ensures)
    c.refused.ensures

pub secure_under-requires : goal.secure_under-requires
secure_under-requires c = let g = c.args in record {
  lent = c.requires;
  false_value = admitted_obeys g.image.now g.numbers.last (securing_wants g.said g.spi g.frame.now) g.said g.frame.now false _ _
      c.in-Ok.ensures;
}

pub returns-in-Ok : goal.returns-in-Ok
unfolding secured
returns-in-Ok c = let g = c.args in
    c.secure_under.ensures
    ∙ ap (λ (q : Reply). left q g.image.now g.numbers.last g.output.now)
    (securing_under g.image.now g.numbers.last g.said g.spi g.frame.now (length g.output.now) _ _ c.in-Ok.ensures)
