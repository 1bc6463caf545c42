-- `field_ok` is right because it asks for the field where one ends the frame, and nothing elsewhere.
-- Assumes nothing.
use Rattle.frame.specs.Closing.{field_ok}
use Rattle.frame.proofs.closing.field_ok.Goals as goal

pub returns-then-framing : goal.returns-then-framing
unfolding field_ok
returns-then-framing c = rw c.if-framing.true c.right_field.ensures

pub returns : goal.returns
unfolding field_ok
returns c = rw c.if-framing.false
