-- `direction_ok` is right because it tests the body's direction.
-- Assumes nothing.
use Rattle.bodies.proofs.body.direction_ok.Goals as goal

pub returns : goal.returns
returns c = rw c.direction_of-direction.ensures
