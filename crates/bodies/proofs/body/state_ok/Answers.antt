-- `state_ok` is right because it tests the body's state.
-- Assumes nothing.
use Rattle.bodies.proofs.body.state_ok.Goals as goal

pub returns : goal.returns
returns c = rw c.state_of.ensures
