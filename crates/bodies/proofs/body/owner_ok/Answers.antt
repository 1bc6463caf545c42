-- `owner_ok` is right because it tests the body's owner.
-- Assumes nothing.
use Rattle.bodies.proofs.body.owner_ok.Goals as goal

pub returns : goal.returns
returns c = rw c.owner_of-owner.ensures
