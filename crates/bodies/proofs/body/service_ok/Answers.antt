-- `service_ok` is right because it tests the body's service.
-- Assumes nothing.
use Rattle.bodies.proofs.body.service_ok.Goals as goal

pub returns : goal.returns
returns c = rw c.service_of-service.ensures
