-- `version_ok` is right because it compares the version with that of its layout.
-- Assumes nothing.
use Rattle.bodies.proofs.layout.version_ok.Goals as goal

pub returns : goal.returns
returns c = rw c.layout_of.ensures.0
