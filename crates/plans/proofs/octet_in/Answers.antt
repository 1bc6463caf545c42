-- `octet_in` is right because the body stands where the definition has it.
-- Assumes nothing.
use Rattle.plans.proofs.octet_in.Goals as goal

pub returns : goal.returns
returns c = rw c.body_at.ensures.0
