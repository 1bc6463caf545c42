-- `keeps_rules` is right because the octet that it tests is the frame's first.
-- Assumes nothing.
use Rattle.telecommand.proofs.Tc.keeps_rules.Goals as goal

pub returns : goal.returns
returns c = rw c.octet_at-first.ensures
