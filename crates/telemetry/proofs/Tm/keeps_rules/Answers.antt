-- `keeps_rules` is right because the octets that it tests are the first of the frame, of its data field status and of its secondary header.
-- Assumes nothing.
use Rattle.telemetry.proofs.Tm.keeps_rules.Goals as goal

pub returns : goal.returns
returns c = rw (c.octet_at-secondary.ensures, c.octet_at.ensures, c.octet_at-2.ensures)
