-- `counts_length` is right because the two octets that it joins are those of the length field.
-- Assumes nothing.
use Rattle.telecommand.proofs.Tc.counts_length.Goals as goal

pub returns : goal.returns
returns c = rw (c.wide.ensures, c.wide-2.ensures, c.octet_at.ensures, c.octet_at-2.ensures)
