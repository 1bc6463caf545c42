-- `wrong_desk` is right because it joins the tests that the definition joins.
-- Assumes nothing.
use Rattle.addressing.proofs.address.wrong_desk.Goals as goal

pub returns : goal.returns
returns c = rw (c.key_command.ensures, c.no_desk.ensures)
