-- `measured` is right because it joins the two tests that the definition joins.
-- Assumes nothing.
use Rattle.command_form.proofs.form.measured.Goals as goal

pub returns : goal.returns
returns c = rw (c.value_length.ensures, c.two_at.ensures)
