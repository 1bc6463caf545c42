-- `bare` is right because it joins the tests that the definition joins.
-- Assumes nothing.
use Rattle.note_commands.proofs.judged.bare.Goals as goal

pub returns : goal.returns
returns c = rw (c.value_length.ensures, c.measured.ensures)
