-- `wrong_desk` is right because it joins the tests that the definition joins.
-- Assumes nothing.
use Rattle.note_commands.proofs.judged.wrong_desk.Goals as goal

pub returns : goal.returns
returns c = rw c.no_desk.ensures
