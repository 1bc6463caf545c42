-- `after_command` is right because reports and log are each what the definition says.
-- Assumes nothing.
use Rattle.notes.specs.Noting.{holding}
use Rattle.notes.proofs.Notes.after_command.Goals as goal

pub returns : goal.returns
returns c = λ i. holding (c.reset_by.ensures i) (c.logged.ensures i)
