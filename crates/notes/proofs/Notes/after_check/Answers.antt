-- `after_check` is right because reports and log are each what the definition says.
-- Assumes nothing.
use Rattle.notes.specs.Noting.{holding}
use Rattle.notes.proofs.Notes.after_check.Goals as goal

pub returns : goal.returns
returns c = λ i. holding (c.after_check.ensures i) (c.entered.ensures i)
