-- `fresh` is right because reports and log are fresh.
-- Assumes nothing.
use Rattle.notes.proofs.Notes.fresh.Goals as goal

pub returns : goal.returns
returns c = λ i. record { reports = record { octets = c.fresh.ensures i }; log = c.fresh-2.ensures i }
