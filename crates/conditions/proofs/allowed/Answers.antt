-- `allowed` is right because each arm makes the test of its procedure.
-- Assumes nothing.
use Rattle.conditions.proofs.allowed.Goals as goal

pub returns-in-Start : goal.returns-in-Start
returns-in-Start c = rw c.in-Start.is c.start_allowed.ensures

pub returns-in-Rekey : goal.returns-in-Rekey
returns-in-Rekey c = rw (c.in-Rekey.is, ← c.version_of.ensures) c.rekey_allowed.ensures

pub returns-in-SetNumber : goal.returns-in-SetNumber
returns-in-SetNumber c = rw c.in-SetNumber.is c.rise_allowed.ensures

pub returns-in-SetWindow : goal.returns-in-SetWindow
returns-in-SetWindow c = rw (c.in-SetWindow.is, c.window_fits.ensures, c.two_at.ensures)
