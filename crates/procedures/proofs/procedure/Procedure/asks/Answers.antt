-- `asks` is right because each arm makes the test of its procedure.
-- Assumes nothing.
use Rattle.procedures.proofs.procedure.Procedure.asks.Goals as goal

pub returns-in-Start : goal.returns-in-Start
returns-in-Start c = rw c.in-Start.is

pub returns-in-Stop : goal.returns-in-Stop
returns-in-Stop c = rw c.in-Stop.is

pub returns-in-Rekey : goal.returns-in-Rekey
returns-in-Rekey c = rw c.in-Rekey.is

pub returns-in-Expire : goal.returns-in-Expire
returns-in-Expire c = rw c.in-Expire.is

pub returns-in-SetWindow : goal.returns-in-SetWindow
returns-in-SetWindow c = rw c.in-SetWindow.is
