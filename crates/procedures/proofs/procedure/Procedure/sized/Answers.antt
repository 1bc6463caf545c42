-- `sized` is right because each arm makes the test of its procedure.
-- Assumes nothing.
use Rattle.procedures.proofs.procedure.Procedure.sized.Goals as goal

pub returns-in-Start : goal.returns-in-Start
returns-in-Start c = rw c.in-Start.is c.channelled.ensures

pub returns-in-Stop : goal.returns-in-Stop
returns-in-Stop c = rw c.in-Stop.is

pub returns-in-Rekey : goal.returns-in-Rekey
returns-in-Rekey c = rw c.in-Rekey.is

pub returns-in-Expire : goal.returns-in-Expire
returns-in-Expire c = rw c.in-Expire.is

pub returns-in-SetNumber : goal.returns-in-SetNumber
returns-in-SetNumber c = rw c.in-SetNumber.is

pub returns-in-SetWindow : goal.returns-in-SetWindow
returns-in-SetWindow c = rw c.in-SetWindow.is

pub returns-in-Status : goal.returns-in-Status
returns-in-Status c = rw c.in-Status.is

pub returns-in-ReadNumber : goal.returns-in-ReadNumber
returns-in-ReadNumber c = rw c.in-ReadNumber.is

pub returns-in-Ping : goal.returns-in-Ping
returns-in-Ping c = rw c.in-Ping.is

pub returns-in-Activation : goal.returns-in-Activation
returns-in-Activation c = rw c.in-Activation.is

pub returns-in-Deactivation : goal.returns-in-Deactivation
returns-in-Deactivation c = rw c.in-Deactivation.is

pub returns-in-Inventory : goal.returns-in-Inventory
returns-in-Inventory c = rw c.in-Inventory.is
