-- `new_number` is right because only a set number changes the number.
-- Assumes nothing.
use Rattle.conditions.proofs.new_number.Goals as goal

pub returns-in-Start : goal.returns-in-Start
returns-in-Start c = λ version body e. rw c.in-Start.is

pub returns-in-Stop : goal.returns-in-Stop
returns-in-Stop c = λ version body e. rw c.in-Stop.is

pub returns-in-Rekey : goal.returns-in-Rekey
returns-in-Rekey c = λ version body e. rw c.in-Rekey.is

pub returns-in-Expire : goal.returns-in-Expire
returns-in-Expire c = λ version body e. rw c.in-Expire.is

pub returns-in-SetNumber : goal.returns-in-SetNumber
returns-in-SetNumber c = rw c.in-SetNumber.is c.number_asked.ensures

pub returns-in-SetWindow : goal.returns-in-SetWindow
returns-in-SetWindow c = λ version body e. rw c.in-SetWindow.is

pub returns-in-Status : goal.returns-in-Status
returns-in-Status c = λ version body e. rw c.in-Status.is

pub returns-in-ReadNumber : goal.returns-in-ReadNumber
returns-in-ReadNumber c = λ version body e. rw c.in-ReadNumber.is

pub returns-in-Ping : goal.returns-in-Ping
returns-in-Ping c = λ version body e. rw c.in-Ping.is

pub returns-in-Activation : goal.returns-in-Activation
returns-in-Activation c = λ version body e. rw c.in-Activation.is

pub returns-in-Deactivation : goal.returns-in-Deactivation
returns-in-Deactivation c = λ version body e. rw c.in-Deactivation.is

pub returns-in-Inventory : goal.returns-in-Inventory
returns-in-Inventory c = λ version body e. rw c.in-Inventory.is
