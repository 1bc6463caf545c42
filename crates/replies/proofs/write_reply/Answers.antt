-- `write_reply` is right because each arm writes the reply of its procedure, and one without a reply writes nothing.
-- Assumes nothing.
use Rattle.replies.proofs.ReplyOctets.{fronted-none}
use Rattle.replies.proofs.write_reply.Goals as goal

pub returns-in-Start : goal.returns-in-Start
returns-in-Start c = rw c.in-Start.is (fronted-none _)

pub returns-in-Stop : goal.returns-in-Stop
returns-in-Stop c = rw c.in-Stop.is (fronted-none _)

pub returns-in-Rekey : goal.returns-in-Rekey
returns-in-Rekey c = rw c.in-Rekey.is (fronted-none _)

pub returns-in-Expire : goal.returns-in-Expire
returns-in-Expire c = rw c.in-Expire.is (fronted-none _)

pub returns-in-SetNumber : goal.returns-in-SetNumber
returns-in-SetNumber c = rw c.in-SetNumber.is (fronted-none _)

pub returns-in-SetWindow : goal.returns-in-SetWindow
returns-in-SetWindow c = rw c.in-SetWindow.is (fronted-none _)

pub returns-in-Status : goal.returns-in-Status
returns-in-Status c = rw c.in-Status.is c.write_status.ensures

pub returns-in-ReadNumber : goal.returns-in-ReadNumber
returns-in-ReadNumber c = rw c.in-ReadNumber.is c.write_number.ensures

pub returns-in-Ping : goal.returns-in-Ping
returns-in-Ping c = rw c.in-Ping.is c.write_ping.ensures

pub returns-in-Activation : goal.returns-in-Activation
returns-in-Activation c = rw c.in-Activation.is (fronted-none _)

pub returns-in-Deactivation : goal.returns-in-Deactivation
returns-in-Deactivation c = rw c.in-Deactivation.is (fronted-none _)

pub returns-in-Inventory : goal.returns-in-Inventory
returns-in-Inventory c = rw c.in-Inventory.is c.write_keys.ensures
