-- `reply_size` is right because each arm is the length of its procedure's reply, which neither the entry nor its number changes.
-- Assumes nothing.
use Rattle.octets.specs.Numbers.{bytes}
use Rattle.replies.proofs.reply_size.Goals as goal

pub returns-in-Start : goal.returns-in-Start
returns-in-Start c = λ e last. rw c.in-Start.is

pub returns-in-Stop : goal.returns-in-Stop
returns-in-Stop c = λ e last. rw c.in-Stop.is

pub returns-in-Rekey : goal.returns-in-Rekey
returns-in-Rekey c = λ e last. rw c.in-Rekey.is

pub returns-in-Expire : goal.returns-in-Expire
returns-in-Expire c = λ e last. rw c.in-Expire.is

pub returns-in-SetNumber : goal.returns-in-SetNumber
returns-in-SetNumber c = λ e last. rw c.in-SetNumber.is

pub returns-in-SetWindow : goal.returns-in-SetWindow
returns-in-SetWindow c = λ e last. rw c.in-SetWindow.is

pub returns-in-Status : goal.returns-in-Status
unfolding bytes
returns-in-Status c = λ e last. rw c.in-Status.is

pub returns-in-ReadNumber : goal.returns-in-ReadNumber
unfolding bytes
returns-in-ReadNumber c = λ e last. rw c.in-ReadNumber.is

pub returns-in-Ping : goal.returns-in-Ping
unfolding bytes
returns-in-Ping c = λ e last. rw c.in-Ping.is

pub returns-in-Activation : goal.returns-in-Activation
returns-in-Activation c = λ e last. rw c.in-Activation.is

pub returns-in-Deactivation : goal.returns-in-Deactivation
returns-in-Deactivation c = λ e last. rw c.in-Deactivation.is

pub returns-in-Inventory : goal.returns-in-Inventory
returns-in-Inventory c = λ e last. rw c.in-Inventory.is c.keys_size.ensures
