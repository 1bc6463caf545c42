-- `plan_of` is right because each arm plans the stores of its procedure.
-- Assumes nothing.
use mathlib.Core.Path.{ap}
use Rattle.marks.specs.Stores.{steps, stores_of}
use Rattle.marks.specs.declared.plans.Plan.{Plan}
use Rattle.plans.proofs.plan_of.Goals as goal

pub returns-in-Start : goal.returns-in-Start
returns-in-Start c = rw c.in-Start.is c.move_to.ensures

pub returns-in-Stop : goal.returns-in-Stop
returns-in-Stop c = rw c.in-Stop.is c.move_to-in-Stop.ensures

pub returns-in-Rekey : goal.returns-in-Rekey
returns-in-Rekey c = rw c.in-Rekey.is c.change_key.ensures

pub returns-in-Expire : goal.returns-in-Expire
returns-in-Expire c = rw c.in-Expire.is c.move_to-in-Expire.ensures

pub returns-in-SetNumber : goal.returns-in-SetNumber
returns-in-SetNumber c = rw c.in-SetNumber.is (ap (λ (p : Plan). stores_of p) c.plan_for.ensures)

pub returns-in-SetWindow : goal.returns-in-SetWindow
returns-in-SetWindow c = rw c.in-SetWindow.is c.change_window.ensures

pub returns-in-Status : goal.returns-in-Status
unfolding steps
returns-in-Status c = rw c.in-Status.is

pub returns-in-ReadNumber : goal.returns-in-ReadNumber
unfolding steps
returns-in-ReadNumber c = rw c.in-ReadNumber.is

pub returns-in-Ping : goal.returns-in-Ping
unfolding steps
returns-in-Ping c = rw c.in-Ping.is

pub returns-in-Activation : goal.returns-in-Activation
returns-in-Activation c = rw c.in-Activation.is c.turn_to.ensures

pub returns-in-Deactivation : goal.returns-in-Deactivation
returns-in-Deactivation c = rw c.in-Deactivation.is c.turn_to-in-Deactivation.ensures

pub returns-in-Inventory : goal.returns-in-Inventory
unfolding steps
returns-in-Inventory c = rw c.in-Inventory.is
