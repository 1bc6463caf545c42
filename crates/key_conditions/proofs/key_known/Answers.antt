-- `key_known` is right because each arm makes the test of its procedure.
-- Assumes nothing.
use Rattle.key_conditions.proofs.key_known.Goals as goal

pub returns-in-Start : goal.returns-in-Start
returns-in-Start c = rw (c.in-Start.is, ← c.key_id_in.ensures) c.key_there.ensures

pub returns-in-Rekey : goal.returns-in-Rekey
returns-in-Rekey c = rw (c.in-Rekey.is, ← c.two_at.ensures) c.key_there-in-Rekey.ensures

pub returns-in-Activation : goal.returns-in-Activation
returns-in-Activation c = rw (c.in-Activation.is, ← c.two_at-in-Activation.ensures) c.has_key.ensures

pub returns-in-Deactivation : goal.returns-in-Deactivation
returns-in-Deactivation c = rw (c.in-Deactivation.is, ← c.two_at-in-Deactivation.ensures) c.has_key-in-Deactivation.ensures
