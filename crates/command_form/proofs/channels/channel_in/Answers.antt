-- `channel_in` is right because each arm is the definition's for its kind.
-- Assumes nothing.
use Rattle.command_form.proofs.channels.channel_in.Goals as goal

pub returns-in-Tc : goal.returns-in-Tc
returns-in-Tc c = rw c.in-Tc.is

pub returns-in-SegmentedTc : goal.returns-in-SegmentedTc
returns-in-SegmentedTc c = rw c.in-SegmentedTc.is

pub returns-in-Tm : goal.returns-in-Tm
returns-in-Tm c = rw c.in-Tm.is

pub returns-in-Aos : goal.returns-in-Aos
returns-in-Aos c = rw c.in-Aos.is
