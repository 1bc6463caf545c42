-- `xistalvo_command_cut` is right because it is `command_cut_lent`.
-- Assumes nothing.
use Rattle.link_c.proofs.xistalvo_command_cut.Goals as goal

pub returns : goal.returns
returns c = c.command_cut_lent.ensures

pub command_cut_lent-requires : goal.command_cut_lent-requires
command_cut_lent-requires c = tt
