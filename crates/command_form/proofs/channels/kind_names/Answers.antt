-- `kind_names` is right because it joins the two tests that the definition joins.
-- Assumes nothing.
use Rattle.command_form.proofs.channels.kind_names.Goals as goal

pub returns : goal.returns
returns c = rw (
  c.serves_channel.ensures,
  c.channel_name-whole.ensures,
  c.map_of.ensures,
  c.spacecraft_of-spacecraft.ensures,
  c.channel_in-channel.ensures,
)
