-- `key_command` is right because it compares the first octet with the tags of the three key commands.
-- Assumes nothing.
use Rattle.procedures.proofs.tags.key_command.Goals as goal

pub returns : goal.returns
returns c = rw c.octet_at-tag.ensures
