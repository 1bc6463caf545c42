-- `names_one` is right because the kind that the body's number names reads the name, and a number that names none has no channel.
-- Assumes nothing.
use Rattle.command_form.proofs.channels.names_one.Goals as goal

pub returns-in-Some : goal.returns-in-Some
returns-in-Some c = rw (← c.kind_in.ensures, ← c.kind_of.ensures, c.in-Some.is) c.kind_names.ensures

pub returns-in-None : goal.returns-in-None
returns-in-None c = rw (← c.kind_in.ensures, ← c.kind_of.ensures, c.in-None.is)
