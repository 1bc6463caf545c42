-- `channel_ok` is right because it makes the test that the definition chooses: of a set that it is not empty, else that the kind allows the channel.
-- Assumes nothing.
use mathlib.Core.Path.{sym, ◌∙◌}
use Rattle.bodies.proofs.body.channel_ok.Goals as goal

pub returns-then-holds_set : goal.returns-then-holds_set
returns-then-holds_set c = let set = sym c.holds_set.ensures ∙ c.if-holds_set.true in
    rw (c.channel_of-channel.ensures, set)

pub returns-else-holds_set : goal.returns-else-holds_set
returns-else-holds_set c = let one = sym c.holds_set.ensures ∙ c.if-holds_set.false in
    rw (c.channel_of-channel.ensures, c.most_channel.ensures, one)
