-- `serves_channel` is right because it makes the test that the definition chooses: of a set whether it has the channel, else whether it is the one.
-- Assumes nothing.
use mathlib.Core.Path.{sym, ◌∙◌}
use Rattle.association.proofs.search.serves_channel.Goals as goal

pub returns-then-holds_set : goal.returns-then-holds_set
returns-then-holds_set c = let set = sym c.holds_set.ensures ∙ c.if-holds_set.true in
    rw (c.in_set.ensures, c.channel_of-held.ensures, set)

pub returns-else-holds_set : goal.returns-else-holds_set
returns-else-holds_set c = let one = sym c.holds_set.ensures ∙ c.if-holds_set.false in
    rw (c.channel_of-held.ensures, one)
