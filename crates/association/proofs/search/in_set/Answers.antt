-- `in_set` is right because a channel of a set is one of eight, and its bit is the lowest of the set shifted.
-- Assumes nothing.
use borrow.Author.Tests.{lt-ltb, le-ltb}
use Rattle.association.proofs.search.in_set.Goals as goal

pub returns-then-channel-ge8 : goal.returns-then-channel-ge8
returns-then-channel-ge8 c = simp (le-ltb _ _ c.if-channel-ge8.true)

pub returns : goal.returns
returns c = simp (lt-ltb _ _ c.if-channel-ge8.false)
