-- `next_word` is right from what its callees ensure.
-- Assumes nothing.
use Rattle.key_schedule.specs.KeyExpansion.{next_word}
use Rattle.key_schedule.proofs.next_word.Goals as goal

pub returns : goal.returns
unfolding next_word
returns c = cc
