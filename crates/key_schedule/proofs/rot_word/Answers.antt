-- `rot_word` is right octet by octet.
-- Assumes nothing.
use mathlib.Core.Path.{refl}
use Rattle.octets.specs.Lists.{tab}
use Rattle.key_schedule.specs.KeyExpansion.{rot_word}
use Rattle.key_schedule.proofs.rot_word.Goals as goal

pub returns : goal.returns
unfolding rot_word tab
returns c = refl
