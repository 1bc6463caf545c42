-- `words_of` is right because the block at place 0 of a block is the block itself.
-- Assumes nothing.
use mathlib.Core.Path.{◌∙◌}
use Rattle.octets.proofs.Parts.{part_self}
use borrow.Author.Rules.{rules}
use Rattle.columns.proofs.words_of.Goals as goal

pub returns : goal.returns
returns c = c.words_at.ensures ∙ part_self 16 c.args.block (search rules)
