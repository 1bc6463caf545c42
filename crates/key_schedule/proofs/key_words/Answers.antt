-- `key_words` is right because the key is copied to the first 32 octets.
-- Assumes nothing.
use mathlib.Core.Path.{◌∙◌}
use lib.Seq.{take_at}
use borrow.Author.Rules.{rules}
use Rattle.key_schedule.proofs.key_words.Goals as goal

pub returns : goal.returns
returns c = take_at c.copy_from_slice.new.self _ 32 (search rules) ∙ c.copy_from_slice.ensures.after
