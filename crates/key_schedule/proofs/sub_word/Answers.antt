-- `sub_word` is right octet by octet, from what `substituted` ensures.
-- Assumes nothing.
use Rattle.key_schedule.specs.KeyExpansion.{sub_word}
use Rattle.substitution.specs.Sbox.{sbox}
use borrow.Author.Rules.{rules}
use Rattle.octets.proofs.Mapped.{mapped}
use Rattle.key_schedule.proofs.sub_word.Goals as goal

pub returns : goal.returns
unfolding sub_word
returns c = mapped sbox c.map.ensures.items (λ x y q k e. search rules)
