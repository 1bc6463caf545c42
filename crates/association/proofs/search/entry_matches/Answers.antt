-- `entry_matches` is right because it joins the tests that the definition joins, on the entry and then on its body.
-- Assumes nothing.
use mathlib.Core.Path.{sym, ◌∙◌}
use Rattle.image.specs.Image.{body_of}
use Rattle.association.specs.Search.{matches}
use Rattle.association.proofs.search.entry_matches.Goals as goal

pub returns-then-has_spi : goal.returns-then-has_spi
unfolding matches body_of
returns-then-has_spi c = simp (sym c.has_spi.ensures ∙ c.if-has_spi.true)
    (rw (c.body_serves.ensures, c.body_at.ensures.0, c.version_of.ensures))

pub returns : goal.returns
unfolding matches
returns c = simp (sym c.has_spi.ensures ∙ c.if-has_spi.false)
