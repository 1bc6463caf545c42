-- `has_spi` is right because it compares the entry's SPI, and asks whether the desk sees the owner of the entry's body.
-- Assumes nothing.
use mathlib.Core.Path.{sym, ◌∙◌}
use borrow.Author.Tests.{eq-eqb, ne_eqb}
use Rattle.image.specs.Image.{body_of}
use Rattle.association.specs.Search.{has_spi}
use Rattle.association.proofs.search.has_spi.Goals as goal

pub returns-then-spi_of-spi : goal.returns-then-spi_of-spi
unfolding has_spi body_of
returns-then-spi_of-spi c = simp (eq-eqb _ _ (sym c.spi_of.ensures ∙ c.if-spi_of-spi.true))
    (rw (c.sees.ensures, c.owner_of-owner.ensures, c.body_at.ensures.0, c.version_of.ensures))

pub returns : goal.returns
unfolding has_spi
returns c = simp (ne_eqb _ _ (λ h. c.if-spi_of-spi.false (c.spi_of.ensures ∙ h)))
