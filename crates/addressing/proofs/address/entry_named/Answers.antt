-- `entry_named` is right because a procedure that names an association is searched by its SPI.
-- Assumes nothing.
use mathlib.Core.Path.{sym, ◌∙◌}
use Rattle.addressing.specs.Addressing.{entry_named}
use Rattle.addressing.proofs.address.entry_named.Goals as goal

pub returns-then-names : goal.returns-then-names
unfolding entry_named
returns-then-names c = rw (sym c.names.ensures ∙ c.if-names.true, c.find_spi.ensures, c.two_at.ensures)

pub returns : goal.returns
unfolding entry_named
returns c = rw (sym c.names.ensures ∙ c.if-names.false)
