-- `entry_ok` is right because it joins the four tests that the definition joins.
-- Assumes nothing.
use Rattle.image.specs.Image.{entry_ok}
use Rattle.image.proofs.image.entry_ok.Goals as goal

pub returns : goal.returns
unfolding entry_ok
returns c = rw (
  c.two_inside-position.ensures,
  c.two_inside-spi.ensures,
  c.entry_place.ensures,
  c.entry_place-2.ensures,
  c.requires.1,
  c.requires.2,
)
