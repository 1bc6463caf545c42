-- `put_entry` is right because it puts the SPI of the entry that comes to stand there, and behind it the place of its body.
-- Assumes nothing.
use mathlib.Core.Path.{ap, ◌∙◌}
use native.Mathlib.Omega.{arith}
use lib.ListN.{length}
use Rattle.octets.proofs.Numbers.{length-bytes}
use Rattle.bodies.specs.Layout.{layout_of}
use Rattle.bodies.specs.declared.layout.Layout.{Layout}
use Rattle.image.specs.Image.{body_place}
use Rattle.writing.proofs.Puts.{put_then}
use Rattle.salvage_image.proofs.Parts.{old_is, place_is, entry-is}
use Rattle.salvage_image.proofs.image_text.put_entry.Goals as goal

pub put_two-requires : goal.put_two-requires
put_two-requires c = omega (arith, length-bytes 2 c.spi_of-spi.result)

pub returns : goal.returns
returns c = let g = c.args in
    let x = g.x.now in
    let kept = g.kept.now in
    let known = c.requires.0 in
    let old = c.old_index.ensures ∙ old_is x kept known g.index in
    let layout = c.layout_of.ensures.0 ∙ ap layout_of c.version_of.ensures in
    let place = c.body_place-place.ensures.0 ∙ ap (λ (l : Layout). body_place l (length kept) g.index) layout ∙ place_is x kept known g.index in
    rw (entry-is x g.index _ _ _ old c.spi_of-spi.ensures place) (put_then c.put_two-behind.ensures c.put_two.ensures)
