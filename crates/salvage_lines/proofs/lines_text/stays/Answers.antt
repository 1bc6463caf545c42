-- `stays` is right because it compares the new index and the new place with the old.
-- Assumes nothing.
use mathlib.Core.Path.{ap, ◌∙◌}
use lib.ListN.{length}
use Rattle.bodies.specs.Layout.{layout_of}
use Rattle.bodies.specs.declared.layout.Layout.{Layout}
use Rattle.image.specs.Image.{body_place}
use Rattle.salvage_lines.specs.Lines.{stays}
use Rattle.salvage_image.proofs.Parts.{place_is}
use Rattle.salvage_lines.proofs.LineParts.{new_is}
use Rattle.salvage_lines.proofs.lines_text.stays.Goals as goal

pub returns : goal.returns
unfolding stays
returns c = let g = c.args in
    let x = g.x.now in
    let kept = g.kept.now in
    let new = c.new_index-new.ensures.1 ∙ new_is x kept c.requires g.index in
    let layout = c.layout_of.ensures.0 ∙ ap layout_of c.version_of.ensures in
    let place = c.body_place-place.ensures.0 ∙ ap (λ (l : Layout). body_place l (length kept) c.new_index-new.result) layout ∙ place_is x kept c.requires c.new_index-new.result in
    rw (place, c.position_of.ensures, new)
