-- `put_bodies` is right because each turn puts the body of the next entry behind those before it.
-- Assumes nothing.
use mathlib.Core.Path.{◌∙◌}
use native.Mathlib.Omega.{arith}
use lib.ListN.{length}
use Rattle.writing.proofs.Puts.{put_then}
use Rattle.salvage_image.specs.Salvage.{new_body}
use Rattle.writing.proofs.Ends.{end_more, end_within}
use Rattle.salvage_image.proofs.Parts.{old_is, body_is}
use Rattle.salvage_image.proofs.image_text.put_bodies.Goals as goal

pub put_body-behind-requires : goal.put_body-behind-requires
put_body-behind-requires c = let g = c.args in
    let i = c.loop-i.i in
    let old = c.old_index.ensures ∙ old_is g.x.now g.kept.now c.requires.0 i in
    rw (← body_is g.x.now i _ _ old c.position_of.ensures)
    (omega (arith, end_within (length g.kept.now) (new_body g.x.now) i (omega arith), c.loop-i.invariant.place, c.loop-i.invariant.size))

pub loop-i-preserved : goal.loop-i-preserved
loop-i-preserved c = let g = c.args in
    let i = c.loop-i.i in
    let old = c.old_index.ensures ∙ old_is g.x.now g.kept.now c.requires.0 i in
    (rw (end_more, body_is g.x.now i _ _ old c.position_of.ensures) (put_then c.loop-i.invariant c.put_body-behind.ensures))
