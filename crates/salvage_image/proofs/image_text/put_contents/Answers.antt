-- `put_contents` is right because each turn puts the next entry behind those before it.
-- Assumes nothing.
use native.Mathlib.Omega.{arith}
use lib.ListN.{length}
use Rattle.writing.proofs.Puts.{put_then}
use Rattle.salvage_image.specs.Salvage.{new_entry}
use Rattle.writing.proofs.Ends.{end_more, end_within}
use Rattle.salvage_image.proofs.Parts.{long-entry}
use Rattle.salvage_image.proofs.image_text.put_contents.Goals as goal

pub put_entry-behind-requires : goal.put_entry-behind-requires
put_entry-behind-requires c = let g = c.args in
    let i = c.loop-i.i in
    (c.requires.0, omega (arith, end_within (length g.kept.now) (new_entry g.x.now) i (omega arith), long-entry g.x.now i, c.loop-i.invariant.place, c.loop-i.invariant.size))

pub loop-i-preserved : goal.loop-i-preserved
loop-i-preserved c = (rw end_more (put_then c.loop-i.invariant c.put_entry-behind.ensures))
