-- `put_each` is right because each turn puts the line of the next entry behind those before it.
-- Assumes nothing.
use native.Mathlib.Omega.{arith}
use Rattle.image.specs.Image.{count_of}
use Rattle.writing.proofs.Puts.{put_then}
use Rattle.salvage_lines.specs.Lines.{line_of}
use Rattle.writing.proofs.Ends.{end_more, end_within}
use Rattle.salvage_lines.proofs.lines_text.put_each.Goals as goal

pub put_line-at-requires : goal.put_line-at-requires
put_line-at-requires c = let x = c.args.x.now in
    (c.requires.0, omega (arith, end_within (count_of x) (line_of x) c.loop-i.i (omega arith), c.loop-i.invariant.place, c.loop-i.invariant.size))

pub loop-i-preserved : goal.loop-i-preserved
loop-i-preserved c = (rw end_more (put_then c.loop-i.invariant c.put_line-at.ensures))
