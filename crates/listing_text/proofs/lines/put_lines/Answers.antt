-- `put_lines` is right because each turn puts the line of the next entry behind those before it, and a valid image's lines have room.
-- Assumes nothing.
use mathlib.Core.Path.{◌≡◌}
use native.Mathlib.Omega.{arith}
use Rattle.image.specs.Image.{count_of}
use Rattle.listing_text.proofs.Parts.{lines_more}
use Rattle.writing.proofs.Puts.{put_then}
use Rattle.listing_text.proofs.lines.put_lines.Goals as goal

pub loop-i-preserved : goal.loop-i-preserved
loop-i-preserved c = rw (lines_more, ← c.entry_at.ensures) (put_then c.loop-i.invariant c.put_line-at.ensures)

pub returns : goal.returns
returns c = let all : c.loop-i.i ≡ count_of c.args.image.now = omega arith in
    rw (← all) (put_then c.put_text-at.ensures c.loop-i.invariant)
