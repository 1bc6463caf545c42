-- `put_kept` is right because it puts the parts of the image in the order of the definition, and each has room where the whole has.
-- Assumes nothing.
use native.Mathlib.Omega.{arith}
use Rattle.writing.proofs.Puts.{put_then}
use Rattle.salvage_image.proofs.Parts.{count-is, image-is, image-long}
use Rattle.salvage_image.proofs.image_text.put_kept.Goals as goal

pub put_octet-first-requires : goal.put_octet-first-requires
put_octet-first-requires c = omega (arith, image-long c.args.x.now)

pub put_octet-second-requires : goal.put_octet-second-requires
put_octet-second-requires c = omega (arith, image-long c.args.x.now)

pub put_contents-third-requires : goal.put_contents-third-requires
put_contents-third-requires c = let x = c.args.x.now in
    (c.requires.0, rw (count-is x c.args.kept.now c.requires.0) (omega (arith, image-long x)))

pub put_bodies-requires : goal.put_bodies-requires
put_bodies-requires c = let x = c.args.x.now in
    let kept = count-is x c.args.kept.now c.requires.0 in
    let contents = rw kept at c.put_contents-third.ensures.place in
    (c.requires.0, rw kept (omega (arith, image-long x, contents)))

pub returns : goal.returns
returns c = rw (image-is c.args.x.now c.args.kept.now _ c.requires.0 c.version_of.ensures)
    (put_then (put_then (put_then c.put_octet-first.ensures c.put_octet-second.ensures) c.put_contents-third.ensures) c.put_bodies.ensures)
