-- `loaded_numbers` is right because each turn loads one entry more, and the mark of a valid image is small enough for its number.
-- Assumes nothing.
use mathlib.Core.Path.{◌≡◌}
use native.Mathlib.Omega.{arith}
use Rattle.image.specs.Image.{count_of}
use Rattle.numbers.proofs.Loading.{loading-none, loading-all}
use Rattle.image.proofs.ValidImages.{valid, mark-small}
use Rattle.numbers.proofs.numbers.loaded_numbers.Goals as goal

pub loop-i-init : goal.loop-i-init
loop-i-init c = loading-none _

pub loaded_number-requires : goal.loaded_number-requires
loaded_number-requires c = let image = c.args.image.now in
    rw c.mark_in.ensures (mark-small image (valid image c.requires) c.loop-i.i (omega arith))

pub returns : goal.returns
returns c = let image = c.args.image.now in
    let e : c.loop-i.i ≡ count_of image = omega arith in
    loading-all image c.loop-i.next.last (rw (← e) c.loop-i.invariant)
