-- A worked example, which antt computes from the definition: counter blocks are counted up in their last 32 bits.
-- Assumes nothing.
use mathlib.Core.Path.{◌≡◌, refl}
use Rattle.gctr.specs.Increment.{inc32}

-- the last 32 bits wrap, and the others stay
wrapped : inc32 0xcafebabefacedbaddecaf888ffffffff ≡ 0xcafebabefacedbaddecaf88800000000
unfolding inc32
wrapped = refl
