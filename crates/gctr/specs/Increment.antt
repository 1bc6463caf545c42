-- SP 800-38D, 6.2: the incrementing function with s = 32. A block of 128 bits is a number below 2 ^ 128, whose first bit has the weight
-- 2 ^ 127 and whose last has the weight 1.
-- Assumes nothing.
use Rattle.std.specs.Prelude.{ℕ, ◌+◌, ◌*◌, ◌/◌, ◌%◌, ◌^◌}

-- the last 32 bits are counted up modulo 2 ^ 32; the bits before them stay
unfoldable pub inc32 : ℕ → ℕ
inc32 x = x / 2 ^ 32 * 2 ^ 32 + (x % 2 ^ 32 + 1) % 2 ^ 32
