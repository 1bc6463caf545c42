-- A block as the code holds it, in two halves of 64 bits, and the number that it is.
-- Assumes nothing.
use Rattle.std.specs.Prelude.{ℕ, ◌+◌, ◌*◌, ◌^◌}
use Rattle.block.specs.declared.Block.{Block}

abbrev pub value : Block → ℕ
value b = b.hi * 2 ^ 64 + b.lo
