use Rattle.std.proofs.Common.{◌≡◌, ℕ, ◌≤◌, ◌%◌}
use Rattle.block.specs.Halves.{value}
use Rattle.ghash.specs.Partway.{Partway}
use Rattle.ghash.specs.Table.{IsTableOf}
use Rattle.ghash.proofs.product.multiply.Given as goal

abbrev pub invariant-loop-k : goal.invariant-loop-k
invariant-loop-k l = (l.k ≤ 32)
    × (l.k % 4 ≡ 0)
    × ((h : ℕ) → IsTableOf h l.t → Partway h l.x.hi l.x.lo l.k (value l.lower.high) (value l.lower.low))
    × ((h : ℕ) → IsTableOf h l.t → Partway h l.above.hi l.above.lo l.k (value l.upper.high) (value l.upper.low))
