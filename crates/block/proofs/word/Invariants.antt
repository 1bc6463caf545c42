use Rattle.std.proofs.Common.{◌≡◌, ◌^◌, ◌<◌, drop}
use Rattle.octets.specs.Numbers.{number}
use Rattle.block.proofs.word.Given as goal

abbrev pub invariant-loop-k : goal.invariant-loop-k
invariant-loop-k l = (l.w ≡ number l.k (drop l.at l.s)) × (l.w < 256 ^ l.k)
