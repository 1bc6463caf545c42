use Rattle.octets.specs.Lists.{octet}
use Rattle.octets.proofs.Rules.{Filled}
use Rattle.lent.proofs.lent.hand_back.Given as goal

abbrev pub invariant-loop-i : goal.invariant-loop-i
invariant-loop-i l = Filled 32 (octet l.last) l.lent l.i
