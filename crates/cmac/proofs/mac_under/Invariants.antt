use mathlib.Core.Path.{◌≡◌}
use mathlib.Core.List.{◌++◌}
use Rattle.columns.specs.Columns.{state_from}
use Rattle.subkeys.specs.Subkeys.{k1, k2}
use Rattle.cmac.specs.Mac.{chain}
use Rattle.cmac.proofs.mac_under.Given as goal

abbrev pub invariant-loop-i : goal.invariant-loop-i
invariant-loop-i l = l.first ≡ k1 l.expanded → l.second ≡ k2 l.expanded → state_from l.chained ≡ chain l.expanded (l.head ++ l.body) l.i
