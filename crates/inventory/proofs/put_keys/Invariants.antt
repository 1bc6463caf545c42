use Rattle.writing.specs.Output.{Put}
use Rattle.writing.specs.Text.{end_to_end}
use Rattle.inventory.specs.Inventory.{told_between}
use Rattle.inventory.proofs.put_keys.Given as goal

abbrev pub invariant-loop-k : goal.invariant-loop-k
invariant-loop-k l = Put l.initial.out l.place (end_to_end l.k (told_between l.image l.at l.first l.last)) l.out l.behind
