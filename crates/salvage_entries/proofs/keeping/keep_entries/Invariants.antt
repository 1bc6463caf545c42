use lib.ListN.{length}
use Rattle.salvage_entries.proofs.Gathering.{Gathered}
use Rattle.salvage_entries.proofs.keeping.keep_entries.Given as goal

abbrev pub invariant-loop-i : goal.invariant-loop-i
invariant-loop-i l = Gathered l.x l.i l.kept l.count (length l.initial.kept)
