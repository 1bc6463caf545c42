use Rattle.listing_text.specs.Listing.{lines}
use Rattle.writing.specs.Output.{Put}
use Rattle.listing_text.proofs.lines.put_lines.Given as goal

abbrev pub invariant-loop-i : goal.invariant-loop-i
invariant-loop-i l = Put l.initial.out l.initial.at (lines l.image l.i) l.out l.at
