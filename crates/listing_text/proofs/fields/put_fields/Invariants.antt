use lib.ListN.{take}
use Rattle.listing_text.specs.Listing.{fields}
use Rattle.writing.specs.Output.{Put}
use Rattle.listing_text.proofs.fields.put_fields.Given as goal

abbrev pub invariant-loop-n : goal.invariant-loop-n
invariant-loop-n l = Put l.initial.out l.at (fields (take l.n-index l.fn.numbers)) l.out l.behind
