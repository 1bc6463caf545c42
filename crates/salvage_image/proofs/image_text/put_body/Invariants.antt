use Rattle.octets.specs.Lists.{part}
use Rattle.writing.specs.Output.{Put}
use Rattle.salvage_image.proofs.image_text.put_body.Given as goal

abbrev pub invariant-loop-i : goal.invariant-loop-i
invariant-loop-i l = Put l.initial.out l.at (part l.position l.i l.x) l.out l.behind
