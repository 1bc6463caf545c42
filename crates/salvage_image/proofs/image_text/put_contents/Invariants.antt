use Rattle.writing.specs.Output.{Put}
use Rattle.writing.specs.Text.{end_to_end}
use Rattle.salvage_image.specs.Salvage.{new_entry}
use Rattle.salvage_image.proofs.image_text.put_contents.Given as goal

abbrev pub invariant-loop-i : goal.invariant-loop-i
invariant-loop-i l = Put l.initial.out l.at (end_to_end l.i (new_entry l.x)) l.out l.behind
