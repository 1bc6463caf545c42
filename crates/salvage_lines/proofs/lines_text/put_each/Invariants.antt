use Rattle.writing.specs.Output.{Put}
use Rattle.writing.specs.Text.{end_to_end}
use Rattle.salvage_lines.specs.Lines.{line_of}
use Rattle.salvage_lines.proofs.lines_text.put_each.Given as goal

abbrev pub invariant-loop-i : goal.invariant-loop-i
invariant-loop-i l = Put l.initial.out 0 (end_to_end l.i (line_of l.x)) l.out l.at
