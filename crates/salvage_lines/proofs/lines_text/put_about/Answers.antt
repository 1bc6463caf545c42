-- `put_about` is right because it puts the parts of the line in the order of the definition.
-- Assumes nothing.
use Rattle.writing.proofs.Puts.{put_then}
use Rattle.salvage_lines.specs.Lines.{line_about}
use Rattle.salvage_lines.proofs.lines_text.put_about.Goals as goal

pub returns : goal.returns
unfolding line_about
returns c = put_then (put_then c.put_text-number.ensures c.put_decimal-end.ensures) c.put_octet.ensures
