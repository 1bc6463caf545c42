-- `put_line` is right because it puts the line that the definition chooses by the same two tests.
-- Assumes nothing.
use mathlib.Core.Path.{sym, ◌∙◌}
use Rattle.salvage_lines.proofs.LineParts.{among_is, line-dropped, line_moved}
use Rattle.salvage_lines.proofs.lines_text.put_line.Goals as goal

pub put_about-requires : goal.put_about-requires
put_about-requires c = let g = c.args in
    let kept = sym (c.is_among.ensures ∙ among_is g.x.now g.kept.now c.requires.0 g.index) ∙ c.if-is_among.true in
    rw (line_moved g.x.now g.index kept (sym c.stays.ensures ∙ c.if-stays.false)) at c.requires.1

pub put_about-requires-2 : goal.put_about-requires-2
put_about-requires-2 c = let g = c.args in
    let gone = sym (c.is_among.ensures ∙ among_is g.x.now g.kept.now c.requires.0 g.index) ∙ c.if-is_among.false in
    rw (line-dropped g.x.now g.index gone) at c.requires.1
