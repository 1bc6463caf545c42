-- `rise_allowed` is right because the window's test of that rise is made of the whole number.
-- Assumes nothing.
use mathlib.Core.Path.{ap, ◌∙◌}
use Rattle.numbers.specs.Numbers.{accepts}
use Rattle.procedures.specs.Procedures.{most_rise}
use Rattle.conditions.proofs.rise_allowed.Goals as goal

pub returns : goal.returns
returns c = let g = c.args in
    c.accepts.ensures ∙ ap (accepts g.last most_rise) c.long_number.ensures
