-- `total_between` is right because it counts the numbers below the count whose key has its ID between.
-- Assumes nothing.
use mathlib.Core.Path.{◌∙◌}
use native.Mathlib.Omega.{arith}
use borrow.Author.Rules.{rules}
use borrow.Author.Tests.{tests}
use Rattle.std.proofs.lemmas.Iterator.{YieldsList-from_range}
use Rattle.std.proofs.lemmas.Iterator.Consumers.{YieldsList-from_filter, count_from_yields_List}
use Rattle.inventory.specs.Inventory.{between}
use Rattle.inventory.proofs.Totals.{total-passing}
use Rattle.inventory.proofs.total_between.Goals as goal

pub returns : goal.returns
returns c = let g = c.args in
    count_from_yields_List c.filter.result _ c.count.ensures.ran
    (YieldsList-from_filter _ (between g.image.now g.at g.first g.last) (YieldsList-from_range 0 g.count g.count c.filter.ensures.source (omega arith)) c.filter.ensures.closure (λ k b f h. search (rules, tests)))
    ∙ total-passing g.count (between g.image.now g.at g.first g.last)
