-- `at_place` is right because it asks every place of bodies.
-- Assumes nothing.
use mathlib.Core.Path.{◌∙◌}
use native.Mathlib.Omega.{arith}
use Rattle.std.proofs.Common.{rules, tests, eqb}
use Rattle.std.proofs.lemmas.Iterator.{YieldsList-from_range}
use Rattle.std.proofs.lemmas.Iterator.Search.{any_from_yields_List}
use Rattle.image.specs.Image.{count_of, position_of, body_at}
use Rattle.salvage_entries.proofs.TestLaws.{some_by_rule}
use Rattle.salvage_entries.proofs.keeping.at_place.Goals as goal

pub returns : goal.returns
returns c =
    let x = c.args.x.now in
    any_from_yields_List (λ i. eqb (body_at x i) (position_of x c.args.index)) _ _ c.any.result c.any.ensures.ran (YieldsList-from_range 0 (count_of x) (count_of x) (cc) (omega arith)) (λ y b q k. search (rules, tests))
    ∙ some_by_rule (λ p. eqb p (position_of x c.args.index)) (body_at x) (count_of x)
