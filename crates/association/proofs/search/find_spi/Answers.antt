-- `find_spi` is right because the library's search of the numbers below the count finds the first that passes the test.
-- Assumes nothing.
use mathlib.Core.Path.{refl, sym, ap, ◌∙◌}
use Prim.Native.Nat.{ℕ}
use native.Mathlib.Omega.{arith}
use Rattle.std.proofs.Common.{rules, tests}
use Rattle.std.proofs.lemmas.Iterator.{YieldsList-from_range}
use Rattle.std.proofs.lemmas.Iterator.Adapters.{option_map_id}
use Rattle.std.proofs.lemmas.Iterator.Search.{find_from_yields_List}
use Rattle.association.specs.Search.{has_spi, with_spi, first_from}
use Rattle.association.proofs.Finding.{first-found}
use Rattle.association.proofs.search.find_spi.Goals as goal

pub returns : goal.returns
unfolding with_spi
returns c = let image = c.args.image.now in
    let n = c.count_of.result in
    let test = has_spi image c.args.desk c.args.spi in
    sym (option_map_id c.find.result)
    ∙ find_from_yields_List test _ _ c.find.result c.find.ensures.ran (YieldsList-from_range 0 n n refl (omega arith)) (λ x b q k. search (rules, tests))
    ∙ first-found n 0 test
    ∙ ap (λ (m : ℕ). first_from 0 m test) c.count_of.ensures
