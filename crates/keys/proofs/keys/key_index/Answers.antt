-- `key_index` is right because the search of the definition is the first of the numbers below the count whose key has the ID.
-- Assumes nothing.
use mathlib.Core.Path.{sym, ap, ◌∙◌}
use native.Mathlib.Omega.{arith}
use lib.Dec.{eqb}
use borrow.Author.Rules.{rules}
use borrow.Author.Tests.{tests}
use Rattle.std.specs.Option.{unwrap_or}
use Rattle.std.proofs.lemmas.Iterator.{YieldsList-from_range}
use Rattle.std.proofs.lemmas.Iterator.Search.{find_from_yields_List}
use Rattle.std.proofs.lemmas.Iterator.Adapters.{option_map_id}
use Rattle.keys.specs.Keys.{key_id_at, key_index}
use Rattle.keys.proofs.Loops.{from_find}
use Rattle.keys.proofs.keys.key_index.Goals as goal

pub returns : goal.returns
unfolding key_index
returns c = let g = c.args in
    let found = find_from_yields_List (λ k. eqb (key_id_at g.image.now g.at k) g.id) _ _ c.find.result c.find.ensures.ran (YieldsList-from_range 0 g.count g.count (cc) (omega arith)) (λ x b q k. search (rules, tests)) in
    c.unwrap_or.ensures ∙ ap (λ r. unwrap_or r g.count) (sym (option_map_id c.find.result) ∙ found) ∙ from_find g.image.now g.at g.id 0 g.count g.count (omega arith)
