-- `key_part_ok` is right because the fold joins the tests of all keys.
-- Assumes nothing.
use mathlib.Core.Path.{ap}
use mathlib.Core.Bool.{◌&&◌}
use borrow.Author.Rules.{rules}
use lib.Dec.{leb}
use Rattle.keys.specs.Keys.{most_keys, key_ok, key_part_ok}
use Rattle.keys.proofs.Loops.{all_from_fold}
use Rattle.keys.proofs.keys.key_part_ok.Goals as goal

pub returns : goal.returns
unfolding key_part_ok
returns c = let g = c.args in
    ap (λ ok. leb g.count most_keys && ok) (all_from_fold (key_ok g.image.now g.at) _ g.count c.fold-ok.result (cc) c.fold-ok.ensures.ran (λ a k b f' h. search rules))
