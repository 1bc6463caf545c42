-- `all_idle` is right because the fold joins the tests of all bodies.
-- Assumes nothing.
use mathlib.Core.Path.{ap, ◌∙◌}
use Rattle.octets.specs.Lists.{all}
use Rattle.keys.proofs.Loops.{all_from_fold}
use Rattle.named_keys.specs.NamedKeys.{idle_at, unserved}
use borrow.Author.Rules.{rules}
use Rattle.named_keys.proofs.all_idle.Goals as goal

pub returns : goal.returns
unfolding unserved
returns c = let g = c.args in
    all_from_fold (idle_at g.image.now g.id) _ c.count_of-count.result c.fold.result (cc) c.fold.ensures.ran (λ ok i b f' h. search rules)
    ∙ ap (λ n. all n (idle_at g.image.now g.id)) c.count_of-count.ensures
