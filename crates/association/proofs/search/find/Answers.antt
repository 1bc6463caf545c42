-- `find` is right because a turn that goes on has passed an entry that does not match, so what is left to find is found behind it.
-- Assumes nothing.
use mathlib.Core.Path.{◌≡◌, sym, ◌∙◌}
use Prim.Native.Nat.{◌-◌}
use borrow.Author.Rules.{rules}
use native.Mathlib.Omega.{arith}
use Rattle.image.specs.Image.{count_of}
use Rattle.association.specs.Search.{entry_for}
use Rattle.association.proofs.Finding.{first-here, first_next, first-none}
use Rattle.association.proofs.search.find.Goals as goal

pub loop-i-init : goal.loop-i-init
unfolding entry_for
loop-i-init c = let e : c.count_of-count.result - 0 ≡ count_of c.args.image.now = omega arith in
    (search rules, rw e)

pub loop-i-preserved : goal.loop-i-preserved
loop-i-preserved c = let at-loop = c.loop-i in
    (search rules, at-loop.invariant.1 ∙ first_next _ _ _ (search rules) (sym c.entry_matches.ensures ∙ c.if-entry_matches.false))

pub returns-then-count-i : goal.returns-then-count-i
returns-then-count-i c = sym (c.loop-i.invariant.1 ∙ first-none _ _ _ c.if-count-i.true)

pub returns-then-entry_matches : goal.returns-then-entry_matches
returns-then-entry_matches c = let at-loop = c.loop-i in
    sym (at-loop.invariant.1 ∙ first-here _ _ _ (search rules) (sym c.entry_matches.ensures ∙ c.if-entry_matches.true))
