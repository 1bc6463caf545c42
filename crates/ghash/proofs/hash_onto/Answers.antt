-- What is left of s, hashed from z, gives what all of it gave from y.
-- Assumes nothing.
use Rattle.std.proofs.Common.{sym, ◌∙◌}
use Rattle.ghash.proofs.Hashing.{hash_more, hash_none}
use Rattle.ghash.proofs.hash_onto.Goals as goal

pub loop-piece-preserved : goal.loop-piece-preserved
loop-piece-preserved c = let size = c.loop-piece.invariant.0 in
    let cut = c.in-Some.ensures.steps in (
      cut.0 ∙ size,
      λ h is.
          hash_more h _ _ _ _ _ _ _ _ (rw size at cut.1) (c.loop-piece.invariant.1 h is) c.load.ensures c.xor.ensures (c.multiply-z.ensures h is),
    )

pub returns : goal.returns
returns c h is = sym (hash_none h _ _ c.in-None.ensures.steps.1.0) ∙ c.loop-piece.invariant.1 h is
