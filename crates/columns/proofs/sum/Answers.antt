-- `sum` is right because a sum of words is one row by row.
-- Assumes nothing.
use mathlib.Core.Path.{◌∙◌}
use native.Mathlib.Omega.{arith}
use Rattle.octets.specs.Xor.{◌⊕◌}
use Rattle.cipher.specs.State.{at}
use Rattle.columns.specs.Columns.{state_from}
use Rattle.columns.proofs.Columns.{columns, summed, state-sum}
use Rattle.columns.proofs.sum.Goals as goal

pub returns : goal.returns
returns c = let v = c.args.v in
    let w = c.args.w in
    columns (λ r c. at (state_from v) r c ⊕ at (state_from w) r c) (summed v w 0 (omega arith)) (summed v w 1 (omega arith)) (summed v w 2 (omega arith))
    (summed v w 3 (omega arith))
    ∙ state-sum (state_from v) (state_from w)
