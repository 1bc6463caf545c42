-- `add_key` is right because column c is added to word 4 round + c of the expanded key, and a sum is one row by row.
-- Assumes nothing.
use mathlib.Core.Path.{refl}
use Prim.Native.Nat.{ℕ, ◌+◌, ◌*◌}
use native.Mathlib.Omega.{arith}
use Rattle.octets.specs.Xor.{◌⊕◌}
use Rattle.cipher.specs.AddRoundKey.{add_round_key}
use Rattle.cipher.specs.State.{at}
use Rattle.columns.specs.Columns.{state_from}
use Rattle.columns.proofs.Columns.{columns, keyed}
use Rattle.word_rounds.proofs.add_key.Goals as goal

pub returns : goal.returns
unfolding add_round_key
returns c = let given = c.args in
    let v = given.v in
    let w = given.expanded.now in
    let n : ℕ = given.round in
    columns (λ r c. at (state_from v) r c ⊕ at w r (4 * n + c)) (keyed v w n 0 (omega arith) (omega arith) c.word_at.ensures)
    (keyed v w n 1 (omega arith) refl c.word_at-2.ensures)
    (keyed v w n 2 (omega arith) refl c.word_at-3.ensures)
    (keyed v w n 3 (omega arith) refl c.word_at-4.ensures)
