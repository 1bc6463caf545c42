-- `substituted_column` is right because each of the four words has the S-box in the row that it is read for.
-- Assumes nothing.
use mathlib.Core.Path.{◌≡◌, refl, ◌∙◌, ap}
use Prim.Native.Nat.{ℕ, ◌%◌}
use native.Mathlib.Omega.{arith}
use Rattle.octets.specs.Lists.{octet}
use Rattle.substitution.specs.Sbox.{sbox}
use Rattle.columns.specs.Words.{row_of}
use Rattle.columns.proofs.Columns.{renamed}
use Rattle.word_rounds.specs.Diagonal.{diagonal}
use Rattle.word_rounds.proofs.Mixing.{substitutes}
use Rattle.word_rounds.proofs.substituted_column.Goals as goal

pub returns : goal.returns
returns c = let given = c.args in
    let d : ℕ = given.d in
    let word : ℕ = octet given.second.now (d % 256) in
    let lowest : word % 256 ≡ row_of 3 word = omega arith in
    renamed (λ i. octet (diagonal given.a given.b given.c given.d) i) c.joined.ensures
    (substitutes c.requires.2 (row_of 0 given.a) 0 (omega arith) (omega arith) refl)
    (substitutes c.requires.0 (row_of 1 given.b) 1 (omega arith) (omega arith) refl)
    (substitutes c.requires.0 (row_of 2 given.c) 2 (omega arith) (omega arith) refl)
    (lowest ∙ substitutes c.requires.1 (d % 256) 3 (omega arith) (omega arith) refl ∙ ap sbox (omega arith))
