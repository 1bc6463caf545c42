-- `words_at` is right because octet r of word c stands r + 4c places behind the place.
-- Assumes nothing.
use mathlib.Core.Path.{◌∙◌, refl}
use Prim.Native.Nat.{ℕ, ◌+◌, ◌*◌}
use native.Mathlib.Omega.{arith}
use Rattle.octets.specs.Lists.{octet}
use Rattle.columns.proofs.Columns.{placed, columns, state-at}
use Rattle.columns.proofs.words_at.Goals as goal

pub returns : goal.returns
returns c = let given = c.args in
    let s = given.s.now in
    let place : ℕ = given.at in
    columns (λ r c. octet s (place + (r + 4 * c))) (placed s place 0 (omega arith) c.word_at.ensures)
    (placed s place 1 refl c.word_at-2.ensures)
    (placed s place 2 refl c.word_at-3.ensures)
    (placed s place 3 refl c.word_at-4.ensures)
    ∙ state-at s place
