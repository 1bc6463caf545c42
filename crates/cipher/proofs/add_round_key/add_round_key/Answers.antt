-- `add_round_key` is right because octet i of a round key is at row i % 4 of the word in column i / 4.
-- Assumes nothing.
use mathlib.Core.Path.{refl, ap₂}
use Prim.Native.Nat.{ℕ}
use Rattle.octets.specs.Lists.{octet}
use Rattle.octets.specs.Xor.{◌⊕◌}
use Rattle.octets.proofs.Rules.{filled_none, filled_more, filled_all}
use Rattle.cipher.specs.AddRoundKey.{add_round_key}
use Rattle.cipher.proofs.Cells.{cell_at, round-key-at}
use Rattle.cipher.proofs.add_round_key.add_round_key.Goals as goal

pub loop-i-init : goal.loop-i-init
loop-i-init c = filled_none refl

pub loop-i-preserved : goal.loop-i-preserved
loop-i-preserved c = let a = c.args in
    filled_more c.loop-i-test.true
    (ap₂ (λ (j k : ℕ). octet a.s j ⊕ octet a.expanded.now k) (cell_at _) (round-key-at a.round _))
    c.loop-i.invariant

pub returns : goal.returns
unfolding add_round_key
returns c = filled_all c.loop-i-test.false c.loop-i.invariant
