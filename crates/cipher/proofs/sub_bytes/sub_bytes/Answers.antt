-- `sub_bytes` is right because each turn writes the S-box of one octet of the state, and the turns go through all sixteen.
-- Assumes nothing.
use mathlib.Core.Path.{◌∙◌, refl, ap}
use Prim.Native.Nat.{ℕ}
use Rattle.octets.specs.Lists.{octet}
use Rattle.octets.proofs.Rules.{filled_none, filled_more, filled_all}
use Rattle.substitution.specs.Sbox.{sbox}
use Rattle.cipher.specs.SubBytes.{sub_bytes}
use Rattle.cipher.proofs.Cells.{cell_at}
use Rattle.cipher.proofs.sub_bytes.sub_bytes.Goals as goal

pub loop-i-init : goal.loop-i-init
loop-i-init c = filled_none refl

pub loop-i-preserved : goal.loop-i-preserved
loop-i-preserved c = let at-loop = c.loop-i in
    filled_more c.loop-i-test.true
    (c.substituted.ensures
    ∙ ap (λ (k : ℕ). sbox (octet c.args.s k)) (cell_at at-loop.i))
    at-loop.invariant

pub returns : goal.returns
unfolding sub_bytes
returns c = filled_all c.loop-i-test.false c.loop-i.invariant
