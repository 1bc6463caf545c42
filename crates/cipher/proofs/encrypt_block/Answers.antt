-- `encrypt_block` is right because before round n the state is that of `rounds` after n - 1 rounds.
-- Assumes nothing.
use mathlib.Core.Path.{◌≡◌, refl}
use Prim.Native.Nat.{◌-◌}
use native.Mathlib.Omega.{arith}
use Rattle.cipher.specs.Cipher.{rounds}
use Rattle.cipher.specs.Cipher.Opened.{cipher-is}
use Rattle.cipher.proofs.Rounds.{rounds_more}
use Rattle.cipher.proofs.encrypt_block.Goals as goal

pub loop-n-init : goal.loop-n-init
unfolding rounds
loop-n-init c = refl

pub loop-n-preserved : goal.loop-n-preserved
loop-n-preserved c = let at-loop = c.loop-n in
    cc (rounds_more c.args.expanded.now c.add_round_key-s.result at-loop.n (omega arith))

pub returns : goal.returns
returns c = let e : c.loop-n.n - 1 ≡ 13 = omega arith in
    let given = c.args in
    cc (cipher-is given.expanded.now given.block)
