-- `encrypt_apart` is right because before round n the columns are those of the state that `rounds` has after n - 1 rounds.
-- Assumes nothing.
use mathlib.Core.Path.{◌≡◌, refl}
use Prim.Native.Nat.{◌-◌}
use native.Mathlib.Omega.{arith}
use Rattle.cipher.specs.Cipher.{round, rounds}
use Rattle.cipher.proofs.Laws.{cipher-by-rounds}
use Rattle.cipher.proofs.Rounds.{rounds_more}
use Rattle.columns.specs.Columns.{state_from}
use Rattle.word_cipher.proofs.encrypt_apart.Goals as goal

pub loop-n-init : goal.loop-n-init
unfolding rounds
loop-n-init c = refl

pub loop-n-preserved : goal.loop-n-preserved
unfolding round
loop-n-preserved c = let at-loop = c.loop-n in
    cc (rounds_more c.args.expanded.now (state_from c.add_key-s.result) at-loop.n (omega arith))

pub returns : goal.returns
returns c = let e : c.loop-n.n - 1 ≡ 13 = omega arith in
    let given = c.args in
    cc (cipher-by-rounds given.expanded.now (state_from given.block))
