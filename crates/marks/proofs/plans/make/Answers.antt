-- `make` is right because each turn makes the next of the stores, as many as there are of the first j.
-- Assumes nothing.
use mathlib.Core.Path.{◌≡◌, sym}
use Prim.Native.Nat.{min}
use native.Mathlib.Omega.{arith}
use Rattle.marks.specs.Stores.{stores_in, store_at}
use Rattle.marks.proofs.Made.{length-steps, take_steps, stored-none, stored_more}
use Rattle.marks.proofs.plans.make.Goals as goal

pub loop-i-init : goal.loop-i-init
loop-i-init c = sym (stored-none _ _)

pub loop-i-preserved : goal.loop-i-preserved
loop-i-preserved c = let g = c.args in
    rw (stored_more (store_at g.plan) g.image.now c.loop-i.i, ← c.loop-i.invariant, ← c.store_at-store.ensures) c.store_octet.ensures

pub returns : goal.returns
returns c = let g = c.args in
    let all : c.loop-i.i ≡ min g.j (stores_in g.plan) = omega (arith, c.stores_in.ensures, c.min-count.ensures) in
    rw (take_steps (store_at g.plan) g.j (stores_in g.plan), ← all)
    (omega (arith, length-steps (store_at g.plan) c.loop-i.i), c.loop-i.invariant)
