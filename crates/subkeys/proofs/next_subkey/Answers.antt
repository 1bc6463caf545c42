-- `next_subkey` is right because the first bit of the block, as a number, says whether R_128 is added.
-- Assumes nothing.
use native.Mathlib.Omega.{arith}
use mir.Syntax.{w8}
use mir.Val.{Fits}
use Rattle.octets.specs.Lists.{octet}
use Rattle.subkeys.proofs.Reduction.{reduced}
use borrow.Author.Rules.{rules}
use Rattle.subkeys.proofs.next_subkey.Goals as goal

pub overflow_mul-out : goal.overflow_mul-out
overflow_mul-out c = let f : Fits w8 (octet c.args.x 0) = search rules in
    record { fits = omega arith }

pub returns : goal.returns
returns c = let x = c.args.x in
    let f : Fits w8 (octet x 0) = search rules in
    rw c.shifted-out.ensures (reduced x f.fits)
