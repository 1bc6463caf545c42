-- `same_block` is right because what it gathers is 0 as long as every pair of octets passed is equal, and only then.
-- Assumes nothing.
use borrow.Author.Count.{below_more}
use native.Mathlib.Omega.{arith}
use mathlib.Core.Path.{◌≡◌, ◌∙◌, sym, ap, ap₂}
use mathlib.Core.List.{List}
use Prim.Native.Nat.{ℕ}
use lib.Bits.{bit_or, xor_self}
use lib.ListN.{length}
use Rattle.octets.specs.Lists.{octet}
use Rattle.octets.specs.Xor.{◌⊕◌}
use Rattle.octets.proofs.Sameness.{by_difference}
use Rattle.octets.proofs.XorLaws.{xor-none, or-none}
use borrow.Author.Rules.{rules}
use Rattle.octets.proofs.same_block.Goals as goal

pub loop-i-preserved : goal.loop-i-preserved
loop-i-preserved c = let at-loop = c.loop-i in
    let a = c.args.a in
    let b = c.args.b in
    let i : ℕ = at-loop.i in (
      (λ e. let none = or-none at-loop.differing (octet a i ⊕ octet b i) e in
          below_more _ _ (at-loop.invariant.0 none.0) (xor-none (octet a i) (octet b i) none.1)),
      λ e. ap₂ bit_or (at-loop.invariant.1 e) (ap (λ (l : List ℕ). octet l i ⊕ octet b i) e ∙ xor_self (octet b i)),
    )

pub returns : goal.returns
returns c = let at-loop = c.loop-i in
    let a = c.args.a in
    let b = c.args.b in
    let la : length a ≡ 16 = search rules in
    let lb : length b ≡ 16 = search rules in
    by_difference a b at-loop.differing (la ∙ sym lb) (λ e k l. at-loop.invariant.0 e k (omega arith)) at-loop.invariant.1
