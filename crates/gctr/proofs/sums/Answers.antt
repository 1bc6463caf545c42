-- Each turn adds one pair of octets, and the turns go through sixteen of them.
-- Assumes nothing.
use Rattle.std.proofs.Common.{ℕ, refl, sym, ap}
use Rattle.std.proofs.Math.Seq.{get_or-drop}
use Rattle.octets.specs.Lists.{octet}
use Rattle.octets.specs.Xor.{◌⊕◌, xors}
use Rattle.octets.proofs.Rules.{filled_none, filled_more, filled_all}
use Rattle.gctr.proofs.sums.Goals as goal

pub loop-j-init : goal.loop-j-init
loop-j-init c = filled_none refl

pub loop-j-preserved : goal.loop-j-preserved
loop-j-preserved c = filled_more c.loop-j-test.true
    (ap (λ (n : ℕ). n ⊕ octet c.args.stream c.loop-j.j) (sym (get_or-drop c.args.at c.args.src.now c.loop-j.j 0))) c.loop-j.invariant

pub returns : goal.returns
unfolding xors
returns c = filled_all c.loop-j-test.false c.loop-j.invariant
