-- `number_asked` is right because a number that is allowed is at most the greatest, so its upper part is 0.
-- Assumes nothing.
use mathlib.Core.Path.{sym, ◌∙◌, subst}
use mathlib.Core.Bool.{true}
use mathlib.Core.Path.{◌≡◌}
use Prim.Native.Nat.{ℕ}
use Rattle.numbers.specs.Numbers.{accepts}
use Rattle.verdicts.proofs.Accepting.{accepted_low}
use Rattle.procedures.specs.Procedures.{most_rise}
use Rattle.conditions.proofs.number_asked.Goals as goal

pub returns : goal.returns
returns c = λ version body allowed.
    let r = c.long_number.result in
    let g = c.args in
    let e = c.long_number.ensures in
    sym (accepted_low g.last most_rise r.above r.number (subst (λ (n : ℕ). accepts g.last most_rise n ≡ true) (sym e) allowed)) ∙ e
