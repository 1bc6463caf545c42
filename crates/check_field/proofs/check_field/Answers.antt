-- `check_field` is right because after i octets, the whole words first, the register is the field of the first i.
-- Assumes nothing.
use native.Mathlib.Omega.{arith}
use mathlib.Core.Path.{◌∙◌}
use Rattle.check_field.proofs.Fields.{field_next, field-all}
use Rattle.check_field.proofs.check_field.Goals as goal

pub loop-i-init : goal.loop-i-init
loop-i-init c = (omega arith, c.narrowed-register.ensures ∙ c.enter_words.ensures)

pub loop-i-preserved : goal.loop-i-preserved
loop-i-preserved c = let at-loop = c.loop-i in
    let octets = c.args.octets.now in (
      omega arith,
      field_next at-loop.i octets at-loop.register c.enter-register.result
          (omega (arith, c.type_inv.octets at-loop.i)) at-loop.invariant.1 c.enter-register.ensures,
    )

pub returns : goal.returns
returns c = let at-loop = c.loop-i in
    let octets = c.args.octets.now in
    field-all at-loop.i octets at-loop.register (omega arith) at-loop.invariant.1
