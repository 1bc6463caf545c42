-- `right_field` is right because the register is 0 after a message and its field, and after no other two octets.
-- Assumes nothing.
use mathlib.Core.Path.{sym, ap, ◌∙◌}
use Prim.Native.Nat.{ℕ}
use lib.Dec.{eqb}
use Rattle.check_field.proofs.Syndrome.{right_syndrome}
use Rattle.check_field.proofs.right_field.Goals as goal

pub returns : goal.returns
returns c = ap (λ (f : ℕ). eqb f 0) c.check_field.ensures
    ∙ sym (right_syndrome c.args.frame.now (λ i. (c.type_inv.frame i).fits))
