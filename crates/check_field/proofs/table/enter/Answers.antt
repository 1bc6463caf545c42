-- `enter` is right because eight shifts of a sum are the sum of the shifts, and those of the low half only move it up.
-- Assumes nothing.
use borrow.Author.Rules.{rules}
use mathlib.Core.Path.{sym, ap, ◌∙◌}
use Prim.Native.Nat.{ℕ, ◌%◌, ◌*◌}
use Rattle.octets.specs.Xor.{◌⊕◌}
use Rattle.check_field.proofs.Shifting.{shifts_split}
use Rattle.check_field.proofs.table.enter.Goals as goal

pub returns : goal.returns
returns c = let given = c.args in
    ap (λ (x : ℕ). given.register % 256 * 256 ⊕ x) c.shifted_octet.ensures ∙ sym (shifts_split given.register given.octet (search rules))
