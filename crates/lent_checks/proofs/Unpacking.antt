-- Nothing is lost in the number that a check returns.
-- Assumes nothing.
use Prim.Native.Nat.{ℕ}
use mathlib.Core.List.{List}
use Rattle.judging.specs.Said.{Said}
use Rattle.link.specs.Calls.{checked}
use Rattle.link.proofs.Small.{checked-small}
use Rattle.notes.specs.Noting.{LentNotes}
use Rattle.lent.specs.Interface.{Unpacked}
use Rattle.lent.proofs.Unpacking.{unpacked_counted}
use Rattle.lent_checks.specs.LentChecks.{check_call}

pub check_unpacked : (notes : LentNotes) (image numbers : List ℕ) (said : Said) (frame output : List ℕ)
    → Unpacked (check_call notes image numbers said frame output).left
unfolding check_call
check_unpacked notes image numbers said frame output =
    unpacked_counted image numbers output (checked image numbers said frame output) (checked-small image numbers said frame output)
