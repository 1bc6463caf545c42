-- `value_length` is right because the value is what stands behind the three octets.
-- Assumes nothing.
use native.Mathlib.Omega.{arith}
use lib.ListN.{length-drop}
use Rattle.command_form.proofs.form.value_length.Goals as goal

pub returns-then-command-lt-FRONT : goal.returns-then-command-lt-FRONT
returns-then-command-lt-FRONT c = simp length-drop (omega arith)

pub returns : goal.returns
returns c = simp length-drop (omega arith)
