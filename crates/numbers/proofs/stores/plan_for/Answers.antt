-- `plan_for` is right because the test of the entry decides as in the definition.
-- Assumes nothing.
use mathlib.Core.Path.{sym, ◌∙◌}
use Rattle.numbers.specs.Stores.{plan_for}
use Rattle.numbers.proofs.stores.plan_for.Goals as goal

pub returns-then-has_entry : goal.returns-then-has_entry
unfolding plan_for
returns-then-has_entry c = simp (sym c.has_entry.ensures ∙ c.if-has_entry.true) (rw (c.mark_in.ensures, c.mark_at.ensures))

pub returns : goal.returns
unfolding plan_for
returns c = simp (sym c.has_entry.ensures ∙ c.if-has_entry.false)
