-- `renewed` is right because its test is the definition's, and each field is the definition's formula for it.
-- Assumes nothing.
use mathlib.Core.Path.{◌≡◌, sym, ◌∙◌}
use mathlib.Core.Bool.{false}
use Rattle.reports.specs.Report.{unread, renewing}
use Rattle.reports.proofs.report.Report.renewed.Goals as goal

pub returns-then-unread : goal.returns-then-unread
unfolding renewing
returns-then-unread c = simp (sym c.unread.ensures ∙ c.if-unread.true)

pub returns : goal.returns
unfolding renewing
returns c = let e : unread c.args.answer ≡ false = sym c.unread.ensures ∙ c.if-unread.false in
    simp (e, c.number_told.ensures)
