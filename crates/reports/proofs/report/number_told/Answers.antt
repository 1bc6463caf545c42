-- `number_told` is right because each of its branches is the case of the definition that its test names.
-- Assumes nothing.
use borrow.Author.Tests.{eq-eqb, ne_eqb}
use Rattle.reports.proofs.report.number_told.Goals as goal

pub returns-then-answer-eq4 : goal.returns-then-answer-eq4
returns-then-answer-eq4 c = simp (eq-eqb _ _ c.if-answer-eq4.true)

pub returns : goal.returns
returns c = simp (ne_eqb _ _ c.if-answer-eq4.false)
