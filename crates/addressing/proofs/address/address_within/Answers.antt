-- `address_within` is right because a command from a wrong desk is answered by 19, one that calls no procedure by 13, and one whose entry the
-- table has not for that desk by 14.
-- Assumes nothing.
use mathlib.Core.Path.{sym, ◌∙◌}
use native.Mathlib.Omega.{arith}
use Rattle.judging.specs.declared.answers.Refusal.TheVariants as refused
use Rattle.judging.proofs.Admitting.{refuses}
use Rattle.addressing.proofs.Passing.{by_19, by_13, by_14, addresses}
use Rattle.addressing.proofs.address.address_within.Goals as goal

pub returns-then-wrong_desk : goal.returns-then-wrong_desk
returns-then-wrong_desk c = let g = c.args in
    refuses refused.WrongDesk _ (omega arith)
    (by_19 g.image.now g.numbers.last g.desk g.command.now c.requires.0 c.requires.1
    (sym c.wrong_desk.ensures ∙ c.if-wrong_desk.true))

pub returns-in_default : goal.returns-in_default
returns-in_default c = let g = c.args in
    refuses refused.BadCommand _ (omega arith)
    (by_13 g.image.now g.numbers.last g.desk g.command.now c.requires.0 c.requires.1 (sym c.wrong_desk.ensures ∙ c.if-wrong_desk.false)
    (sym c.called_by.ensures ∙ c.in_default.is))

pub returns-in_default-entry_named : goal.returns-in_default-entry_named
returns-in_default-entry_named c = let g = c.args in
    refuses refused.UnknownSpi _ (omega arith)
    (by_14 g.image.now g.numbers.last g.desk g.command.now c.requires.0 c.requires.1 (sym c.wrong_desk.ensures ∙ c.if-wrong_desk.false) _
    (sym c.called_by.ensures ∙ c.in-Some.is) (sym c.entry_named.ensures ∙ c.in_default-entry_named.is))

pub returns : goal.returns
returns c = let g = c.args in
    addresses g.image.now g.numbers.last g.desk g.command.now c.requires.0 c.requires.1 (sym c.wrong_desk.ensures ∙ c.if-wrong_desk.false) _
    (sym c.called_by.ensures ∙ c.in-Some.is) _ (sym c.entry_named.ensures ∙ c.in-Some-entry_named.is)
