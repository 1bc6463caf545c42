-- `with` is right because its four stores lay the report in place of the desk's, and where there is no such desk nothing is stored.
-- Assumes nothing.
use mathlib.Core.Path.{sym}
use native.Mathlib.Omega.{arith}
use borrow.Author.Rules.{rules}
use Rattle.reports.proofs.Placing.{stored, no_desk_lem}
use Rattle.reports.proofs.Reports.with.Goals as goal

pub returns-then-desk-lt-DESKS : goal.returns-then-desk-lt-DESKS
returns-then-desk-lt-DESKS c = let a = c.args in
    rw c.to_be_bytes.ensures (stored a.self.octets a.desk a.report c.first_octet.result c.first_octet.ensures c.if-desk-lt-DESKS.true (search rules))

pub returns : goal.returns
returns c = let a = c.args in sym (no_desk_lem a.self.octets a.desk a.report (omega arith))
