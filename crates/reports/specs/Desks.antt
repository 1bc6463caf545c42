-- Document 02, request 11: the reports of the desks 0, 1 and 2, four octets each, one behind the other.
-- Assumes nothing.
use Rattle.std.specs.Prelude.{ℕ, ◌+◌, ◌*◌, ◌/◌, cond, List, [], ◌∷◌, ◌++◌, ltb, take, drop}
use Rattle.octets.specs.Lists.{octet}
use Rattle.octets.specs.Numbers.{number_at}
use Rattle.reports.specs.Report.{renewing, resetting, laid, odd}
use Rattle.reports.specs.declared.report.Report.{Report}

abbrev pub desks : ℕ
desks = 3

-- nothing reported and no alarm
abbrev pub fresh_reports : List ℕ
fresh_reports = 0xC0 ∷ 0 ∷ 0 ∷ 0 ∷ 0xC0 ∷ 0 ∷ 0 ∷ 0 ∷ 0xC0 ∷ 0 ∷ 0 ∷ 0 ∷ []

-- the report of a desk: any octets are one, as the bits of type and version are not read
unfoldable pub desk_report : List ℕ → ℕ → Report
desk_report s desk =
    record {
      alarm = odd (octet s (4 * desk) / 8);
      bad =
          record {
            number = odd (octet s (4 * desk) / 4);
            mac = odd (octet s (4 * desk) / 2);
            association = odd (octet s (4 * desk));
          };
      spi = number_at (4 * desk + 1) 2 s;
      number = octet s (4 * desk + 3);
    }

-- a report in place of a desk's; the others stay, and all stay where there is no such desk
unfoldable pub with_report : List ℕ → ℕ → Report → List ℕ
with_report s desk r = cond (ltb desk desks) (take (4 * desk) s ++ laid r ++ drop (4 * desk + 4) s) s

-- after a check by a desk
abbrev pub after_check : List ℕ → ℕ → ℕ → ℕ → ℕ → List ℕ
after_check s desk answer spi number = with_report s desk (renewing answer spi number (desk_report s desk))

-- after a desk reset its alarm
abbrev pub after_reset : List ℕ → ℕ → List ℕ
after_reset s desk = with_report s desk (resetting (desk_report s desk))
