-- Document 02, request 11: a frame security report, and what a check makes of it. The layout is that of CCSDS 355.1-B-1, 32 bits: control word
-- type 1 and version 100; alarm, bad number, bad MAC and bad association, one bit each; the SPI in 16 bits; the number in 8.
-- Assumes nothing.
use Rattle.std.specs.Prelude.{ℕ, ◌+◌, ◌*◌, ◌%◌, Bool, true, false, not, ◌||◌, cond, List, [], ◌∷◌, ◌++◌, eqb}
use Rattle.octets.specs.Numbers.{bytes}
use Rattle.reports.specs.declared.report.Report.{Report}

-- ---- what each answer does to a report

-- after these only the alarm changes
abbrev pub unread : ℕ → Bool
unread answer = eqb answer 1 || eqb answer 2 || eqb answer 3 || eqb answer 12

-- the low octet of the entry's number afterwards, or 0 without a match
abbrev pub number_told : ℕ → ℕ → ℕ
number_told answer number = cond (eqb answer 4) 0 number

-- a check with that answer, of a frame with that SPI; `number` is the low octet of the number of the entry that it matched. Any refused check
-- sets the alarm, and a check that is not refused leaves it as it was.
unfoldable pub renewing : ℕ → ℕ → ℕ → Report → Report
renewing answer spi number r =
    cond (unread answer)
    (record {
      alarm = true;
      bad = r.bad;
      spi = r.spi;
      number = r.number;
    })
    (record {
      alarm = r.alarm || not (eqb answer 0);
      bad = record { number = eqb answer 8; mac = eqb answer 7; association = eqb answer 4 };
      spi = spi;
      number = number_told answer number;
    })

-- its desk resets the alarm, and nothing else changes
abbrev pub resetting : Report → Report
resetting r =
    record {
      alarm = false;
      bad = r.bad;
      spi = r.spi;
      number = r.number;
    }

-- ---- its octets

abbrev pub flag : Bool → ℕ
flag set = cond set 1 0

abbrev pub first_octet : Report → ℕ
first_octet r = 0xC0 + 8 * flag r.alarm + 4 * flag r.bad.number + 2 * flag r.bad.mac + flag r.bad.association

unfoldable pub laid : Report → List ℕ
laid r = first_octet r ∷ (bytes 2 r.spi ++ (r.number ∷ []))

abbrev pub odd : ℕ → Bool
odd n = eqb (n % 2) 1
