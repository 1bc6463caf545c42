-- What the reports tell: that of the desk is read back as it was laid, and those of the other desks stay, octet for octet.
-- Assumes nothing.
use mathlib.Core.Path.{◌≡◌, ◌∙◌, sym, ap}
use mathlib.Core.Bool.{Bool, true, false}
use mathlib.Core.Logic.{inl, inr}
use mathlib.Core.List.{List}
use Prim.Native.Nat.{ℕ, ◌+◌, ◌*◌, ◌/◌, ◌%◌, ◌≤◌, ◌<◌}
use native.Mathlib.Decide.{dec_lt}
use native.Mathlib.Nat.{div-one, add-zero}
use native.Mathlib.Omega.{arith}
use borrow.Author.Tests.{eq-eqb}
use lib.ListN.{length}
use Rattle.octets.specs.Lists.{octet, part}
use Rattle.octets.specs.Numbers.{bytes, number_at}
use Rattle.octets.proofs.Outside.{Apart, same-part}
use Rattle.octets.proofs.Reading.{number_at-two}
use Rattle.reports.specs.Report.{flag, odd, first_octet, laid}
use Rattle.reports.specs.Desks.{desk_report, with_report}
use Rattle.reports.specs.declared.report.Report.{Report}
use Rattle.reports.proofs.Placing.{own_octet, changed}

-- ---- the reports of the other desks

apart : (desk other : ℕ) → (desk ≡ other → ⊥) → Dec (desk < other) → Apart (4 * desk) 4 (4 * other) 4
apart desk other differ (yes h) = inr (omega arith)
apart desk other differ (no g) = let k : other < desk = omega (arith, differ) in inl (omega arith)

pub others_stay : (s : List ℕ) (desk other : ℕ) (r : Report) → length s ≡ 12 → (desk ≡ other → ⊥)
    → part (4 * other) 4 (with_report s desk r) ≡ part (4 * other) 4 s
others_stay s desk other r l differ = same-part (changed s desk r l) (4 * other) 4 (apart desk other differ (dec_lt desk other))

-- ---- the flags of the first octet

flag_small : (set : Bool) → flag set ≤ 1
flag_small true = omega arith
flag_small false = omega arith

odd-flag : (set : Bool) (n : ℕ) → n % 2 ≡ flag set → odd n ≡ set
odd-flag true n e = eq-eqb (n % 2) 1 e
odd-flag false n e = rw e

module _ (r : Report) where
  told_flags : (odd (first_octet r / 8) ≡ r.alarm) × (odd (first_octet r / 4) ≡ r.bad.number)
      × (odd (first_octet r / 2) ≡ r.bad.mac) × (odd (first_octet r) ≡ r.bad.association)
  told_flags =
      let a = flag_small r.alarm in
      let n = flag_small r.bad.number in
      let m = flag_small r.bad.mac in
      let s = flag_small r.bad.association in (
        odd-flag r.alarm (first_octet r / 8) (omega (arith, a, n, m, s)),
        odd-flag r.bad.number (first_octet r / 4) (omega (arith, a, n, m, s)),
        odd-flag r.bad.mac (first_octet r / 2) (omega (arith, a, n, m, s)),
        odd-flag r.bad.association (first_octet r) (omega (arith, a, n, m, s)),
      )

-- ---- the report itself

pub told : (s : List ℕ) (desk : ℕ) (r : Report) → desk < 3 → length s ≡ 12 → r.spi < 65536 → desk_report (with_report s desk r) desk ≡ r
unfolding desk_report laid bytes
told s desk r h l small =
    let place : 4 * desk + 1 + 1 ≡ 4 * desk + 2 = omega arith in
    let first : octet (with_report s desk r) (4 * desk) ≡ first_octet r =
    ap (octet (with_report s desk r)) (sym (add-zero (4 * desk))) ∙ own_octet s desk r h l 0 (omega arith) in
    let high : octet (with_report s desk r) (4 * desk + 1) ≡ r.spi / 256 % 256 = own_octet s desk r h l 1 (omega arith) in
    let low : octet (with_report s desk r) (4 * desk + 2) ≡ r.spi % 256 =
    own_octet s desk r h l 2 (omega arith) ∙ rw (div-one r.spi) in
    let last : octet (with_report s desk r) (4 * desk + 3) ≡ r.number = own_octet s desk r h l 3 (omega arith) in
    let spi : number_at (4 * desk + 1) 2 (with_report s desk r) ≡ r.spi =
    number_at-two (4 * desk + 1) (with_report s desk r) ∙ rw (place, high, low) (omega arith) in
    let flags = told_flags r in
    λ i.
    record {
      alarm = (ap (λ (o : ℕ). odd (o / 8)) first ∙ flags.0) i;
      bad =
          record {
            number = (ap (λ (o : ℕ). odd (o / 4)) first ∙ flags.1) i;
            mac = (ap (λ (o : ℕ). odd (o / 2)) first ∙ flags.2) i;
            association = (ap odd first ∙ flags.3) i;
          };
      spi = spi i;
      number = last i;
    }
