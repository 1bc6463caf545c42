-- A call by one desk leaves the report of every other desk as it was, octet for octet.
-- Assumes nothing.
use mathlib.Core.Path.{◌≡◌, refl}
use mathlib.Core.Bool.{Bool, true, false, cond}
use Prim.Native.Nat.{ℕ, ◌*◌}
use lib.ListN.{length}
use Rattle.octets.specs.Lists.{part}
use Rattle.reports.specs.Desks.{desk_report, after_reset}
use Rattle.reports.specs.Report.{renewing, resetting}
use Rattle.reports.proofs.Telling.{others_stay}
use Rattle.notes.specs.Noting.{LentNotes, reports_in, noted_check, alarm_reset_tag, is_done, noted_command}

module _ (n : LentNotes) (desk other : ℕ) (long : length (reports_in n) ≡ 12) (differ : desk ≡ other → ⊥) where
  pub check-apart : (answer spi number : ℕ)
      → part (4 * other) 4 (reports_in (noted_check n desk answer spi number)) ≡ part (4 * other) 4 (reports_in n)
  check-apart answer spi number =
      others_stay (reports_in n) desk other (renewing answer spi number (desk_report (reports_in n) desk)) long differ

  reset-apart : (done : Bool)
      → part (4 * other) 4 (cond done (after_reset (reports_in n) desk) (reports_in n)) ≡ part (4 * other) 4 (reports_in n)
  reset-apart true = others_stay (reports_in n) desk other (resetting (desk_report (reports_in n) desk)) long differ
  reset-apart false = refl

  pub command-apart : (tag answer : ℕ)
      → part (4 * other) 4 (reports_in (noted_command n desk tag answer)) ≡ part (4 * other) 4 (reports_in n)
  command-apart tag answer = reset-apart (is_done alarm_reset_tag tag answer)
