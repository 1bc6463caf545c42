-- After 1 and 2 a report tells neither SPI nor number, so a refused count needs neither.
-- Assumes nothing.
use Prim.Native.Nat.{ℕ}
use mathlib.Core.Path.{◌≡◌, refl}
use mathlib.Core.Bool.{Bool, true, false, cond}
use Rattle.reports.specs.Report.{renewing}
use Rattle.notes.specs.Noting.{LentNotes, noted_check}

pub unread-told : (n : LentNotes) (desk : ℕ) (v : Bool) (spi number : ℕ)
    → noted_check n desk (cond v 2 1) 0 0 ≡ noted_check n desk (cond v 2 1) spi number
unfolding renewing
unread-told n desk true spi number = refl
unread-told n desk false spi number = refl
