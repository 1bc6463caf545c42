-- What a check with each answer, and what an alarm reset, leave of the four octets of a report.
-- Assumes nothing.
use mathlib.Core.Path.{◌≡◌, ◌∙◌, refl, sym, ap}
use mathlib.Core.Bool.{Bool, true, false, ◌||◌}
use mathlib.Core.Logic.{◌⊎◌, inl, inr}
use mathlib.Core.List.{List, [], ◌∷◌, ◌++◌}
use Prim.Native.Nat.{ℕ, zero, suc, ◌+◌, ◌*◌, ◌/◌, ◌%◌, ◌<◌}
use native.Mathlib.Nat.{add-zero, div-one, div-div-eq-div-mul, mod-lt}
use native.Mathlib.Omega.{arith}
use lib.Dec.{eqb, lit<}
use lib.ListN.{length, drop}
use Rattle.octets.specs.Lists.{octet, tab, part, Octets}
use Rattle.octets.specs.Numbers.{bytes, number_at}
use Rattle.octets.proofs.Parts.{tab_self, octet-part}
use Rattle.octets.proofs.Reading.{number_at-two}
use Rattle.octets.proofs.Rules.{tab_ext}
use Rattle.reports.specs.Desks.{desk_report, with_report, after_check, after_reset}
use Rattle.reports.specs.Rows.{telling, Renewed, Reset}
use Rattle.reports.specs.Report.{flag, odd, laid, number_told, unread, renewing, resetting}
use Rattle.reports.specs.declared.report.Report.{Report}
use Rattle.reports.proofs.Placing.{own_octet}

-- ---- flags that were read from an octet

flag-bit : (m : ℕ) → m < 2 → flag (eqb m 1) ≡ m
flag-bit zero h = refl
flag-bit (suc zero) h = refl
flag-bit (suc (suc m)) h = absurd (omega arith)

flag-odd : (n : ℕ) → flag (odd n) ≡ n % 2
flag-odd n = flag-bit (n % 2) (mod-lt n (lit< tt))

three_bits : (n : ℕ) → n % 8 ≡ 4 * (n / 4 % 2) + 2 * (n / 2 % 2) + n % 2
three_bits n =
    let four : n / 4 ≡ n / 2 / 2 = sym (div-div-eq-div-mul n 2 2) in
    let eight : n / 8 ≡ n / 4 / 2 = sym (div-div-eq-div-mul n 4 2) in
    omega arith

kept-or : (alarm : Bool) → (alarm || false) ≡ alarm
kept-or true = refl
kept-or false = refl

set-or : (alarm : Bool) → (alarm || true) ≡ true
set-or true = refl
set-or false = refl

-- ---- refused checks that read the frame, whatever the report was

refused-told : (answer spi number : ℕ) (r : Report) → unread answer ≡ false → eqb answer 0 ≡ false
    → laid (renewing answer spi number r)
    ≡ telling (0xC8 + 4 * flag (eqb answer 8) + 2 * flag (eqb answer 7) + flag (eqb answer 4)) spi (number_told answer number)
unfolding renewing laid
refused-told answer spi number r e f = rw (e, f, set-or r.alarm)

-- ---- a report of desk d, among octets

module _ (s : List ℕ) (d : ℕ) (h : d < 3) (l : length s ≡ 12) where
  pub laid-there : (r : Report) → part (4 * d) 4 (with_report s d r) ≡ laid r
  unfolding part laid bytes
  laid-there r = tab_ext 4 (λ j k. own_octet s d r h l j k) ∙ tab_self (laid r)

  first : octet (part (4 * d) 4 s) 0 ≡ octet s (4 * d)
  first = octet-part (4 * d) 4 s 0 (omega arith) ∙ ap (octet s) (add-zero (4 * d))

  done-by : (spi number : ℕ)
      → laid (renewing 0 spi number (desk_report s d)) ≡ telling (0xC0 + 8 * (octet (part (4 * d) 4 s) 0 / 8 % 2)) spi number
  unfolding renewing desk_report laid
  done-by spi number =
      let bit = octet s (4 * d) / 8 % 2 in
      let none : 0xC0 + 8 * bit + 4 * 0 + 2 * 0 + 0 ≡ 0xC0 + 8 * bit = omega arith in
      rw (kept-or (odd (octet s (4 * d) / 8)), flag-odd (octet s (4 * d) / 8), first) (ap (λ (f : ℕ). telling f spi number) none)

  module _ (are : Octets s) where
    -- what is behind the first octet comes back as it was read
    behind : bytes 2 (number_at (4 * d + 1) 2 s) ++ (octet s (4 * d + 3) ∷ []) ≡ drop 1 (part (4 * d) 4 s)
    unfolding part tab bytes
    behind =
        let place : 4 * d + 1 + 1 ≡ 4 * d + 2 = omega arith in
        let both : number_at (4 * d + 1) 2 s ≡ octet s (4 * d + 1) * 256 + octet s (4 * d + 2) =
        number_at-two (4 * d + 1) s ∙ ap (λ (i : ℕ). octet s (4 * d + 1) * 256 + octet s i) place in
        let high : number_at (4 * d + 1) 2 s / 256 % 256 ≡ octet s (4 * d + 1) = rw both (omega (arith, are (4 * d + 1), are (4 * d + 2))) in
        let low : number_at (4 * d + 1) 2 s / 1 % 256 ≡ octet s (4 * d + 2) =
        rw (div-one (number_at (4 * d + 1) 2 s), both) (omega (arith, are (4 * d + 1), are (4 * d + 2))) in
        λ i. high i ∷ low i ∷ octet s (4 * d + 3) ∷ []

    low_bits : (alarm : ℕ)
        → 0xC0 + 8 * alarm + 4 * flag (odd (octet s (4 * d) / 4)) + 2 * flag (odd (octet s (4 * d) / 2)) + flag (odd (octet s (4 * d)))
        ≡ 0xC0 + 8 * alarm + octet (part (4 * d) 4 s) 0 % 8
    low_bits alarm =
        rw (flag-odd (octet s (4 * d) / 4), flag-odd (octet s (4 * d) / 2), flag-odd (octet s (4 * d)), first)
        (omega (arith, three_bits (octet s (4 * d))))

    -- a report whose flags are kept
    flags_kept : (alarm : Bool)
        → laid (record { alarm = alarm; bad = (desk_report s d).bad; spi = (desk_report s d).spi; number = (desk_report s d).number })
        ≡ (0xC0 + 8 * flag alarm + octet (part (4 * d) 4 s) 0 % 8) ∷ drop 1 (part (4 * d) 4 s)
    unfolding desk_report laid
    flags_kept alarm i = low_bits (flag alarm) i ∷ behind i

    -- only the alarm changes
    alarmed : (answer spi number : ℕ) → unread answer ≡ true
        → laid (renewing answer spi number (desk_report s d)) ≡ (0xC8 + octet (part (4 * d) 4 s) 0 % 8) ∷ drop 1 (part (4 * d) 4 s)
    unfolding renewing
    alarmed answer spi number e = rw e (flags_kept true)

    unread-by : (answer spi number : ℕ) → (answer ≡ 1) ⊎ ((answer ≡ 2) ⊎ ((answer ≡ 3) ⊎ (answer ≡ 12)))
        → laid (renewing answer spi number (desk_report s d)) ≡ (0xC8 + octet (part (4 * d) 4 s) 0 % 8) ∷ drop 1 (part (4 * d) 4 s)
    unread-by answer spi number (inl e) = alarmed answer spi number (ap unread e)
    unread-by answer spi number (inr (inl e)) = alarmed answer spi number (ap unread e)
    unread-by answer spi number (inr (inr (inl e))) = alarmed answer spi number (ap unread e)
    unread-by answer spi number (inr (inr (inr e))) = alarmed answer spi number (ap unread e)

  -- ---- by answer

  module _ (are : Octets s) (spi number : ℕ) where
    by_answer : (answer : ℕ) → Renewed (part (4 * d) 4 s) (laid (renewing answer spi number (desk_report s d))) answer spi number
    by_answer answer =
        record {
          done = λ e. rw e (done-by spi number);
          unread = unread-by are answer spi number;
          association = λ e. rw e (refused-told 4 spi number (desk_report s d) refl refl);
          other = other-by answer;
          mac = λ e. rw e (refused-told 7 spi number (desk_report s d) refl refl);
          window = λ e. rw e (refused-told 8 spi number (desk_report s d) refl refl);
        }
      where
        other-by : (answer : ℕ) → (answer ≡ 5) ⊎ (answer ≡ 6) → laid (renewing answer spi number (desk_report s d)) ≡ telling 0xC8 spi number
        other-by answer (inl e) = rw e (refused-told 5 spi number (desk_report s d) refl refl)
        other-by answer (inr e) = rw e (refused-told 6 spi number (desk_report s d) refl refl)

    pub check_renews : (answer : ℕ) → Renewed (part (4 * d) 4 s) (part (4 * d) 4 (after_check s d answer spi number)) answer spi number
    check_renews answer = rw (laid-there (renewing answer spi number (desk_report s d))) (by_answer answer)

  pub reset_renews : Octets s → Reset (part (4 * d) 4 s) (part (4 * d) 4 (after_reset s d))
  reset_renews are = laid-there (resetting (desk_report s d)) ∙ flags_kept are false
