-- Answer 19 of a command: the test that the definitions make of the desk is the rule of the promise, both ways; and a command that names an
-- association is no key command.
-- Assumes nothing.
use Prim.Native.Nat.{ℕ}
use mathlib.Core.Path.{◌≡◌, refl, sym, ◌∙◌}
use mathlib.Core.Logic.{◌⊎◌, inl, inr}
use mathlib.Core.Bool.{Bool, true, false, not, ◌&&◌, ◌||◌, true≢false}
use mathlib.Core.List.{List}
use borrow.Author.Tests.{eqb-true, eq-eqb, ltb-false, le-ltb}
use lib.Dec.{eqb}
use Rattle.octets.specs.Lists.{octet}
use Rattle.judging.specs.Said.{no_desk}
use Rattle.command_form.specs.Form.{tag_of}
use Rattle.procedures.specs.Procedures.{key_command}
use Rattle.addressing.specs.Addressing.{wrong_desk}
use Rattle.command_promises.specs.Answers.{row_in, KeyCommand, DeskRules}
use Rattle.command_promises.specs.Rows.{row_of}

any_of : (a b c : Bool) → (a || b || c) ≡ true → (a ≡ true) ⊎ ((b ≡ true) ⊎ (c ≡ true))
any_of true b c e = inl refl
any_of false true c e = inr (inl refl)
any_of false false true e = inr (inr refl)
any_of false false false e = absurd (true≢false (sym e))

of_any : (a b c : Bool) → (a ≡ true) ⊎ ((b ≡ true) ⊎ (c ≡ true)) → (a || b || c) ≡ true
of_any true b c e = refl
of_any false true c e = refl
of_any false false true e = refl
of_any false false false (inl e) = absurd (true≢false (sym e))
of_any false false false (inr (inl e)) = absurd (true≢false (sym e))
of_any false false false (inr (inr e)) = absurd (true≢false (sym e))

module _ (c : List ℕ) where
  tag-kept : key_command (tag_of c) ≡ true → KeyCommand c
  tag-kept e = by-tag (any_of (eqb (octet c 0) 0x02) (eqb (octet c 0) 0x03) (eqb (octet c 0) 0x07) e)
    where
      by-tag : (eqb (octet c 0) 0x02 ≡ true) ⊎ ((eqb (octet c 0) 0x03 ≡ true) ⊎ (eqb (octet c 0) 0x07 ≡ true)) → KeyCommand c
      by-tag (inl t) = inl (eqb-true (octet c 0) 0x02 t)
      by-tag (inr (inl t)) = inr (inl (eqb-true (octet c 0) 0x03 t))
      by-tag (inr (inr t)) = inr (inr (eqb-true (octet c 0) 0x07 t))

  tag_tested : KeyCommand c → key_command (tag_of c) ≡ true
  tag_tested key = of_any (eqb (octet c 0) 0x02) (eqb (octet c 0) 0x03) (eqb (octet c 0) 0x07) (by-tag key)
    where
      by-tag : KeyCommand c → (eqb (octet c 0) 0x02 ≡ true) ⊎ ((eqb (octet c 0) 0x03 ≡ true) ⊎ (eqb (octet c 0) 0x07 ≡ true))
      by-tag (inl t) = inl (eq-eqb (octet c 0) 0x02 t)
      by-tag (inr (inl t)) = inr (inl (eq-eqb (octet c 0) 0x03 t))
      by-tag (inr (inr t)) = inr (inr (eq-eqb (octet c 0) 0x07 t))

  pub not_key : (row_in c).names ≡ true → KeyCommand c → ⊥
  unfolding row_of
  not_key named (inl t) = true≢false (sym (rw t at named))
  not_key named (inr (inl t)) = true≢false (sym (rw t at named))
  not_key named (inr (inr t)) = true≢false (sym (rw t at named))

module _ (desk : ℕ) (c : List ℕ) where
  pub seat_kept : wrong_desk desk c ≡ false → DeskRules desk c
  seat_kept e = by_tests (no_desk desk) (key_command (tag_of c)) (eqb desk 0) refl refl refl e
    where
      by_tests : (none key zero : Bool) → no_desk desk ≡ none → key_command (tag_of c) ≡ key → eqb desk 0 ≡ zero → (none || (key && not zero)) ≡ false
          → DeskRules desk c
      by_tests true key zero n k z e2 = absurd (true≢false e2)
      by_tests false false zero n k z e2 =
          record { known = ltb-false 2 desk n; office = λ t. absurd (true≢false (sym (tag_tested c t) ∙ k)) }
      by_tests false true true n k z e2 = record { known = ltb-false 2 desk n; office = λ t. eqb-true desk 0 z }
      by_tests false true false n k z e2 = absurd (true≢false e2)

  pub seat_tested : DeskRules desk c → wrong_desk desk c ≡ false
  seat_tested r = by-tag (key_command (tag_of c)) refl
    where
      by-tag : (key : Bool) → key_command (tag_of c) ≡ key → (no_desk desk || (key && not (eqb desk 0))) ≡ false
      by-tag true k = rw (le-ltb 2 desk r.known, eq-eqb desk 0 (r.office (tag-kept c k)))
      by-tag false k = rw (le-ltb 2 desk r.known)
