-- The tests that come first of a command, one by one, and past them.
-- Assumes nothing.
use Prim.Native.Nat.{ℕ}
use mathlib.Core.Path.{◌≡◌, ◌∙◌}
use mathlib.Core.Bool.{true, false, not}
use mathlib.Core.List.{List, ◌++◌}
use native.Mathlib.Omega.{arith}
use Rattle.std.specs.Prelude.{Some, None}
use Rattle.image.specs.Image.{valid_image}
use Rattle.numbers.specs.Numbers.{agrees}
use Rattle.judging.specs.Answers.{Test, first}
use Rattle.judging.proofs.First.{passes, passed}
use Rattle.command_form.specs.Form.{value_of}
use Rattle.procedures.specs.Procedures.{procedure_is, procedure_of, called}
use Rattle.procedures.specs.declared.procedure.Procedure as code
use Rattle.procedures.proofs.Calling.{called-long}
use Rattle.addressing.specs.Addressing.{wrong_desk, calls_none, entry_named, is_nothing, address_tests}
use Rattle.addressing.specs.Steps.{Addresses}

-- ---- one by one

module _ (image last : List ℕ) (desk : ℕ) (command : List ℕ) where
  abbrev front : ℕ
  front = first (address_tests image last desk command)

  module _ (v : valid_image image ≡ true) where
    module _ (a : agrees image last ≡ true) where
      pub by_19 : wrong_desk desk command ≡ true → front ≡ 19
      unfolding first
      by_19 w = rw (v, a, w)

      module _ (s : wrong_desk desk command ≡ false) where
        pub by_13 : called command ≡ None → front ≡ 13
        unfolding first
        by_13 n = rw (v, a, s, n)

        module _ (p : code.Procedure) (c : called command ≡ Some p) where
          pub by_14 : entry_named (procedure_is p) image desk (value_of command) ≡ None → front ≡ 14
          unfolding first
          by_14 n = rw (v, a, s, c, n)

          pub addresses : (e : ℕ) → entry_named (procedure_is p) image desk (value_of command) ≡ Some e → Addresses image last desk command p e
          unfolding first
          addresses e f =
              record {
                answer = rw (v, a, s, c, f);
                procedure = rw c;
                entry = f;
                long = called-long command p c;
              }

  -- ---- past them

  pub past_address : (us : List Test) → front ≡ 0 → first (address_tests image last desk command ++ us) ≡ first us
  past_address us z =
      let t1 = passed 1 (not (valid_image image)) _ (omega arith) z in
      let t2 = passed 2 (not (agrees image last)) _ (omega arith) t1.1 in
      let t19 = passed 19 (wrong_desk desk command) _ (omega arith) t2.1 in
      let t13 = passed 13 (calls_none (called command)) _ (omega arith) t19.1 in
      let t14 = passed 14 (is_nothing (entry_named (procedure_of command) image desk (value_of command))) _ (omega arith) t13.1 in
      passes 1 (not (valid_image image)) _ t1.0
      ∙ passes 2 (not (agrees image last)) _ t2.0
      ∙ passes 19 (wrong_desk desk command) _ t19.0
      ∙ passes 13 (calls_none (called command)) _ t13.0
      ∙ passes 14 (is_nothing (entry_named (procedure_of command) image desk (value_of command))) _ t14.0
