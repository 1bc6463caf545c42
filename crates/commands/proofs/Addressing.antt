-- Past the tests that come first the reply is that of the entry that a command names, and a refusal by them is the whole command's.
-- Assumes nothing.
use Prim.Native.Nat.{ℕ}
use mathlib.Core.Path.{◌≡◌, sym, ap, ◌∙◌}
use mathlib.Core.List.{List}
use Rattle.judging.specs.Answers.{first}
use Rattle.judging.specs.Verdicts.{Refuses}
use Rattle.judging.specs.declared.answers.Refusal.{Refusal}
use Rattle.judging.proofs.First.{stops}
use Rattle.command_form.specs.Form.{value_of}
use Rattle.procedures.specs.Procedures.{procedure_is}
use Rattle.procedures.specs.declared.procedure.Procedure as code
use Rattle.addressing.specs.Addressing.{address_tests}
use Rattle.addressing.specs.Steps.{Addresses}
use Rattle.addressing.proofs.Passing.{past_address}
use Rattle.commands.specs.Commanding.{tests_at, reply_at, command_reply}
use Rattle.commands.specs.Steps.{reply_under}

module _ (image last : List ℕ) (desk : ℕ) (command : List ℕ) where
  pub command-refused : (room : ℕ) (a : Refusal) → Refuses a (first (address_tests image last desk command)) → Refuses a (command_reply image last desk command room).answer
  unfolding command_reply
  command-refused room a r =
      let same = stops (address_tests image last desk command) _ r.some in
      record { answer = r.answer ∙ sym same; some = rw same r.some }

  pub command_under : (room : ℕ) (p : code.Procedure) (e : ℕ) → Addresses image last desk command p e
      → reply_under p image last e (value_of command) room ≡ command_reply image last desk command room
  unfolding command_reply
  command_under room p e d =
      let k = procedure_is p in
      let value = value_of command in
      ap (λ (n : ℕ). reply_at n k image last e value) (sym (past_address image last desk command (tests_at k image last e value room) d.answer))
      ∙ rw (d.procedure, d.entry)
