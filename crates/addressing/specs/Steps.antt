-- What the judging functions find, for their contracts. No definition of a command cites this file, and no promise does.
-- Assumes nothing.
use Rattle.std.specs.Prelude.{ℕ, ◌≤◌, ◌≡◌, List, length, Some, Result, Ok, Err}
use Rattle.judging.specs.Answers.{first}
use Rattle.judging.specs.Verdicts.{Refuses}
use Rattle.judging.specs.declared.answers.Refusal.{Refusal}
use Rattle.command_form.specs.Form.{front_length, value_of}
use Rattle.procedures.specs.Procedures.{procedure_is, procedure_of}
use Rattle.procedures.specs.declared.procedure.Procedure as code
use Rattle.addressing.specs.Addressing.{entry_named, address_tests}
use Rattle.addressing.specs.declared.address.Address.{Address}

-- past the tests that come first: the procedure that the command calls, and the entry that it names
pub record Addresses (image last : List ℕ) (desk : ℕ) (command : List ℕ) (p : code.Procedure) (e : ℕ) : Type 0 where
  pub answer : first (address_tests image last desk command) ≡ 0
  pub procedure : procedure_of command ≡ procedure_is p
  pub entry : entry_named (procedure_is p) image desk (value_of command) ≡ Some e
  pub long : front_length ≤ length command

abbrev pub Addressed : Result Address Refusal → List ℕ → List ℕ → ℕ → List ℕ → Type 0
Addressed (Ok a) image last desk command = Addresses image last desk command a.procedure a.entry
Addressed (Err r) image last desk command = Refuses r (first (address_tests image last desk command))
