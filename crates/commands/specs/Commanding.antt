-- Document 02, requests 5, 9 and 10: a command is decided, then carried out, as a frame is. What it leaves, from the image, the numbers and
-- the output as they were; and the image where power fails after j of its stores. The answer is the first that applies of 1, 2, 19, 13, 14,
-- 15, 16, 17, 18 and 6.
-- Assumes nothing.
use Rattle.std.specs.Prelude.{ℕ, cond, List, [], ◌++◌, eqb, length}
use Rattle.marks.specs.declared.plans.Store.{Store}
use Rattle.association.specs.Association.{index_of}
use Rattle.numbers.specs.Numbers.{number_of}
use Rattle.judging.specs.Answers.{Test, first}
use Rattle.judging.specs.Replies.{Reply}
use Rattle.link.specs.Calls.{Left, left, cut}
use Rattle.command_form.specs.Form.{value_of}
use Rattle.procedures.specs.Procedures.{Procedure, procedure_of}
use Rattle.addressing.specs.Addressing.{entry_named, address_tests}
use Rattle.deciding.specs.Deciding.{procedure_tests}

-- ---- decided

-- under an entry, with that much room in the output
abbrev pub tests_at : Procedure → List ℕ → List ℕ → ℕ → List ℕ → ℕ → List Test
tests_at p image last e value room = procedure_tests p image e (number_of last e) value room

-- the reply at entry e, with that answer
abbrev pub reply_at : ℕ → Procedure → List ℕ → List ℕ → ℕ → List ℕ → Reply
reply_at answer p image last e value =
    let number = number_of last e in
    let result = p.reply image e number value in
    record {
      answer = answer;
      entry = e;
      number = p.number number value;
      stores = p.stores image e (p.number number value) value;
      size = length result;
      result = result;
    }

unfoldable pub command_reply : List ℕ → List ℕ → ℕ → List ℕ → ℕ → Reply
command_reply image last desk command room =
    let p = procedure_of command in
    let value = value_of command in
    let e = index_of (entry_named p image desk value) in
    reply_at (first (address_tests image last desk command ++ tests_at p image last e value room)) p image last e value

-- ---- carried out: image, numbers, desk, command, output

unfoldable pub commanded : List ℕ → List ℕ → ℕ → List ℕ → List ℕ → Left
commanded image last desk command output = left (command_reply image last desk command (length output)) image last output

-- the stores that are made, a refusal makes none; and the image where it is cut after j of them
abbrev pub made_by : Reply → List Store
made_by q = cond (eqb q.answer 0) q.stores []

unfoldable pub commanded_cut : List ℕ → List ℕ → ℕ → List ℕ → List ℕ → ℕ → List ℕ
commanded_cut image last desk command output j = cut (command_reply image last desk command (length output)) image j
