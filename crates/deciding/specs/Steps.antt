-- What is judged of a command under an entry, for the contract of `decide`. No definition of a command cites this file, and no promise does.
-- Assumes nothing.
use Rattle.std.specs.Prelude.{ℕ, List, length}
use Rattle.judging.specs.Answers.{first}
use Rattle.judging.specs.Verdicts.{Judgement}
use Rattle.procedures.specs.Procedures.{procedure_is}
use Rattle.procedures.specs.declared.procedure.Procedure as code
use Rattle.deciding.specs.Deciding.{procedure_tests}

-- from the entry's last number
abbrev pub procedure_judged : code.Procedure → List ℕ → ℕ → ℕ → List ℕ → ℕ → Judgement
procedure_judged p image e last value room =
    let k = procedure_is p in
    record {
      answer = first (procedure_tests k image e last value room);
      entry = e;
      number = k.number last value;
      stores = k.stores image e (k.number last value) value;
      size = length (k.reply image e last value);
    }
