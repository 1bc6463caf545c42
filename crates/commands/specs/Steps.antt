-- What the inner functions find on the way through a command, for their own contracts. No definition of a command cites this file, and no
-- promise does.
-- Assumes nothing.
use Rattle.std.specs.Prelude.{ℕ, List}
use Rattle.judging.specs.Answers.{first}
use Rattle.judging.specs.Replies.{Reply}
use Rattle.procedures.specs.Procedures.{procedure_is}
use Rattle.procedures.specs.declared.procedure.Procedure as code
use Rattle.commands.specs.Commanding.{tests_at, reply_at}

-- the reply under entry e, past the tests that come first
abbrev pub reply_under : code.Procedure → List ℕ → List ℕ → ℕ → List ℕ → ℕ → Reply
reply_under p image last e value room =
    reply_at (first (tests_at (procedure_is p) image last e value room)) (procedure_is p) image last e value
