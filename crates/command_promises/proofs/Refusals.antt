-- A command that is refused leaves everything as it was: what it leaves is decided by its answer, as of every call.
-- Assumes nothing.
use lib.ListN.{length}
use Rattle.commands.specs.Commanding.{command_reply, commanded, commanded_cut}
use Rattle.promises.proofs.Refusals.{by_answer, cut-by-answer}
use Rattle.command_promises.specs.Refusals.{CommandRefusals}

pub command_refusals : CommandRefusals
unfolding commanded commanded_cut
command_refusals =
    record {
      whole = λ image numbers desk command output. by_answer (command_reply image numbers desk command (length output)) image numbers output;
      cut = λ image numbers desk command output. cut-by-answer (command_reply image numbers desk command (length output)) image numbers output;
    }
