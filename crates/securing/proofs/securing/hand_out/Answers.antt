-- `hand_out` is right because the frame is written, and the stores that are reported are those that were made, all of them.
-- Assumes nothing.
use mathlib.Core.Path.{ap, ◌∙◌}
use Rattle.judging.specs.Answers.{granted}
use Rattle.securing.proofs.securing.hand_out.Goals as goal

pub returns : goal.returns
returns c = let told = c.carried_out.ensures in
    record {
      answer_value = (told.0 ∙ ap (granted c.args.grant.size) c.requires.made_value, told.1);
      output_after = c.write_secured.ensures;
    }
