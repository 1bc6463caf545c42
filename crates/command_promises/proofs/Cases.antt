-- Every command and every answer of requests 5 and 9 is met, by computing.
-- Assumes nothing.
use mathlib.Core.Path.{refl}
use Rattle.association.specs.Search.{with_spi}
use Rattle.command_form.specs.Channels.{channels_right}
use Rattle.named_keys.specs.NamedKeys.{unserved}
use Rattle.inventory.specs.Inventory.{passing, inventory}
use Rattle.writing.specs.Text.{end_to_end}
use Rattle.procedures.specs.Procedures.{with_tag, called}
use Rattle.addressing.specs.Addressing.{entry_named}
use Rattle.commands.specs.Commanding.{command_reply, commanded, commanded_cut}
use Rattle.promises.proofs.Computing.{everything}
use Rattle.command_promises.specs.Cases.{command_cases, CommandCasesHold}

pub command-cases_hold : CommandCasesHold
unfolding everything with_spi channels_right unserved passing inventory end_to_end with_tag called entry_named command_reply commanded commanded_cut command_cases
command-cases_hold = refl
