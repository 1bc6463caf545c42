-- A run with commands sends on through stop, expire, rekey, start and changes of window and number, whole and cut. By computing.
-- Assumes nothing.
use mathlib.Core.Path.{◌≡◌, refl}
use mathlib.Core.List.{[], ◌∷◌}
use Rattle.association.specs.Search.{with_spi}
use Rattle.command_form.specs.Channels.{channels_right}
use Rattle.procedures.specs.Procedures.{with_tag, called}
use Rattle.addressing.specs.Addressing.{entry_named}
use Rattle.commands.specs.Commanding.{command_reply, commanded, commanded_cut}
use Rattle.promises.specs.Cases.{frame_c, room, image_b, bare}
use Rattle.promises.specs.Runs as frames
use Rattle.promises.specs.Runs.{send, restart, sent}
use Rattle.promises.proofs.Computing.{everything}
use Rattle.command_promises.specs.Cases.{start, stop, rekey, expire, set_number, set_window, space}
use Rattle.command_promises.specs.Runs.{Step, call, command, command_cut, saw, numbered, told, after, shows, trace, shown_of}

abbrev sending : Step
sending = call (send (bare 1) 9 frame_c room)

-- While the association is stopped a sending shows nothing. A window that is cut between its octets shows a load; 128 follows it. A number
-- is set to 400; one that is cut after three of its stores leaves the mark 9, and 640 follows the load.
pub run_manages :
    shown_of 0 image_b []
    (sending
    ∷ command 1 stop space
    ∷ sending
    ∷ command 1 expire space
    ∷ command 1 rekey space
    ∷ command_cut 1 (set_window 1024) space 1 []
    ∷ command 1 (set_window 1024) space
    ∷ command 1 start space
    ∷ sending
    ∷ command 1 (set_number 400) space
    ∷ sending
    ∷ command_cut 1 (set_number 1000) space 3 []
    ∷ sending
    ∷ [])
    ≡ saw restart
    ∷ saw (sent 64)
    ∷ saw restart
    ∷ saw (sent 128)
    ∷ numbered
    ∷ saw (sent 401)
    ∷ numbered
    ∷ saw restart
    ∷ saw (sent 640)
    ∷ []
unfolding everything with_spi channels_right with_tag called entry_named command_reply commanded commanded_cut frames.after frames.shows after shows told trace
run_manages = refl
