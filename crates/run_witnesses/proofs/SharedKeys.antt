-- Two associations under one key send alternately, with the same numbers, and their IVs differ; a load and commands stand between. By computing.
-- Assumes nothing.
use Prim.Native.Nat.{ℕ}
use mathlib.Core.Path.{◌≡◌, refl}
use mathlib.Core.List.{List, [], ◌∷◌}
use lib.Dec.{lit<}
use lib.ListN.{replicate}
use Rattle.association.specs.Search.{with_spi}
use Rattle.named_keys.specs.NamedKeys.{unserved}
use Rattle.procedures.specs.Procedures.{with_tag, called}
use Rattle.addressing.specs.Addressing.{entry_named}
use Rattle.commands.specs.Commanding.{command_reply, commanded, commanded_cut}
use Rattle.promises.specs.Cases.{frame_c, room, bare}
use Rattle.promises.specs.KeyedCases.{keyed_body, key_of, shared_image, iv_of}
use Rattle.promises.specs.Runs as frames
use Rattle.promises.specs.Runs.{State, send, restart, sent, begun}
use Rattle.promises.proofs.Computing.{everything}
use Rattle.command_promises.specs.Cases.{space, for_key}
use Rattle.command_promises.specs.FreshIvs.{GoesOut}
use Rattle.command_promises.specs.Runs.{Step, call, command, saw, told, ran, after, shows, trace, shown_of}

-- SPIs 9 and 10, both of service 2, both name key 5
abbrev shared : List ℕ
shared = shared_image (keyed_body 2 1 1 2 0x0005 0) (keyed_body 2 1 1 2 0x0005 0) 1 (key_of 0x0005 1 0x07)

abbrev sending : ℕ → Step
sending spi = call (send (bare 1) spi frame_c room)

-- the key serves, so that its deactivation is refused, and both send on
abbrev steps : List Step
steps = sending 9 ∷ sending 10 ∷ command 0 (for_key 0x03 5) space ∷ sending 9 ∷ call (frames.load []) ∷ sending 10 ∷ sending 9 ∷ []

pub run_shares :
    (shown_of 0 shared [] steps ≡ saw restart ∷ saw (sent 64) ∷ saw (sent 65) ∷ saw restart ∷ saw (sent 128) ∷ [])
    × (shown_of 1 shared [] steps ≡ saw restart ∷ saw (sent 64) ∷ saw restart ∷ saw (sent 128) ∷ [])
unfolding everything with_spi unserved with_tag called entry_named command_reply commanded commanded_cut frames.after frames.shows after shows told trace
run_shares = (refl, refl)

-- the two frames with number 64 go out under the same key: the first with the IV of SPI 9, the second with that of SPI 10
abbrev begins : State
begins = ran (begun shared) (call (frames.load []) ∷ [])

abbrev second : State
second = ran (after begins (sending 9)) []

pub ivs_differ : GoesOut begins (sending 9) 0 (replicate 32 0x07) (iv_of 9 0 64) × GoesOut second (sending 10) 1 (replicate 32 0x07) (iv_of 10 0 64)
unfolding everything frames.after after ran
ivs_differ = (
  record {
    said = bare 1;
    spi = 9;
    frame = frame_c;
    output = room;
    sending = refl;
    done = refl;
    entry = lit< tt;
    spis = refl;
    service = refl;
    keys = refl;
    ivs = refl;
  },
  record {
    said = bare 1;
    spi = 10;
    frame = frame_c;
    output = room;
    sending = refl;
    done = refl;
    entry = lit< tt;
    spis = refl;
    service = refl;
    keys = refl;
    ivs = refl;
  },
)
