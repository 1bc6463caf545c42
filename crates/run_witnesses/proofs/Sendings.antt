-- Runs send, with loads and a cut between, also over two channels of one set, and some meet the bound on stores. By computing.
-- Assumes nothing.
use Prim.Native.Nat.{ℕ, ◌+◌}
use mathlib.Core.Path.{◌≡◌, refl}
use mathlib.Core.List.{List, [], ◌∷◌}
use lib.ListN.{length, replicate}
use Rattle.judging.specs.Said.{Said}
use Rattle.promises.specs.Cases.{image_with, image_of, frame_c, room, image_b, bare, fielded}
use Rattle.promises.specs.Runs.{Shown, load, send, send_cut, after, ran, trace, shows, restart, sent, sent_in, begun, shown_of}
use Rattle.promises.specs.Wear.{makes, makes_under, loads_by, stores_during, loads_during, stores_over, frames_over, loads_over}
use Rattle.promises.proofs.Computing.{everything}
use Rattle.witness_frames.proofs.Frames.{tm_frame, aos_frame, fielded_frame, stamped_ocf_frame, fielded_short, other_frame}

-- a run of sendings, of which the fourth is cut after its one store
abbrev sendings : ℕ → Said → List ℕ → List Shown
sendings service said frame =
    shown_of 0 (image_of service said.kind 1 100 0) []
    (send said 9 frame room
    ∷ send said 9 frame room
    ∷ load []
    ∷ send said 9 frame room
    ∷ load []
    ∷ send_cut said 9 frame room 1 []
    ∷ send said 9 frame room
    ∷ [])

-- what it shows: sent 64 and 65; a load; sent 128; a load; the cut, and a load; then 256
abbrev sendings_shown : List Shown
sendings_shown = restart ∷ sent 64 ∷ sent 65 ∷ restart ∷ sent 128 ∷ restart ∷ restart ∷ sent 256 ∷ []

pub run_sends :
    (sendings 1 (bare 1) frame_c ≡ sendings_shown)
    × (sendings 1 (bare 4) aos_frame ≡ sendings_shown)
    × (sendings 2 (bare 4) aos_frame ≡ sendings_shown)
    × (sendings 1 (fielded 1) fielded_frame ≡ sendings_shown)
    × (sendings 1 (fielded 3) fielded_short ≡ sendings_shown)
    × (sendings 2 (bare 3) (stamped_ocf_frame 64 []) ≡ sendings_shown)
unfolding everything trace shows after
run_sends = (refl, refl, refl, refl, refl, refl)

-- a run over two channels of one set, interleaved, with a load and a cut between: one number for both
abbrev sendings_of_set : ℕ → List Shown
sendings_of_set service =
    shown_of 0 (image_with 2 0x22 service 3 1 100 0) []
    (send (bare 3) 9 tm_frame room
    ∷ send (bare 3) 9 other_frame room
    ∷ load []
    ∷ send (bare 3) 9 other_frame room
    ∷ load []
    ∷ send_cut (bare 3) 9 tm_frame room 1 []
    ∷ send (bare 3) 9 tm_frame room
    ∷ [])

pub run_sends-by-sets : (sendings_of_set 1 ≡ sendings_shown) × (sendings_of_set 2 ≡ sendings_shown)
unfolding everything trace shows after
run_sends-by-sets = (refl, refl)

-- the bound on stores is met: by a run of two frames, three loads and a cut, which makes a store at each
pub run_wears : let steps = send (bare 1) 9 frame_c room ∷ load [] ∷ send_cut (bare 1) 9 frame_c room 1 [] ∷ send (bare 1) 9 frame_c room ∷ [] in
    (stores_over 0 image_b [] steps ≡ 3) × (frames_over 0 image_b [] steps ≡ 2) × (loads_over image_b [] steps ≡ 3)
unfolding everything trace shows after makes makes_under loads_by stores_during loads_during sent_in
run_wears = (refl, refl, refl)

-- and by 64 frames after one load, and one more sending that is cut after its store
pub run_wears_on : let steps = replicate 64 (send (bare 1) 9 frame_c room) in
    let next = makes_under 0 (ran (begun image_b) (load [] ∷ steps)) (send_cut (bare 1) 9 frame_c room 1 []) in
    (stores_over 0 image_b [] steps + length next ≡ 2) × (frames_over 0 image_b [] steps ≡ 64) × (loads_over image_b [] steps ≡ 1)
unfolding everything trace shows after makes makes_under loads_by stores_during loads_during sent_in ran
run_wears_on = (refl, refl, refl)
