-- Runs release what the other end sent. By computing.
-- Assumes nothing.
use Prim.Native.Nat.{ℕ}
use mathlib.Core.Path.{◌≡◌, refl}
use mathlib.Core.List.{List, [], ◌∷◌}
use Rattle.judging.specs.Said.{Said}
use Rattle.promises.specs.Cases.{frame_c, room, bare, fielded}
use Rattle.promises.specs.Runs.{Shown, check, after, trace, shows, restart, released, shown_of}
use Rattle.promises.proofs.Computing.{everything}
use Rattle.witness_frames.proofs.Frames.{aos_frame, fielded_frame, stamped_ocf_frame, fielded_short, other_frame}
use Rattle.witness_frames.proofs.Ends.{there, out, released-there}

-- the frame of the first sending, released at the other end
abbrev releases : ℕ → Said → List ℕ → List Shown
releases service said frame =
    shown_of 0 (there 1 5 1 5 service said frame) [] (check said (out 1 5 1 5 service said frame) room ∷ [])

-- and a frame of channel 1, under the set of channels 1 and 5
abbrev releases_by_sets : ℕ → List Shown
releases_by_sets service =
    shown_of 0 (there 2 0x22 2 0x22 service (bare 3) other_frame) []
    (check (bare 3) (out 2 0x22 2 0x22 service (bare 3) other_frame) room ∷ [])

pub run_releases_by-sets : releases_by_sets 1 ≡ restart ∷ released 64 ∷ []
unfolding everything trace shows after
run_releases_by-sets = rw (released-there 2 0x22 2 0x22 1 (bare 3) other_frame refl).answer

pub run_releases :
    (releases 1 (bare 1) frame_c ≡ restart ∷ released 64 ∷ [])
    × (releases 1 (bare 4) aos_frame ≡ restart ∷ released 64 ∷ [])
    × (releases 2 (bare 4) aos_frame ≡ restart ∷ released 64 ∷ [])
    × (releases 1 (fielded 1) fielded_frame ≡ restart ∷ released 64 ∷ [])
    × (releases 1 (fielded 3) fielded_short ≡ restart ∷ released 64 ∷ [])
    × (releases 2 (bare 3) (stamped_ocf_frame 64 []) ≡ restart ∷ released 64 ∷ [])
unfolding everything trace shows after
run_releases = (
  rw (released-there 1 5 1 5 1 (bare 1) frame_c refl).answer,
  rw (released-there 1 5 1 5 1 (bare 4) aos_frame refl).answer,
  rw (released-there 1 5 1 5 2 (bare 4) aos_frame refl).answer,
  rw (released-there 1 5 1 5 1 (fielded 1) fielded_frame refl).answer,
  rw (released-there 1 5 1 5 1 (fielded 3) fielded_short refl).answer,
  rw (released-there 1 5 1 5 2 (bare 3) (stamped_ocf_frame 64 []) refl).answer,
)
