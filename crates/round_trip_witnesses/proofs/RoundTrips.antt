-- The round trip is not empty: under both services and every kind, behind the shortest and the longest secondary header, in version 2 with TM
-- associations of two channels, and in version 3 with keys in their own part, there are two ends that meet its conditions. By computing.
-- Assumes nothing.
use Prim.Native.Nat.{ℕ}
use mathlib.Core.Path.{◌≡◌, refl}
use mathlib.Core.Bool.{Bool, true, false, ◌&&◌}
use mathlib.Core.List.{List, [], ◌∷◌, ◌++◌}
use Rattle.octets.specs.Same.{same}
use Rattle.judging.specs.Said.{Said}
use Rattle.promises.specs.Cases.{all_true, image_of, frame_c, bare, fielded}
use Rattle.promises.specs.KeyedCases.{keyed_body, key_of, keyed_image}
use Rattle.promises.specs.Frames.{data_in_clear}
use Rattle.promises.proofs.Computing.{everything}
use Rattle.witness_frames.proofs.Frames.{segmented_frame, tm_frame, ocf_frame, aos_frame, fielded_frame, fielded_segment, fielded_tm, fielded_ocf, stamped_frame, stamped_ocf_frame, fielded_short, fielded_long, fielded_short_ocf, fielded_long_ocf, other_frame, second_frame}
use Rattle.witness_frames.proofs.Ends.{meets_between, meets}

-- two ends of version 1, whose channel is 5
abbrev meets_one : ℕ → Said → List ℕ → Bool
meets_one service said frame = meets 1 5 1 5 service said frame

pub conditions_met :
    all_true
    (meets_one 1 (bare 1) frame_c
    ∷ meets_one 2 (bare 1) frame_c
    ∷ meets_one 1 (bare 2) segmented_frame
    ∷ meets_one 2 (bare 2) segmented_frame
    ∷ meets_one 1 (bare 3) tm_frame
    ∷ meets_one 2 (bare 3) tm_frame
    ∷ meets_one 1 (bare 3) ocf_frame
    ∷ meets_one 2 (bare 3) ocf_frame
    ∷ meets_one 1 (bare 4) aos_frame
    ∷ meets_one 2 (bare 4) aos_frame
    ∷ [])
    ≡ true
unfolding everything
conditions_met = refl

pub conditions_met_with_field :
    all_true
    (meets_one 1 (fielded 1) fielded_frame
    ∷ meets_one 2 (fielded 1) fielded_frame
    ∷ meets_one 1 (fielded 2) fielded_segment
    ∷ meets_one 2 (fielded 2) fielded_segment
    ∷ meets_one 1 (fielded 3) fielded_tm
    ∷ meets_one 2 (fielded 3) fielded_tm
    ∷ meets_one 1 (fielded 3) fielded_ocf
    ∷ meets_one 2 (fielded 3) fielded_ocf
    ∷ [])
    ≡ true
unfolding everything
conditions_met_with_field = refl

-- behind the shortest and the longest secondary header, with a check field and without, the data alone is in clear
abbrev meets_stamped : Said → List ℕ → Bool
meets_stamped said frame = meets_one 1 said frame && meets_one 2 said frame && same (data_in_clear said frame) (0xAA ∷ [])

pub conditions_met_behind-secondary_headers :
    all_true
    (meets_stamped (bare 3) (stamped_frame 2 [])
    ∷ meets_stamped (bare 3) (stamped_ocf_frame 2 [])
    ∷ meets_stamped (bare 3) (stamped_frame 64 [])
    ∷ meets_stamped (bare 3) (stamped_ocf_frame 64 [])
    ∷ meets_stamped (fielded 3) fielded_short
    ∷ meets_stamped (fielded 3) fielded_short_ocf
    ∷ meets_stamped (fielded 3) fielded_long
    ∷ meets_stamped (fielded 3) fielded_long_ocf
    ∷ [])
    ≡ true
unfolding everything
conditions_met_behind-secondary_headers = refl

-- in version 2 an octet 0x22 of TM is the set of channels 1 and 5; of TC and AOS the octet is a channel. The other end may have the same set,
-- another one that has the frame's channel, or version 1 and that channel
pub conditions_met_by-sets :
    all_true
    (meets 2 0x22 2 0x22 1 (bare 3) tm_frame
    ∷ meets 2 0x22 2 0x22 2 (bare 3) tm_frame
    ∷ meets 2 0x22 2 0x22 1 (bare 3) other_frame
    ∷ meets 2 0x22 2 0x22 2 (bare 3) other_frame
    ∷ meets 2 0x22 2 0x82 1 (bare 3) other_frame
    ∷ meets 2 0x22 1 5 1 (bare 3) tm_frame
    ∷ meets 1 5 2 0x22 2 (bare 3) ocf_frame
    ∷ meets 2 5 2 5 1 (bare 1) frame_c
    ∷ meets 2 5 1 5 1 (bare 2) segmented_frame
    ∷ meets 2 5 2 5 2 (bare 4) aos_frame
    ∷ [])
    ≡ true
unfolding everything
conditions_met_by-sets = refl

-- in version 3: under service 2 the other end has the key under another ID; a TM body's octet 0x05 is the set of channels 0 and 2; and under
-- service 1 one end may be of version 1, and have the key in its body
abbrev keyed_there : ℕ → ℕ → List ℕ
keyed_there service kind = keyed_image (keyed_body service kind 2 2 0x0030 0) 1 (key_of 0x0030 1 0x07)

abbrev keyed_here : ℕ → ℕ → List ℕ
keyed_here service kind = keyed_image (keyed_body service kind 1 2 0x0005 0) 2 (key_of 0x0005 1 0x07 ++ key_of 0x0030 1 0x08)

pub conditions_met_by-keys :
    all_true
    (meets_between (keyed_here 2 1) (keyed_there 2 1) (bare 1) frame_c
    ∷ meets_between (keyed_here 1 1) (keyed_there 1 1) (bare 1) frame_c
    ∷ meets_between (keyed_here 2 2) (keyed_there 2 2) (bare 2) segmented_frame
    ∷ meets_between (keyed_here 2 3) (keyed_there 2 3) (bare 3) second_frame
    ∷ meets_between (keyed_here 2 4) (keyed_there 2 4) (bare 4) aos_frame
    ∷ meets_between (keyed_here 1 1) (image_of 1 1 2 100 0) (bare 1) frame_c
    ∷ meets_between (image_of 1 1 1 100 0) (keyed_there 1 1) (bare 1) frame_c
    ∷ [])
    ≡ true
unfolding everything
conditions_met_by-keys = refl

-- where one end is of version 3 and the other is not, they do not make the IV alike
pub conditions_not_met : (meets_between (keyed_here 2 1) (image_of 2 1 2 100 0) (bare 1) frame_c ≡ false)
    × (meets_between (image_of 2 1 1 100 0) (keyed_there 2 1) (bare 1) frame_c ≡ false)
unfolding everything
conditions_not_met = (refl, refl)
