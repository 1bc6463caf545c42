-- Every answer but 9 is given, with a check field and without, and at the limits behind a secondary header. By computing.
-- Assumes nothing.
use Prim.Native.Nat.{ℕ}
use mathlib.Core.Path.{◌≡◌, refl}
use mathlib.Core.Bool.{true, false}
use mathlib.Core.List.{List, [], ◌∷◌}
use lib.Dec.{eqb}
use lib.ListN.{take, replicate, set}
use Rattle.link.specs.Calls.{loaded, secured, checked_as}
use Rattle.promises.specs.Cases.{all_true, image_with, image_of, one_number, frame_c, frame_sent, secured_c, clear_tc, room, image_b, receiver, sender}
use Rattle.promises.specs.Cases.{bare, fielded}
use Rattle.promises.proofs.Computing.{everything}
use Rattle.witness_frames.proofs.Frames.{aos_frame, fielded_frame, fielded_secured, stamped_frame, fielded_short, fielded_long_secured, other_frame}

pub answers_given :
    all_true
    (eqb (loaded [] []).answer 1
    ∷ eqb (frame_sent [] 63).answer 1
    ∷ eqb (frame_sent image_b 64).answer 2
    ∷ eqb (secured image_b (one_number 63) (bare 5) 9 frame_c room).answer 3
    ∷ eqb (secured image_b (one_number 63) (bare 1) 8 frame_c room).answer 4
    ∷ eqb (loaded (image_with 2 0 1 3 1 100 0) []).answer 1
    ∷ eqb (loaded (image_with 3 5 1 3 1 100 0) []).answer 1
    ∷ eqb (secured (image_with 2 0x20 1 3 1 100 0) (one_number 63) (bare 3) 9 other_frame room).answer 4
    ∷ eqb (secured image_b (one_number 63) (bare 1) 9 (clear_tc 1003) room).answer 11
    ∷ eqb (secured image_b (one_number 63) (bare 1) 9 frame_c []).answer 6
    ∷ eqb (frame_sent (sender 100 0x02000000) 4294967295).answer 10
    ∷ eqb (checked_as true (receiver 100 0) (one_number 63) (bare 1) (0x00 ∷ 0x1B ∷ 0x14 ∷ 0x07 ∷ 0x00 ∷ 0x00 ∷ 0x09 ∷ 0xAA ∷ []) room).answer 5
    ∷ eqb (checked_as true (receiver 100 0) (one_number 63) (bare 1) (secured_c 64) []).answer 6
    ∷ eqb (checked_as false (receiver 100 0) (one_number 63) (bare 1) (secured_c 64) room).answer 7
    ∷ eqb (checked_as false (receiver 100 0) (one_number 63) (bare 1) (secured_c 164) room).answer 7
    ∷ eqb (checked_as true (receiver 100 0) (one_number 63) (bare 1) (secured_c 164) room).answer 8
    ∷ [])
    ≡ true
unfolding everything
answers_given = refl

-- with a check field: one that AOS may not have, a wrong one before SPI 8, which no entry has, and a right one; and what another word on it does
pub answers_given_with_field :
    all_true
    (eqb (secured (image_of 1 4 1 100 0) (one_number 63) (fielded 4) 9 aos_frame room).answer 3
    ∷ eqb (secured image_b (one_number 63) (fielded 1) 8 (set fielded_frame 7 0xD2) room).answer 12
    ∷ eqb (secured image_b (one_number 63) (fielded 1) 8 fielded_frame room).answer 4
    ∷ eqb (secured image_b (one_number 63) (fielded 1) 9 fielded_frame room).answer 0
    ∷ eqb (secured image_b (one_number 63) (bare 1) 9 fielded_frame room).answer 0
    ∷ eqb (secured image_b (one_number 63) (fielded 1) 9 frame_c room).answer 3
    ∷ eqb (checked_as true (receiver 100 0) (one_number 63) (fielded 1) fielded_secured room).answer 0
    ∷ eqb (checked_as false (receiver 100 0) (one_number 63) (fielded 1) (set fielded_secured 12 0x01) room).answer 12
    ∷ [])
    ≡ true
unfolding everything
answers_given_with_field = refl

-- a secondary header that is none or a bad one, or leaves no octet of data, or in a secured frame no SPI: 3. Where it leaves the one, the
-- other limits follow it: 5, 11 and 6
abbrev stamped_sent : List ℕ → List ℕ → ℕ
stamped_sent frame output = (secured (image_of 1 3 1 100 0) (one_number 63) (bare 3) 9 frame output).answer

abbrev stamped_checked : List ℕ → List ℕ → ℕ
stamped_checked frame output = (checked_as true (image_of 1 3 2 100 0) (one_number 63) (bare 3) frame output).answer

abbrev stamped : List ℕ → List ℕ
stamped behind = 0x01 ∷ 0xBA ∷ 0x00 ∷ 0x00 ∷ 0x80 ∷ 0x00 ∷ behind

pub answers_behind-secondary_headers :
    let least : List ℕ = 0x00 ∷ 0x09 ∷ 0x00 ∷ 0x00 ∷ 0x00 ∷ 0x40 ∷ replicate 17 0x00 in
    all_true
    (eqb (stamped_sent (stamped []) room) 3
    ∷ eqb (stamped_sent (stamped (0x00 ∷ replicate 70 0xAA)) room) 3
    ∷ eqb (stamped_sent (stamped (0x41 ∷ replicate 70 0xAA)) room) 3
    ∷ eqb (stamped_sent (stamped (0x81 ∷ replicate 70 0xAA)) room) 3
    ∷ eqb (stamped_sent (stamped (0x3F ∷ replicate 63 0xAA)) room) 3
    ∷ eqb (stamped_sent (stamped (0x3F ∷ replicate 64 0xAA)) room) 0
    ∷ eqb (stamped_checked (stamped (0x01 ∷ 0xC7 ∷ 0x00 ∷ [])) room) 3
    ∷ eqb (stamped_checked (stamped (0x01 ∷ 0xC7 ∷ 0x00 ∷ 0x09 ∷ [])) room) 5
    ∷ eqb (stamped_checked (stamped (0x01 ∷ 0xC7 ∷ take 22 least)) room) 5
    ∷ eqb (stamped_checked (stamped (0x01 ∷ 0xC7 ∷ least)) (0x00 ∷ [])) 0
    ∷ eqb (stamped_checked (stamped (0x01 ∷ 0xC7 ∷ least)) []) 6
    ∷ eqb (stamped_sent (stamped_frame 64 []) (replicate 92 0x00)) 6
    ∷ eqb (stamped_sent (stamped_frame 64 []) (replicate 93 0x00)) 0
    ∷ eqb (stamped_sent (stamped (0x3F ∷ replicate 2020 0xAA)) (replicate 2048 0x00)) 11
    ∷ eqb (stamped_sent (stamped (0x3F ∷ replicate 2019 0xAA)) (replicate 2048 0x00)) 0
    ∷ [])
    ≡ true
unfolding everything
answers_behind-secondary_headers = refl

-- with a check field the room follows both: a secondary header that leaves no octet of data before the field gives 3, and a right field is
-- asked for only then
pub answers_behind-secondary_headers_with_field :
    all_true
    (eqb (secured (image_of 1 3 1 100 0) (one_number 63) (fielded 3) 9 (stamped (0x01 ∷ 0xC7 ∷ 0xAA ∷ 0x00 ∷ [])) room).answer 3
    ∷ eqb (secured (image_of 1 3 1 100 0) (one_number 63) (fielded 3) 9 (stamped_frame 2 (0x57 ∷ 0xF2 ∷ [])) room).answer 12
    ∷ eqb (secured (image_of 1 3 1 100 0) (one_number 63) (fielded 3) 9 fielded_short room).answer 0
    ∷ eqb (checked_as true (image_of 1 3 2 100 0) (one_number 63) (fielded 3) fielded_long_secured room).answer 0
    ∷ eqb (checked_as true (image_of 1 3 2 100 0) (one_number 63) (fielded 3) fielded_long_secured []).answer 6
    ∷ [])
    ≡ true
unfolding everything
answers_behind-secondary_headers_with_field = refl
