-- The frames that the witnesses speak of, for spacecraft 27.
-- Assumes nothing.
use Prim.Native.Nat.{ℕ, ◌-◌}
use mathlib.Core.List.{List, [], ◌∷◌, ◌++◌}
use lib.ListN.{replicate}

-- clear frames of spacecraft 27 and channel 5: TC with a segment header, TM, TM with an operational control field, and AOS
abbrev pub segmented_frame : List ℕ
segmented_frame = 0x00 ∷ 0x1B ∷ 0x14 ∷ 0x06 ∷ 0x00 ∷ 0xC0 ∷ 0xAA ∷ []

abbrev pub tm_frame : List ℕ
tm_frame = 0x01 ∷ 0xBA ∷ 0x00 ∷ 0x00 ∷ 0x00 ∷ 0x00 ∷ 0xAA ∷ []

abbrev pub ocf_frame : List ℕ
ocf_frame = 0x01 ∷ 0xBB ∷ 0x00 ∷ 0x00 ∷ 0x00 ∷ 0x00 ∷ 0xAA ∷ 0x01 ∷ 0x02 ∷ 0x03 ∷ 0x04 ∷ []

abbrev pub aos_frame : List ℕ
aos_frame = 0x46 ∷ 0xC5 ∷ 0x00 ∷ 0x00 ∷ 0x00 ∷ 0x00 ∷ 0xAA ∷ []

-- the same with a check field, but for AOS, which has none
abbrev pub fielded_frame : List ℕ
fielded_frame = 0x00 ∷ 0x1B ∷ 0x14 ∷ 0x07 ∷ 0x00 ∷ 0xAA ∷ 0xA6 ∷ 0xD3 ∷ []

abbrev pub fielded_segment : List ℕ
fielded_segment = 0x00 ∷ 0x1B ∷ 0x14 ∷ 0x08 ∷ 0x00 ∷ 0xC0 ∷ 0xAA ∷ 0x22 ∷ 0x83 ∷ []

abbrev pub fielded_tm : List ℕ
fielded_tm = 0x01 ∷ 0xBA ∷ 0x00 ∷ 0x00 ∷ 0x00 ∷ 0x00 ∷ 0xAA ∷ 0x20 ∷ 0xA1 ∷ []

abbrev pub fielded_ocf : List ℕ
fielded_ocf = 0x01 ∷ 0xBB ∷ 0x00 ∷ 0x00 ∷ 0x00 ∷ 0x00 ∷ 0xAA ∷ 0x01 ∷ 0x02 ∷ 0x03 ∷ 0x04 ∷ 0xDF ∷ 0xA4 ∷ []

-- a secured frame with a right field, and with the MAC of nobody
abbrev pub fielded_secured : List ℕ
fielded_secured =
    0x00 ∷ 0x1B ∷ 0x14 ∷ 0x1D ∷ 0x00 ∷ 0x00 ∷ 0x09 ∷ 0x00 ∷ 0x00 ∷ 0x00 ∷ 0x40 ∷ 0xAA ∷ (replicate 16 0x00 ++ (0x7F ∷ 0x81 ∷ []))

-- TM with a secondary header of n octets, 2 to 64: with no operational control field, and with one; behind it a check field, or nothing
abbrev pub stamped_from : ℕ → ℕ → List ℕ → List ℕ
stamped_from second n behind = 0x01 ∷ second ∷ 0x00 ∷ 0x00 ∷ 0x80 ∷ 0x00 ∷ (n - 1) ∷ (replicate (n - 1) 0xC7 ++ behind)

abbrev pub stamped_frame : ℕ → List ℕ → List ℕ
stamped_frame n field = stamped_from 0xBA n (0xAA ∷ field)

abbrev pub stamped_ocf_frame : ℕ → List ℕ → List ℕ
stamped_ocf_frame n field = stamped_from 0xBB n (0xAA ∷ 0x01 ∷ 0x02 ∷ 0x03 ∷ 0x04 ∷ field)

-- the shortest and the longest with a check field
abbrev pub fielded_short : List ℕ
fielded_short = stamped_frame 2 (0x57 ∷ 0xF3 ∷ [])

abbrev pub fielded_long : List ℕ
fielded_long = stamped_frame 64 (0xBE ∷ 0x2B ∷ [])

abbrev pub fielded_short_ocf : List ℕ
fielded_short_ocf = stamped_ocf_frame 2 (0x90 ∷ 0x62 ∷ [])

abbrev pub fielded_long_ocf : List ℕ
fielded_long_ocf = stamped_ocf_frame 64 (0xD9 ∷ 0xB3 ∷ [])

-- and the longest secured, with a right field, and with the MAC of nobody
abbrev pub fielded_long_secured : List ℕ
fielded_long_secured =
    stamped_from 0xBA 64 (0x00 ∷ 0x09 ∷ 0x00 ∷ 0x00 ∷ 0x00 ∷ 0x40 ∷ 0xAA ∷ (replicate 16 0x00 ++ (0x60 ∷ 0xB0 ∷ [])))

-- TM of channel 1
abbrev pub other_frame : List ℕ
other_frame = 0x01 ∷ 0xB2 ∷ 0x00 ∷ 0x00 ∷ 0x00 ∷ 0x00 ∷ 0xBB ∷ []

-- and of channel 2
abbrev pub second_frame : List ℕ
second_frame = 0x01 ∷ 0xB4 ∷ 0x00 ∷ 0x00 ∷ 0x00 ∷ 0x00 ∷ 0xBB ∷ []
