-- The fields are the header: each within its width, and all of them one behind the other, in the paper's order and widths, make the number
-- that the header's octets make. So no bit is left out and none is read twice.
-- Assumes nothing.
use mathlib.Core.Path.{◌≡◌}
use mathlib.Core.List.{List}
use Prim.Native.Nat.{ℕ, ◌+◌, ◌*◌, ◌/◌, ◌%◌, ◌<◌}
use native.Mathlib.Omega.{arith}
use Rattle.octets.specs.Lists.{octet, Octets}
use Rattle.octets.specs.Numbers.{number}
use Rattle.headers.specs.Fields.{tc_version, tc_bypass, tc_control, tc_spare, tc_spacecraft, tc_channel, tc_length, tc_sequence}
use Rattle.headers.specs.Fields.{segment_flags, segment_map}
use Rattle.headers.specs.Fields.{tm_version, tm_spacecraft, tm_channel, tm_ocf_flag, tm_master_count, tm_channel_count, tm_status, tm_secondary}
use Rattle.headers.specs.Fields.{secondary_version, secondary_length}
use Rattle.headers.specs.Fields.{aos_version, aos_spacecraft, aos_channel, aos_count, aos_signalling}

-- a field of a width behind a number
abbrev then : ℕ → ℕ → ℕ → ℕ
then before width field = before * width + field

module _ (frame : List ℕ) (o : Octets frame) where
  -- widths 2, 1, 1, 2, 10; 6, 10; 8
  pub tc_order : number 5 frame
      ≡ then (then (then (then (then (then (then (tc_version frame) 2 (tc_bypass frame)) 2 (tc_control frame)) 4 (tc_spare frame))
      1024 (tc_spacecraft frame)) 64 (tc_channel frame)) 1024 (tc_length frame)) 256 (tc_sequence frame)
  unfolding number
  tc_order =
      let x = octet frame 0 in
      let version : x / 32 ≡ then (tc_version frame) 2 (tc_bypass frame) = omega arith in
      let control : x / 16 ≡ then (x / 32) 2 (tc_control frame) = omega arith in
      let spare : x / 4 ≡ then (x / 16) 4 (tc_spare frame) = omega arith in
      let third : octet frame 2 ≡ then (tc_channel frame) 4 (octet frame 2 % 4) = omega arith in
      omega (arith, version, control, spare, third)

  pub tc_widths : (tc_version frame < 4) × (tc_bypass frame < 2) × (tc_control frame < 2) × (tc_spare frame < 4) × (tc_spacecraft frame < 1024)
      × (tc_channel frame < 64) × (tc_length frame < 1024) × (tc_sequence frame < 256)
  tc_widths =
      (omega (arith, o 0), omega arith, omega arith, omega arith, omega (arith, o 1), omega (arith, o 2), omega (arith, o 3), o 4)

  -- widths 2, 6
  pub segment_order : octet frame 5 ≡ then (segment_flags frame) 64 (segment_map frame)
  segment_order = omega arith

  pub segment_widths : (segment_flags frame < 4) × (segment_map frame < 64)
  segment_widths = (omega (arith, o 5), omega arith)

  -- widths 2, 10, 3, 1; 8, 8; 16
  pub tm_order : number 6 frame
      ≡ then (then (then (then (then (then (tm_version frame) 1024 (tm_spacecraft frame)) 8 (tm_channel frame)) 2 (tm_ocf_flag frame))
      256 (tm_master_count frame)) 256 (tm_channel_count frame)) 65536 (tm_status frame)
  unfolding number
  tm_order = omega (arith, o 0, o 1, o 2, o 3, o 4, o 5)

  pub tm_widths : (tm_version frame < 4) × (tm_spacecraft frame < 1024) × (tm_channel frame < 8) × (tm_ocf_flag frame < 2)
      × (tm_master_count frame < 256) × (tm_channel_count frame < 256) × (tm_status frame < 65536)
  tm_widths = (omega (arith, o 0), omega (arith, o 1), omega arith, omega arith, o 2, o 3, omega (arith, o 4, o 5))

  -- the secondary header flag is the first bit of the data field status
  pub secondary-first : tm_secondary frame ≡ tm_status frame / 32768
  secondary-first = omega (arith, o 5)

  -- widths 2, 6
  pub secondary_order : octet frame 6 ≡ then (secondary_version frame) 64 (secondary_length frame)
  secondary_order = omega arith

  pub secondary_widths : (secondary_version frame < 4) × (secondary_length frame < 64)
  secondary_widths = (omega (arith, o 6), omega arith)

  -- widths 2, 8, 6; 24, 8
  pub aos_order : number 6 frame
      ≡ then (then (then (then (aos_version frame) 256 (aos_spacecraft frame)) 64 (aos_channel frame)) 16777216 (aos_count frame))
      256 (aos_signalling frame)
  unfolding number
  aos_order = omega (arith, o 0, o 1, o 2, o 3, o 4, o 5)

  pub aos_widths : (aos_version frame < 4) × (aos_spacecraft frame < 256) × (aos_channel frame < 64) × (aos_count frame < 16777216)
      × (aos_signalling frame < 256)
  aos_widths = (omega (arith, o 0), omega (arith, o 1), omega arith, omega (arith, o 2, o 3, o 4), o 5)
