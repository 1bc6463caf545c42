-- Document 01, 'Frames', and document 02, requests 1 and 6: the fields of the headers of CCSDS 232.0 (TC), CCSDS 132.0 (TM) and CCSDS 732.0
-- (AOS), each under its name, from the frame's octets.
-- The first bit of an octet is its most significant, and an octet past the frame's end reads as 0.
-- Assumes nothing.
use Rattle.std.specs.Prelude.{ℕ, ◌+◌, ◌*◌, ◌/◌, ◌%◌, List}
use Rattle.octets.specs.Lists.{octet}

-- ---- TC, octets 0 and 1: version 2 bits, bypass 1, control 1, spare 2, spacecraft 10

abbrev pub tc_version : List ℕ → ℕ
tc_version frame = octet frame 0 / 64

abbrev pub tc_bypass : List ℕ → ℕ
tc_bypass frame = octet frame 0 / 32 % 2

abbrev pub tc_control : List ℕ → ℕ
tc_control frame = octet frame 0 / 16 % 2

abbrev pub tc_spare : List ℕ → ℕ
tc_spare frame = octet frame 0 / 4 % 4

abbrev pub tc_spacecraft : List ℕ → ℕ
tc_spacecraft frame = octet frame 0 % 4 * 256 + octet frame 1

-- ---- TC, octets 2 to 4: virtual channel 6 bits, length 10, frame sequence 8

abbrev pub tc_channel : List ℕ → ℕ
tc_channel frame = octet frame 2 / 4

abbrev pub tc_length : List ℕ → ℕ
tc_length frame = octet frame 2 % 4 * 256 + octet frame 3

abbrev pub tc_sequence : List ℕ → ℕ
tc_sequence frame = octet frame 4

-- ---- the segment header, octet 5: flags 2 bits, MAP 6

abbrev pub segment_flags : List ℕ → ℕ
segment_flags frame = octet frame 5 / 64

abbrev pub segment_map : List ℕ → ℕ
segment_map frame = octet frame 5 % 64

-- ---- TM, octets 0 and 1: version 2 bits, spacecraft 10, virtual channel 3, OCF flag 1

abbrev pub tm_version : List ℕ → ℕ
tm_version frame = octet frame 0 / 64

abbrev pub tm_spacecraft : List ℕ → ℕ
tm_spacecraft frame = octet frame 0 % 64 * 16 + octet frame 1 / 16

abbrev pub tm_channel : List ℕ → ℕ
tm_channel frame = octet frame 1 / 2 % 8

abbrev pub tm_ocf_flag : List ℕ → ℕ
tm_ocf_flag frame = octet frame 1 % 2

-- ---- TM, octets 2 to 5: the count of the master channel 8 bits, that of the virtual channel 8, data field status 16

abbrev pub tm_master_count : List ℕ → ℕ
tm_master_count frame = octet frame 2

abbrev pub tm_channel_count : List ℕ → ℕ
tm_channel_count frame = octet frame 3

abbrev pub tm_status : List ℕ → ℕ
tm_status frame = octet frame 4 * 256 + octet frame 5

-- the first bit of the data field status
abbrev pub tm_secondary : List ℕ → ℕ
tm_secondary frame = octet frame 4 / 128

-- ---- the secondary header of TM, octet 6: version 2 bits, length 6

abbrev pub secondary_version : List ℕ → ℕ
secondary_version frame = octet frame 6 / 64

abbrev pub secondary_length : List ℕ → ℕ
secondary_length frame = octet frame 6 % 64

-- ---- AOS, octets 0 and 1: version 2 bits, spacecraft 8, virtual channel 6

abbrev pub aos_version : List ℕ → ℕ
aos_version frame = octet frame 0 / 64

abbrev pub aos_spacecraft : List ℕ → ℕ
aos_spacecraft frame = octet frame 0 % 64 * 4 + octet frame 1 / 64

abbrev pub aos_channel : List ℕ → ℕ
aos_channel frame = octet frame 1 % 64

-- ---- AOS, octets 2 to 5: frame count 24 bits, signalling 8

abbrev pub aos_count : List ℕ → ℕ
aos_count frame = octet frame 2 * 65536 + octet frame 3 * 256 + octet frame 4

abbrev pub aos_signalling : List ℕ → ℕ
aos_signalling frame = octet frame 5
