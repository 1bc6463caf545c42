-- Document 01, 'Frames', and document 02, request 6: the rules on the headers of a TM frame, their octets, and those behind the MAC.
-- Assumes nothing.
use Rattle.std.specs.Prelude.{ℕ, ◌+◌, ◌*◌, Bool, ◌&&◌, ◌||◌, cond, List, eqb, ltb}
use Rattle.headers.specs.Fields.{tm_version, tm_ocf_flag, tm_secondary, secondary_version, secondary_length}

-- the octets of the primary header, and the most of a secondary one, whose length field has six bits
abbrev pub tm_primary : ℕ
tm_primary = 6

abbrev pub most_secondary : ℕ
most_secondary = 64

-- version is 0 and the length field 1 to 63. Of a frame that ends with its primary header the field reads as 0, so there is no such
-- secondary header
abbrev pub secondary_rules : List ℕ → Bool
secondary_rules frame = eqb (secondary_version frame) 0 && ltb 0 (secondary_length frame)

-- version is 0; where the secondary header flag is 1, the secondary header keeps its rules
abbrev pub tm_rules : List ℕ → Bool
tm_rules frame = eqb (tm_version frame) 0 && (eqb (tm_secondary frame) 0 || secondary_rules frame)

-- the octets of the secondary header, of which its length field counts all less one: none where the flag is 0
abbrev pub secondary_octets : List ℕ → ℕ
secondary_octets frame = cond (eqb (tm_secondary frame) 0) 0 (secondary_length frame + 1)

-- both headers
abbrev pub tm_header : List ℕ → ℕ
tm_header frame = tm_primary + secondary_octets frame

-- the operational control field: 4 octets where the OCF flag is 1
abbrev pub tm_trailer : List ℕ → ℕ
tm_trailer frame = 4 * tm_ocf_flag frame
