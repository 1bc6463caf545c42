-- Document 01, 'Frames': the rules on the header of a TC frame, and its length field.
-- Assumes nothing.
use Rattle.std.specs.Prelude.{ℕ, ◌+◌, ◌-◌, ◌*◌, ◌/◌, ◌%◌, Bool, ◌&&◌, cond, List, eqb, ltb, length, set}
use Rattle.headers.specs.Fields.{tc_version, tc_control, tc_spare, tc_channel, tc_length}

-- version, control and spare are 0; bypass, frame sequence and flags may hold anything
abbrev pub tc_rules : List ℕ → Bool
tc_rules frame = eqb (tc_version frame) 0 && eqb (tc_control frame) 0 && eqb (tc_spare frame) 0

-- the length field counts all octets of the frame less one
abbrev pub tc_length_ok : List ℕ → Bool
tc_length_ok frame = eqb (tc_length frame + 1) (length frame)

-- whether the octets reach over the length field
abbrev pub tc_holds_length : List ℕ → Bool
tc_holds_length s = ltb 3 (length s)

-- n less one in the ten bits of the length field, the six bits before them kept; octets that end before the field stay as they are
unfoldable pub tc_with_length : ℕ → List ℕ → List ℕ
tc_with_length n s =
    cond (tc_holds_length s) (set (set s 2 (tc_channel s * 4 + (n - 1) / 256 % 4)) 3 ((n - 1) % 256)) s
