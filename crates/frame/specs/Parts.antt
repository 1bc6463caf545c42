-- Document 01, 'Frames' and 'What comes back', answers 5 and 11: where the parts of a clear and of a secured frame lie. A clear frame is
-- header, data and trailer; a secured one is header, security header of s octets, data, MAC of 16 and trailer. The header is the primary
-- one with the secondary header, if any; the trailer is the operational control field and the check field, if any. Header and control field
-- are as long as the frame itself says, and a secured frame has the header of the clear one, in which no octet differs that says so. Of a
-- frame too short for its parts the places are only numbers, cut at 0.
-- Assumes nothing.
use Rattle.std.specs.Prelude.{ℕ, ◌+◌, ◌-◌, Bool, List, ltb, length, take, drop}
use Rattle.std.proofs.Math.Seq.{slice}
use Rattle.kinds.specs.Kinds.{Kind, check_field_length}
use Rattle.frame.specs.declared.parts.ClearParts.{ClearParts}
use Rattle.frame.specs.declared.parts.SecuredParts.{SecuredParts}

-- the octets of a MAC, which is never shortened
abbrev pub mac_length : ℕ
mac_length = 16

-- ---- where each part ends, and the next begins

abbrev pub header_end : Kind → List ℕ → ℕ
header_end k frame = k.header frame

abbrev pub security_end : Kind → ℕ → List ℕ → ℕ
security_end k s frame = header_end k frame + s

abbrev pub trailer_start : Kind → List ℕ → ℕ
trailer_start k frame = length frame - k.trailer frame

-- the operational control field ends where the check field begins
abbrev pub control_end : Kind → List ℕ → ℕ
control_end k frame = length frame - check_field_length k.ends_in_field

abbrev pub mac_start : Kind → List ℕ → ℕ
mac_start k frame = trailer_start k frame - mac_length

abbrev pub clear_parts : Kind → List ℕ → ClearParts
clear_parts k frame = record { header = header_end k frame; content = trailer_start k frame; control = control_end k frame }

abbrev pub secured_parts : Kind → ℕ → List ℕ → SecuredParts
secured_parts k s frame =
    record { header = header_end k frame; security = security_end k s frame; content = mac_start k frame; mac = trailer_start k frame }

-- ---- the parts of either frame

unfoldable pub header_of : Kind → List ℕ → List ℕ
header_of k frame = take (header_end k frame) frame

unfoldable pub trailer_of : Kind → List ℕ → List ℕ
trailer_of k frame = drop (trailer_start k frame) frame

-- ---- those of a clear frame

unfoldable pub clear_content : Kind → List ℕ → List ℕ
clear_content k frame = slice (header_end k frame) (trailer_start k frame) frame

-- ---- those of a secured frame

unfoldable pub security_of : Kind → ℕ → List ℕ → List ℕ
security_of k s frame = slice (header_end k frame) (security_end k s frame) frame

unfoldable pub secured_content : Kind → ℕ → List ℕ → List ℕ
secured_content k s frame = slice (security_end k s frame) (mac_start k frame) frame

unfoldable pub mac_of : Kind → List ℕ → List ℕ
mac_of k frame = slice (mac_start k frame) (trailer_start k frame) frame

-- ---- lengths

-- the octets of a clear frame once it is secured
abbrev pub secured_length : ℕ → List ℕ → ℕ
secured_length s clear = length clear + s + mac_length

-- answer 11: the secured frame would exceed the largest
abbrev pub exceeds : Kind → ℕ → List ℕ → Bool
exceeds k s clear = ltb k.largest (secured_length s clear)

-- answer 5: a secured frame below h + security header + 1 + 16 + f
abbrev pub too_short : Kind → ℕ → List ℕ → Bool
too_short k s frame = ltb (length frame) (k.header frame + s + 1 + mac_length + k.trailer frame)
