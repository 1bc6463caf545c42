-- Document 01, 'Frames', and document 02, requests 4 and 6: what securing makes of a clear frame, and what checking reads from a secured one,
-- under what an association holds: service, mask and key. The MAC covers the header (each octet ANDed with the mask), the security header and
-- the data; not the OCF, and not the check field, which is made last.
-- Assumes nothing.
use Rattle.std.specs.Prelude.{ℕ, ◌+◌, Bool, List, ◌++◌, length, drop}
use Rattle.octets.specs.Numbers.{number_at, bytes}
use Rattle.octets.specs.Same.{same}
use Rattle.kinds.specs.Kinds.{Kind, most_header}
use Rattle.frame.specs.Closing.{control_of, closed}
use Rattle.masking.specs.Masked.{masked}
use Rattle.frame.specs.Parts as parts
use Rattle.frame.specs.Parts.{header_of, header_end, security_of, mac_of}
use Rattle.association.specs.declared.held.Held.{Held}
use Rattle.services.specs.SecurityHeader.{service_in, security_length, field_for, number_from}

-- ---- what the MAC covers before the data

-- the most octets that it may be: the longest header, and the longer security header
abbrev pub most_security : ℕ
most_security = 14

abbrev pub most_before : ℕ
most_before = most_header + most_security

unfoldable pub covered_before : Held → List ℕ → List ℕ → List ℕ
covered_before h header security = masked h.mask header ++ security

-- read from a frame that has both headers
abbrev pub covered_in : Held → Kind → List ℕ → List ℕ
covered_in h k frame = covered_before h (header_of k frame) (security_of k (security_length h) frame)

-- ---- securing

abbrev pub secured_length : Held → List ℕ → ℕ
secured_length h clear = parts.secured_length (security_length h) clear

-- the secured frame of a clear one under an SPI and the number n; the length is rewritten before the MAC is made
unfoldable pub secured_frame : Held → Kind → ℕ → ℕ → List ℕ → List ℕ
secured_frame h k spi n clear =
    let header = k.with_length (secured_length h clear) (header_of k clear) in
    let field = field_for h n in
    let security = bytes 2 spi ++ field in
    let text = (service_in h).going_out h.key field (parts.clear_content k clear) in
    let mac = (service_in h).mac h.key field (covered_before h header security) text in
    closed k (header ++ (security ++ (text ++ (mac ++ control_of k clear))))

-- ---- checking: what a secured frame holds

-- the SPI stands first in the security header, whatever the service
abbrev pub spi_in : Kind → List ℕ → ℕ
spi_in k frame = number_at (header_end k frame) 2 frame

unfoldable pub field_in : Held → Kind → List ℕ → List ℕ
field_in h k frame = drop 2 (security_of k (security_length h) frame)

unfoldable pub text_in : Held → Kind → List ℕ → List ℕ
text_in h k frame = parts.secured_content k (security_length h) frame

unfoldable pub number_in : Held → Kind → List ℕ → ℕ
number_in h k frame = number_from h (field_in h k frame)

-- whether the MAC that it holds is the right one, all sixteen octets of it
unfoldable pub mac_right : Held → Kind → List ℕ → Bool
mac_right h k frame =
    same ((service_in h).mac h.key (field_in h k frame) (covered_in h k frame) (text_in h k frame)) (mac_of k frame)

-- the clear data; it is as long as the data that came in
unfoldable pub clear_data : Held → Kind → List ℕ → List ℕ
clear_data h k frame = (service_in h).coming_in h.key (field_in h k frame) (text_in h k frame)

unfoldable pub clear_length : Held → Kind → List ℕ → ℕ
clear_length h k frame = length (text_in h k frame)
