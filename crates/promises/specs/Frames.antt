-- Document 01, 'Frames', and document 02, requests 4 and 9, in the octets of a frame: what a clear frame holds, and what a secured frame
-- holds under the service that made it. Header and trailer are those of the form (`Forms`) that the caller names by its kind, and of the
-- check field that the caller says to be there; what an IV begins with is that of the image's version (`Versions`).
-- Assumes nothing.
use Rattle.std.specs.Prelude.{ℕ, ◌+◌, ◌-◌, ◌≤◌, ◌<◌, ◌≡◌, true, cond, List, ◌++◌, eqb, length, take, drop}
use Rattle.std.proofs.Math.Seq.{slice}
use Rattle.octets.specs.Lists.{octet}
use Rattle.octets.specs.Numbers.{number_at, bytes}
use Rattle.check_field.specs.CheckField.{check_field}
use Rattle.cmac.specs.Mac.{cmac}
use Rattle.gcm.specs.Decryption.{plaintext}
use Rattle.gcm.specs.Encryption.{ciphertext, tag}
use Rattle.judging.specs.Said.{Said}
use Rattle.promises.specs.Forms.{form_said, under_mask}
use Rattle.promises.specs.Versions.{Shape, names_spi}

abbrev pub header_size : Said → List ℕ → ℕ
header_size said frame = (form_said said).header frame

-- the check field has 2 octets, where it is present
abbrev pub check_field_size : Said → ℕ
check_field_size said = cond said.field 2 0

abbrev pub trailer_size : Said → List ℕ → ℕ
trailer_size said frame = (form_said said).trailer frame + check_field_size said

-- the frame without its check field, if it has one; and without the operational control field before that, if it has one
abbrev pub before_field : Said → List ℕ → ℕ
before_field said frame = length frame - check_field_size said

abbrev pub before_trailer : Said → List ℕ → ℕ
before_trailer said frame = length frame - trailer_size said frame

abbrev pub control_on : Said → List ℕ → List ℕ
control_on said frame = slice (before_trailer said frame) (before_field said frame) frame

-- ---- a clear frame

abbrev pub data_in_clear : Said → List ℕ → List ℕ
data_in_clear said frame = slice (header_size said frame) (before_trailer said frame) frame

-- ---- a secured frame, under service 1 or 2

-- the field behind the SPI has 4 octets under service 1, 12 under service 2
abbrev pub field_size : ℕ → ℕ
field_size service = cond (eqb service 2) 12 4

-- the SPI and that field
abbrev pub security_size : ℕ → ℕ
security_size service = 2 + field_size service

abbrev pub spi_on : Said → List ℕ → ℕ
spi_on said frame = number_at (header_size said frame) 2 frame

abbrev pub security_on : ℕ → Said → List ℕ → List ℕ
security_on service said frame = slice (header_size said frame) (header_size said frame + security_size service) frame

abbrev pub field_on : ℕ → Said → List ℕ → List ℕ
field_on service said frame = drop 2 (security_on service said frame)

-- the sequence number, read as one big-endian number: the whole field, or the last four octets of an IV that names the association
abbrev pub number_on : Shape → ℕ → Said → List ℕ → ℕ
number_on shape service said frame =
    cond (names_spi shape service) (number_at (header_size said frame + 10) 4 frame) (number_at (header_size said frame + 2) (field_size service) frame)

-- before which the SPI stands in four octets, and four zeros
pub record Opens (shape : Shape) (service : ℕ) (said : Said) (spi : ℕ) (frame : List ℕ) : Type 0 where
  pub spis : names_spi shape service ≡ true → number_at (header_size said frame + 2) 4 frame ≡ spi
  pub zeros : names_spi shape service ≡ true → number_at (header_size said frame + 6) 4 frame ≡ 0

abbrev pub text_end : Said → List ℕ → ℕ
text_end said frame = before_trailer said frame - 16

abbrev pub text_on : ℕ → Said → List ℕ → List ℕ
text_on service said frame = slice (header_size said frame + security_size service) (text_end said frame) frame

abbrev pub mac_on : Said → List ℕ → List ℕ
mac_on said frame = slice (text_end said frame) (before_trailer said frame) frame

-- the data as it goes out under a service, and as it comes in: service 2 encrypts it, with the field as IV
abbrev pub going_out : ℕ → List ℕ → List ℕ → List ℕ → List ℕ
going_out service key field clear = cond (eqb service 2) (ciphertext key field clear) clear

abbrev pub coming_in : ℕ → List ℕ → List ℕ → List ℕ → List ℕ
coming_in service key field text = cond (eqb service 2) (plaintext key field text) text

-- the MAC that it should hold: over the header, each octet ANDed with the mask, the security header and the data
abbrev pub right_mac : ℕ → Said → List ℕ → List ℕ → List ℕ → List ℕ
right_mac service said mask key frame =
    let before = under_mask mask (take (header_size said frame) frame) ++ security_on service said frame in
    let text = text_on service said frame in
    cond (eqb service 2) (tag key (field_on service said frame) before text) (cmac key (before ++ text))

-- ---- a frame obeys its kind

-- answer 3: header rules with the length field, at most the largest, and at least so many octets between header and trailer
pub record FrameRules (said : Said) (frame : List ℕ) (least : ℕ) : Type 0 where
  pub header : (form_said said).Header frame
  pub largest : length frame ≤ (form_said said).largest
  pub smallest : header_size said frame + least + trailer_size said frame ≤ length frame
  pub ending : said.field ≡ true → (form_said said).may_end_in_field ≡ true

-- answer 12: a check field is that of all octets before it, as the standard gives it, the high octet first
pub record RightField (said : Said) (frame : List ℕ) : Type 0 where
  pub right : said.field ≡ true → drop (before_field said frame) frame ≡ bytes 2 (check_field (take (before_field said frame) frame))

-- ---- the secured frame of a clear one

-- the length rewritten, the other header octets and the operational control field copied, between them the SPI, the number, the data and its
-- MAC, and at the end the check field of all that
pub record SecuredFrom (shape : Shape) (service : ℕ) (said : Said) (spi n : ℕ) (mask key clear frame : List ℕ) : Type 0 where
  pub size : length frame ≡ length clear + security_size service + 16
  pub rules : FrameRules said frame 2
  pub header : (j : ℕ) → j < header_size said clear → octet frame j ≡ (form_said said).secured_octet (length frame) clear j
  pub spis : spi_on said frame ≡ spi
  pub opens : Opens shape service said spi frame
  pub number : number_on shape service said frame ≡ n
  pub text : text_on service said frame ≡ going_out service key (field_on service said frame) (data_in_clear said clear)
  pub mac : mac_on said frame ≡ right_mac service said mask key frame
  pub control : control_on said frame ≡ control_on said clear
  pub field : RightField said frame
