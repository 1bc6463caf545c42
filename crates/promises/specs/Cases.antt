-- Cases A to L of document 01, as one list of tests, and case L with a check field. The ciphers are never computed: a check is asked what
-- it does where the comparison of the MAC falls out well, and of a frame that goes out its length and its first 12 octets are read. It
-- supposes nothing.
-- Assumes nothing.
use Rattle.std.specs.Prelude.{ℕ, ◌+◌, ◌-◌, ◌/◌, ◌%◌, ◌≡◌, Bool, true, false, ◌&&◌, cond, List, [], ◌∷◌, ◌++◌, eqb, length, set, take, replicate}
use Rattle.octets.specs.Lists.{octet}
use Rattle.octets.specs.Numbers.{bytes}
use Rattle.octets.specs.Same.{same}
use Rattle.check_field.specs.CheckField.{with_field}
use Rattle.link.specs.Calls.{Left, loaded, secured, checked_as, checked_cut_as}
use Rattle.judging.specs.Said.{Said}
use Rattle.promises.specs.Images.{count_in, position_at}

abbrev pub all_true : List Bool → Bool
all_true [] = true
all_true (b ∷ bs) = b && all_true bs

-- ---- what the cases speak of

-- a version, and one entry: SPI 9, service, kind, direction, operational, spacecraft 27, channel octet, MAP 0, window, mask, key, mark
unfoldable pub image_with : ℕ → ℕ → ℕ → ℕ → ℕ → ℕ → ℕ → List ℕ
image_with version channel service kind direction window code =
    version ∷ 0x01 ∷ 0x00 ∷ 0x09 ∷ 0x00 ∷ 0x06 ∷ service ∷ kind ∷ direction ∷ 0x02 ∷ 0x00 ∷ 0x1B ∷ channel ∷ 0x00
    ∷ (bytes 2 window ++ (replicate 5 0xFF ++ (0x00 ∷ (replicate 32 0x07 ++ bytes 4 code))))

-- of version 1, with channel 5
abbrev pub image_of : ℕ → ℕ → ℕ → ℕ → ℕ → List ℕ
image_of service kind direction window code = image_with 0x01 0x05 service kind direction window code

-- the image of case B, and the same at the receiving end, with that window and that coded mark
abbrev pub sender : ℕ → ℕ → List ℕ
sender window code = image_of 1 1 1 window code

abbrev pub receiver : ℕ → ℕ → List ℕ
receiver window code = image_of 1 1 2 window code

abbrev pub image_b : List ℕ
image_b = sender 100 0

-- the managed numbers of an image with one entry, whose number is n
abbrev pub one_number : ℕ → List ℕ
one_number n = n ∷ replicate 31 0

abbrev pub frame_c : List ℕ
frame_c = 0x00 ∷ 0x1B ∷ 0x14 ∷ 0x05 ∷ 0x00 ∷ 0xAA ∷ []

-- case C's frame as it is secured under the number n, with some MAC
unfoldable pub secured_c : ℕ → List ℕ
secured_c n = 0x00 ∷ 0x1B ∷ 0x14 ∷ 0x1B ∷ 0x00 ∷ 0x00 ∷ 0x09 ∷ (bytes 4 n ++ (0xAA ∷ replicate 16 0x00))

-- a clear TC frame of n octets
unfoldable pub clear_tc : ℕ → List ℕ
clear_tc n = 0x00 ∷ 0x1B ∷ (0x14 + (n - 1) / 256) ∷ ((n - 1) % 256) ∷ 0x00 ∷ replicate (n - 5) 0xAA

-- what desk 1 says of a frame: its kind, without a check field and with one
abbrev pub bare : ℕ → Said
bare kind = record { desk = 1; kind = kind; field = false }

abbrev pub fielded : ℕ → Said
fielded kind = record { desk = 1; kind = kind; field = true }

unfoldable pub room : List ℕ
room = replicate 1100 0

-- case C's frame sent, after the number `last`
abbrev pub frame_sent : List ℕ → ℕ → Left
frame_sent image last = secured image (one_number last) (bare 1) 9 frame_c room

-- the frame of number n checked after the number `last`, its MAC right; and cut after j stores
abbrev pub frame_checked : List ℕ → ℕ → ℕ → Left
frame_checked image last n = checked_as true image (one_number last) (bare 1) (secured_c n) room

abbrev pub frame_cut : List ℕ → ℕ → ℕ → ℕ → List ℕ
frame_cut image last n j = checked_cut_as true image (one_number last) (bare 1) (secured_c n) room j

-- ---- the cases

pub data Letter : Type 0 where
  A : Letter
  B : Letter
  C : Letter
  D : Letter
  E : Letter
  F : Letter
  G : Letter
  H : Letter
  I : Letter
  J : Letter
  K : Letter
  L : Letter

pub record Case : Type 0 where
  pub letter : Letter
  pub tests : List Bool

abbrev pub case : Letter → List Bool → Case
case letter tests = record { letter = letter; tests = tests }

unfoldable pub cases : List Case
cases =
    -- `01 00` loads; k = 0
    case A
    (eqb (loaded (0x01 ∷ 0x00 ∷ []) (one_number 5)).answer 0
    ∷ eqb (count_in (0x01 ∷ 0x00 ∷ [])) 0
    ∷ same (loaded (0x01 ∷ 0x00 ∷ []) (one_number 5)).numbers (replicate 32 0)
    ∷ [])
    -- 58 octets, body at 6, number 63
    ∷ case B
    (eqb (length image_b) 58
    ∷ eqb (position_at image_b 0) 6
    ∷ eqb (loaded image_b []).answer 0
    ∷ same (loaded image_b []).numbers (one_number 63)
    ∷ [])
    -- the clear frame is well formed; with fourth octet 06: 3
    ∷ case C
    (eqb (frame_sent image_b 63).answer 0
    ∷ eqb (secured image_b (one_number 63) (bare 1) 9 (set frame_c 3 0x06) room).answer 3
    ∷ [])
    -- C under B becomes 28 octets with this start; the last mark octet, at 57, goes 00 to 01; one store
    ∷ case D
    (eqb (frame_sent image_b 63).length 28
    ∷ same (take 12 (frame_sent image_b 63).output) (0x00 ∷ 0x1B ∷ 0x14 ∷ 0x1B ∷ 0x00 ∷ 0x00 ∷ 0x09 ∷ 0x00 ∷ 0x00 ∷ 0x00 ∷ 0x40 ∷ 0xAA ∷ [])
    ∷ eqb (octet image_b 57) 0x00
    ∷ same (frame_sent image_b 63).image (set image_b 57 0x01)
    ∷ eqb (frame_sent image_b 63).stores 1
    ∷ [])
    -- number 63, window 100: 63 gives 8, 64 passes
    ∷ case E
    (eqb (frame_checked (receiver 100 0) 63 63).answer 8
    ∷ eqb (frame_checked (receiver 100 0) 63 64).answer 0
    ∷ [])
    -- 163 passes, 164 gives 8
    ∷ case F
    (eqb (frame_checked (receiver 100 0) 63 163).answer 0
    ∷ eqb (frame_checked (receiver 100 0) 63 164).answer 8
    ∷ [])
    -- accepting 163 stores 01, then 03; cut after the first: load gives 127
    ∷ case G
    (same (frame_cut (receiver 100 0) 63 163 1) (receiver 100 0x01)
    ∷ same (frame_cut (receiver 100 0) 63 163 2) (receiver 100 0x03)
    ∷ same (frame_checked (receiver 100 0) 63 163).image (receiver 100 0x03)
    ∷ eqb (frame_checked (receiver 100 0) 63 163).stores 2
    ∷ same (loaded (frame_cut (receiver 100 0) 63 163 1) []).numbers (one_number 127)
    ∷ [])
    -- after G's cut, 163 passes with one store
    ∷ case H
    (eqb (frame_checked (frame_cut (receiver 100 0) 63 163 1) 127 163).answer 0
    ∷ eqb (frame_checked (frame_cut (receiver 100 0) 63 163 1) 127 163).stores 1
    ∷ [])
    -- number 63, window 1,024: 1,087 takes 16 stores
    ∷ case I
    (eqb (frame_checked (receiver 1024 0) 63 1087).answer 0
    ∷ eqb (frame_checked (receiver 1024 0) 63 1087).stores 16
    ∷ [])
    -- mark 255 to 256: code 00 00 00 80 to 00 00 01 80
    ∷ case J
    (same (loaded (sender 100 0x00000080) []).numbers (one_number 16383)
    ∷ same (frame_sent (sender 100 0x00000080) 16383).image (sender 100 0x00000180)
    ∷ [])
    -- mark 67,108,863 is code 02 00 00 00; load gives 4,294,967,295; sending gives 10
    ∷ case K
    (same (loaded (sender 100 0x02000000) []).numbers (one_number 4294967295)
    ∷ eqb (frame_sent (sender 100 0x02000000) 4294967295).answer 10
    ∷ [])
    -- a TC frame of 1,002 clear octets under service 1 gives 1,024; 1,003 gives 11
    ∷ case L
    (eqb (secured image_b (one_number 63) (bare 1) 9 (clear_tc 1002) room).answer 0
    ∷ eqb (secured image_b (one_number 63) (bare 1) 9 (clear_tc 1002) room).length 1024
    ∷ eqb (secured image_b (one_number 63) (bare 1) 9 (clear_tc 1003) room).answer 11
    ∷ [])
    ∷ []

-- the letters of those that hold
abbrev pub holding : List Case → List Letter
holding [] = []
holding (c ∷ cs) = cond (all_true c.tests) (c.letter ∷ holding cs) (holding cs)

abbrev pub CasesHold : Type 0
CasesHold = holding cases ≡ A ∷ B ∷ C ∷ D ∷ E ∷ F ∷ G ∷ H ∷ I ∷ J ∷ K ∷ L ∷ []

-- ---- document 02, request 4: case L keeps its sizes, the check field counted in

-- a clear TC frame of n octets, the last two of which are its check field
unfoldable pub fielded_tc : ℕ → List ℕ
fielded_tc n = with_field (take (n - 2) (clear_tc n))

pub record FieldCounted : Type 0 where
  pub done : (secured image_b (one_number 63) (fielded 1) 9 (fielded_tc 1002) room).answer ≡ 0
  pub size : (secured image_b (one_number 63) (fielded 1) 9 (fielded_tc 1002) room).length ≡ 1024
  pub exceeding : (secured image_b (one_number 63) (fielded 1) 9 (fielded_tc 1003) room).answer ≡ 11
