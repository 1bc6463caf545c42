-- Document 01, 'Frames' and 'The image', and document 02, requests 1, 4 and 6: the kinds of frame, in the octets of a frame, to be laid beside
-- those sections. The promises name a kind in these words and not in those of the definitions that they are about, so that a definition which
-- skips a rule, reads another bit or copies less of a header breaks a promise. A kind is one record, and what is promised is stated once
-- over any.
-- Octets are numbered from 0, and the first bit of an octet is its most significant: octet / 64 are its first two bits, octet % 4 its last.
-- Assumes nothing.
use Rattle.std.specs.Prelude.{ℕ, ◌+◌, ◌-◌, ◌*◌, ◌/◌, ◌%◌, ◌≤◌, ◌≡◌, ◌⊎◌, Bool, true, false, cond, List, eqb, ltb, length}
use Rattle.std.specs.Int.Bits.{bit_and}
use Rattle.octets.specs.Lists.{octet, tab}
use Rattle.judging.specs.Said.{Said}

pub record Form : Type 1 where
  -- what the bits of the header have to hold, the length field among them
  pub Header : List ℕ → Type 0
  -- h, the octets of the header, a secondary header counted in; f, those of the operational control field; and the largest frame
  pub header : List ℕ → ℕ
  pub trailer : List ℕ → ℕ
  pub largest : ℕ
  -- whether a check field may stand at the end
  pub may_end_in_field : Bool
  -- octet j of the header that a clear frame gets when it is secured, in a frame of n octets
  pub secured_octet : ℕ → List ℕ → ℕ → ℕ
  -- the identifiers, and the most that an image allows of each
  pub spacecraft : List ℕ → ℕ
  pub channel : List ℕ → ℕ
  pub map : List ℕ → ℕ
  pub most_spacecraft : ℕ
  pub most_channel : ℕ
  pub most_map : ℕ

-- ---- TC, 5 octets: version 2 bits (0), bypass 1, control 1 (0 here), spare 2 (0), spacecraft 10, virtual channel 6, length 10 (all octets
-- of the frame less one), frame sequence 8. With segment header: one octet more, flags 2 and MAP 6

pub record TcHeader (tc : List ℕ) : Type 0 where
  pub version : octet tc 0 / 64 ≡ 0
  pub control : octet tc 0 / 16 % 2 ≡ 0
  pub spare : octet tc 0 / 4 % 4 ≡ 0
  pub length_field : octet tc 2 % 4 * 256 + octet tc 3 + 1 ≡ length tc

-- the length is rewritten, in the last two bits of octet 2 and in octet 3; all else is copied
abbrev pub tc_secured_octet : ℕ → List ℕ → ℕ → ℕ
tc_secured_octet n clear j =
    cond (eqb j 2) (octet clear 2 / 4 * 4 + (n - 1) / 256) (cond (eqb j 3) ((n - 1) % 256) (octet clear j))

-- over the octets of the header, the MAP and the most that an image allows of it
abbrev pub tc_form : ℕ → (List ℕ → ℕ) → ℕ → Form
tc_form h map most =
    record {
      Header = TcHeader;
      header = λ frame. h;
      trailer = λ frame. 0;
      largest = 1024;
      may_end_in_field = true;
      secured_octet = tc_secured_octet;
      spacecraft = λ frame. octet frame 0 % 4 * 256 + octet frame 1;
      channel = λ frame. octet frame 2 / 4;
      map = map;
      most_spacecraft = 1023;
      most_channel = 63;
      most_map = most;
    }

abbrev pub plain_tc_form : Form
plain_tc_form = tc_form 5 (λ frame. 0) 0

abbrev pub segmented_tc_form : Form
segmented_tc_form = tc_form 6 (λ frame. octet frame 5 % 64) 63

-- ---- TM, 6 octets: version 2 bits (0), spacecraft 10, virtual channel 3, OCF flag 1, two counts of 8, data field status 16, whose first bit
-- is the flag of a secondary header. OCF flag 1 means that the last 4 octets are the operational control field

-- the first octet of a secondary header: version 2 bits (0), and 6 that hold its length less one, 1 to 63
pub record SecondaryHeader (tm : List ℕ) : Type 0 where
  pub version : octet tm 6 / 64 ≡ 0
  pub length_field : 1 ≤ octet tm 6 % 64

pub record TmHeader (tm : List ℕ) : Type 0 where
  pub version : octet tm 0 / 64 ≡ 0
  pub secondary : (octet tm 4 / 128 ≡ 0) ⊎ SecondaryHeader tm

-- there is no length field, so every octet is copied
abbrev pub copied_octet : ℕ → List ℕ → ℕ → ℕ
copied_octet n clear j = octet clear j

abbrev pub tm_form : Form
tm_form =
    record {
      Header = TmHeader;
      header = λ frame. 6 + cond (eqb (octet frame 4 / 128) 0) 0 (octet frame 6 % 64 + 1);
      trailer = λ frame. 4 * (octet frame 1 % 2);
      largest = 2048;
      may_end_in_field = true;
      secured_octet = copied_octet;
      spacecraft = λ frame. octet frame 0 % 64 * 16 + octet frame 1 / 16;
      channel = λ frame. octet frame 1 / 2 % 8;
      map = λ frame. 0;
      most_spacecraft = 1023;
      most_channel = 7;
      most_map = 0;
    }

-- ---- AOS, 6 octets: version 2 bits (01), spacecraft 8, virtual channel 6, frame count 24, signalling 8; the last two may hold anything

pub record AosHeader (aos : List ℕ) : Type 0 where
  pub version : octet aos 0 / 64 ≡ 1

-- there is no length field here either, no operational control field, and no check field
abbrev pub aos_form : Form
aos_form =
    record {
      Header = AosHeader;
      header = λ frame. 6;
      trailer = λ frame. 0;
      largest = 2048;
      may_end_in_field = false;
      secured_octet = copied_octet;
      spacecraft = λ frame. octet frame 0 % 64 * 4 + octet frame 1 / 64;
      channel = λ frame. octet frame 1 % 64;
      map = λ frame. 0;
      most_spacecraft = 255;
      most_channel = 63;
      most_map = 0;
    }

-- ---- no kind: no frame has such a header

abbrev pub no_form : Form
no_form =
    record {
      Header = λ frame. ⊥;
      header = λ frame. 0;
      trailer = λ frame. 0;
      largest = 0;
      may_end_in_field = false;
      secured_octet = λ n clear j. 0;
      spacecraft = λ frame. 0;
      channel = λ frame. 0;
      map = λ frame. 0;
      most_spacecraft = 0;
      most_channel = 0;
      most_map = 0;
    }

-- ---- kinds: 1 TC without segment header, 2 TC with it, 3 TM, 4 AOS; another number names none

unfoldable pub form_of : ℕ → Form
form_of kind =
    cond (eqb kind 1) plain_tc_form (cond (eqb kind 2) segmented_tc_form (cond (eqb kind 3) tm_form (cond (eqb kind 4) aos_form no_form)))

abbrev pub form_said : Said → Form
form_said said = form_of said.kind

-- ---- the header as the MAC covers it: each of its first six octets ANDed with the mask; behind them, in a secondary header, every bit is
-- covered

abbrev pub under_mask : List ℕ → List ℕ → List ℕ
under_mask mask header = tab (length header) (λ j. cond (ltb j 6) (bit_and (octet header j) (octet mask j)) (octet header j))
