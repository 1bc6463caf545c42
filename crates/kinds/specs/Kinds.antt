-- Document 01, 'Frames' and 'The image', and document 02, requests 1, 4 and 6: the frame kinds. Everything that the papers say of one kind
-- stands in its record, and nothing else names a kind's numbers.
-- Assumes nothing.
use Rattle.std.specs.Prelude.{ℕ, ◌+◌, Bool, true, false, ◌&&◌, ◌||◌, not, cond, List, eqb, ltb, Option, Some, None}
use Rattle.headers.specs.Aos.{aos_rules}
use Rattle.headers.specs.Fields.{tc_spacecraft, tc_channel, segment_map, tm_spacecraft, tm_channel, aos_spacecraft, aos_channel}
use Rattle.headers.specs.Telecommand.{tc_rules, tc_length_ok, tc_holds_length, tc_with_length}
use Rattle.headers.specs.Telemetry.{tm_primary, most_secondary, tm_rules, tm_header, tm_trailer}
use Rattle.kinds.specs.declared.framing.Framing.{Framing}
use Rattle.kinds.specs.declared.kinds.Kind as code
use Rattle.kinds.specs.declared.kinds.Kind.TheVariants as kind

pub record Kind : Type 0 where
  -- the rules on the bits of the header
  pub rules : List ℕ → Bool
  -- h, the octets of the header, with the secondary header if there is one; f, those behind the MAC; and the most octets that a frame may have
  pub header : List ℕ → ℕ
  pub trailer : List ℕ → ℕ
  pub largest : ℕ
  -- whether frames may end in a check field, and whether these do
  pub may_end_in_field : Bool
  pub ends_in_field : Bool
  -- the octets of the header that the mask covers, whatever the frame
  pub under_mask : ℕ
  -- whether the length field is right; whether octets reach over it; and a header, or a frame, with the field rewritten for a frame of n octets
  pub length_ok : List ℕ → Bool
  pub holds_length : List ℕ → Bool
  pub with_length : ℕ → List ℕ → List ℕ
  -- the identifiers, and the most that the image may ask of each
  pub spacecraft : List ℕ → ℕ
  pub channel : List ℕ → ℕ
  pub map : List ℕ → ℕ
  pub most_spacecraft : ℕ
  pub most_channel : ℕ
  pub most_map : ℕ

-- ---- TC

-- what both TC kinds have, over the octets of the header, the MAP and the most that the image may ask of it
abbrev pub telecommand : ℕ → (List ℕ → ℕ) → ℕ → Kind
telecommand h map most =
    record {
      rules = tc_rules;
      header = λ frame. h;
      trailer = λ frame. 0;
      largest = 1024;
      may_end_in_field = true;
      ends_in_field = false;
      under_mask = h;
      length_ok = tc_length_ok;
      holds_length = tc_holds_length;
      with_length = tc_with_length;
      spacecraft = tc_spacecraft;
      channel = tc_channel;
      map = map;
      most_spacecraft = 1023;
      most_channel = 63;
      most_map = most;
    }

abbrev pub tc : Kind
tc = telecommand 5 (λ frame. 0) 0

-- with a segment header: one octet more, which holds the MAP
abbrev pub segmented_tc : Kind
segmented_tc = telecommand 6 segment_map 63

-- ---- TM: there is no length field, and a secondary header may stand behind the primary one. Securing copies both, and they say themselves
-- how long they are; so a secured frame shows the h of the clear one, and both ends read the same

abbrev pub tm : Kind
tm =
    record {
      rules = tm_rules;
      header = tm_header;
      trailer = tm_trailer;
      largest = 2048;
      may_end_in_field = true;
      ends_in_field = false;
      under_mask = tm_primary;
      length_ok = λ frame. true;
      holds_length = λ s. false;
      with_length = λ n s. s;
      spacecraft = tm_spacecraft;
      channel = tm_channel;
      map = λ frame. 0;
      most_spacecraft = 1023;
      most_channel = 7;
      most_map = 0;
    }

-- ---- AOS: there is no length field, and nothing behind the MAC

abbrev pub aos : Kind
aos =
    record {
      rules = aos_rules;
      header = λ frame. 6;
      trailer = λ frame. 0;
      largest = 2048;
      may_end_in_field = false;
      ends_in_field = false;
      under_mask = 6;
      length_ok = λ frame. true;
      holds_length = λ s. false;
      with_length = λ n s. s;
      spacecraft = aos_spacecraft;
      channel = aos_channel;
      map = λ frame. 0;
      most_spacecraft = 255;
      most_channel = 63;
      most_map = 0;
    }

-- ---- no kind: no frame obeys it

abbrev pub no_kind : Kind
no_kind =
    record {
      rules = λ frame. false;
      header = λ frame. 0;
      trailer = λ frame. 0;
      largest = 0;
      may_end_in_field = false;
      ends_in_field = false;
      under_mask = 0;
      length_ok = λ frame. false;
      holds_length = λ s. false;
      with_length = λ n s. s;
      spacecraft = λ frame. 0;
      channel = λ frame. 0;
      map = λ frame. 0;
      most_spacecraft = 0;
      most_channel = 0;
      most_map = 0;
    }

-- no kind has a longer header than TM with the longest secondary header
abbrev pub most_header : ℕ
most_header = tm_primary + most_secondary

-- whether frames of a kind have a MAP: the image may then ask for another than 0
abbrev pub has_map : Kind → Bool
has_map k = ltb 0 k.most_map

-- ---- the kind that the caller names by its number

-- what the paper says of each kind of the code
abbrev pub kind_is : code.Kind → Kind
kind_is kind.Tc = tc
kind_is kind.SegmentedTc = segmented_tc
kind_is kind.Tm = tm
kind_is kind.Aos = aos

-- 1 TC without segment header, 2 TC with it, 3 TM, 4 AOS; another number names none
unfoldable pub named : ℕ → Option code.Kind
named number =
    cond (eqb number 1) (Some kind.Tc)
    (cond (eqb number 2) (Some kind.SegmentedTc)
    (cond (eqb number 3) (Some kind.Tm)
    (cond (eqb number 4) (Some kind.Aos) None)))

abbrev pub kind_behind : Option code.Kind → Kind
kind_behind (Some k) = kind_is k
kind_behind None = no_kind

abbrev pub kind_of : ℕ → Kind
kind_of number = kind_behind (named number)

-- ---- with a check field, where the caller says that frames end in one

-- its octets
abbrev pub check_field_length : Bool → ℕ
check_field_length present = cond present 2 0

-- f grows by them, and a frame of a kind that may not end in a field keeps no rule; all else is the kind's
abbrev pub with_check_field : Bool → Kind → Kind
with_check_field present k =
    record {
      rules = λ frame. k.rules frame && (not present || k.may_end_in_field);
      header = k.header;
      trailer = λ frame. k.trailer frame + check_field_length present;
      largest = k.largest;
      may_end_in_field = k.may_end_in_field;
      ends_in_field = present;
      under_mask = k.under_mask;
      length_ok = k.length_ok;
      holds_length = k.holds_length;
      with_length = k.with_length;
      spacecraft = k.spacecraft;
      channel = k.channel;
      map = k.map;
      most_spacecraft = k.most_spacecraft;
      most_channel = k.most_channel;
      most_map = k.most_map;
    }

-- as the code says both
abbrev pub framed : Framing → Kind
framed framing = with_check_field framing.field (kind_is framing.kind)
