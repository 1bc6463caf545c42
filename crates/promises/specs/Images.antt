-- Document 01, 'The image' and 'Managed numbers', and document 02, requests 2, 5, 9 and 10, in the octets of an image: where each field of an
-- entry stands, what a valid image is, when numbers agree with it, and which entry serves a frame. The promises speak of an image in these
-- words and not in those of the definitions that they are about, so that a definition which reads another octet or drops a rule breaks a
-- promise. The numbers that differ from version to version are those of its shape (`Versions`).
-- Assumes nothing.
use Rattle.std.specs.Prelude.{ℕ, zero, suc, ◌+◌, ◌*◌, ◌/◌, ◌%◌, ◌^◌, ◌≤◌, ◌<◌, ◌≡◌, ◌⊎◌, Bool, true, false, cond, ◌&&◌, List, eqb, length, get_or}
use Rattle.octets.specs.Lists.{octet, part}
use Rattle.octets.specs.Numbers.{number_at}
use Rattle.octets.specs.Xor.{◌⊕◌}
use Rattle.judging.specs.Said.{Said}
use Rattle.promises.specs.Forms.{form_of, form_said}
use Rattle.promises.specs.Versions.{Shape, shape_of}

-- ---- version and contents

abbrev pub version_in : List ℕ → ℕ
version_in image = octet image 0

abbrev pub shape_in : List ℕ → Shape
shape_in image = shape_of (version_in image)

abbrev pub count_in : List ℕ → ℕ
count_in image = octet image 1

abbrev pub spi_at : List ℕ → ℕ → ℕ
spi_at image i = number_at (2 + 4 * i) 2 image

abbrev pub position_at : List ℕ → ℕ → ℕ
position_at image i = number_at (2 + 4 * i + 2) 2 image

-- ---- the body of entry i

-- where its octet j stands: at 2 + 4k + 52i + j in versions 1 and 2, at 6 + 4k + 22i + j in version 3, at 6 + 4k + 23i + j
-- in version 4
abbrev pub place : List ℕ → ℕ → ℕ → ℕ
place image i j = (shape_in image).front + 4 * count_in image + (shape_in image).body * i + j

-- where the four octets of its mark begin
abbrev pub mark_place : List ℕ → ℕ → ℕ
mark_place image i = place image i (shape_in image).mark

abbrev pub service_at : List ℕ → ℕ → ℕ
service_at image i = octet image (place image i 0)

abbrev pub kind_at : List ℕ → ℕ → ℕ
kind_at image i = octet image (place image i 1)

abbrev pub direction_at : List ℕ → ℕ → ℕ
direction_at image i = octet image (place image i 2)

abbrev pub state_at : List ℕ → ℕ → ℕ
state_at image i = octet image (place image i 3)

abbrev pub spacecraft_at : List ℕ → ℕ → ℕ
spacecraft_at image i = number_at (place image i 4) 2 image

abbrev pub channel_at : List ℕ → ℕ → ℕ
channel_at image i = octet image (place image i 6)

abbrev pub map_at : List ℕ → ℕ → ℕ
map_at image i = octet image (place image i 7)

abbrev pub window_at : List ℕ → ℕ → ℕ
window_at image i = number_at (place image i 8) 2 image

abbrev pub mask_at : List ℕ → ℕ → List ℕ
mask_at image i = part (place image i 10) 6 image

-- the ID of its key, where the version has a key part
abbrev pub key_id_at : List ℕ → ℕ → ℕ
key_id_at image i = number_at (place image i 16) 2 image

-- the mark, as it is coded
abbrev pub code_at : List ℕ → ℕ → ℕ
code_at image i = number_at (mark_place image i) 4 image

abbrev pub whole_body_at : List ℕ → ℕ → List ℕ
whole_body_at image i = part (place image i 0) (shape_in image).body image

-- the desk that owns it: its last octet in version 4, and desk 1 in an older one
abbrev pub owner_at : List ℕ → ℕ → ℕ
owner_at image i = cond (shape_in image).owners (octet image (place image i 22)) 1

-- whether its channel octet is a set of eight bits, the lowest for channel 0: from version 2 on, of kind 3
abbrev pub is_set : List ℕ → ℕ → Bool
is_set image i = (shape_in image).sets && eqb (kind_at image i) 3

-- it serves a channel: the one that it holds, or one whose bit is 1 in its set
pub record ServesChannel (image : List ℕ) (i channel : ℕ) : Type 0 where
  pub one : is_set image i ≡ false → channel_at image i ≡ channel
  pub set : is_set image i ≡ true → (channel < 8) × (channel_at image i / 2 ^ channel % 2 ≡ 1)

-- the code of a mark: m exclusive-or half of m rounded down
abbrev pub coded : ℕ → ℕ
coded m = m ⊕ m / 2

-- ---- the key part, behind the last body: the count of its keys, then of each an ID of two octets, a state octet and the 32 octets of the key

abbrev pub part_place : List ℕ → ℕ
part_place image = place image (count_in image) 0

-- an image without a key part has no keys
abbrev pub key_count_in : List ℕ → ℕ
key_count_in image = cond (shape_in image).key_part (octet image (part_place image)) 0

-- where key j stands
abbrev pub key_at : List ℕ → ℕ → ℕ
key_at image j = part_place image + 1 + 35 * j

abbrev pub id_of_key : List ℕ → ℕ → ℕ
id_of_key image j = number_at (key_at image j) 2 image

abbrev pub state_of_key : List ℕ → ℕ → ℕ
state_of_key image j = octet image (key_at image j + 2)

abbrev pub octets_of_key : List ℕ → ℕ → List ℕ
octets_of_key image j = part (key_at image j + 3) 32 image

-- key j is there and has an ID
pub record HasId (image : List ℕ) (id j : ℕ) : Type 0 where
  pub there : j < key_count_in image
  pub ids : id_of_key image j ≡ id

-- there is a key with an ID; and one that is in a state: 0 pre-active, 1 active, 2 deactivated
abbrev pub KeyThere : List ℕ → ℕ → Type 0
KeyThere image id = (j : ℕ) × HasId image id j

abbrev pub KeyInState : List ℕ → ℕ → ℕ → Type 0
KeyInState image id state = (j : ℕ) × HasId image id j × (state_of_key image j ≡ state)

-- the first of n keys from j on that has an ID, and where none has it the one behind them
unfoldable pub key_from : List ℕ → ℕ → ℕ → ℕ → ℕ
key_from image id j zero = j
key_from image id j (suc n) = cond (eqb (id_of_key image j) id) j (key_from image id (j + 1) n)

-- the key of entry i: the 32 octets of the key whose ID its body holds, or those in its body
abbrev pub key_octets_at : List ℕ → ℕ → List ℕ
key_octets_at image i =
    cond (shape_in image).key_part (octets_of_key image (key_from image (key_id_at image i) 0 (key_count_in image))) (part (place image i 16) 32 image)

-- ---- what a valid image is

pub record BodyRules (image : List ℕ) (i : ℕ) : Type 0 where
  pub service : (1 ≤ service_at image i) × (service_at image i ≤ 2)
  pub kind : (1 ≤ kind_at image i) × (kind_at image i ≤ 4)
  pub direction : (1 ≤ direction_at image i) × (direction_at image i ≤ 2)
  pub state : state_at image i ≤ 2
  pub spacecraft : spacecraft_at image i ≤ (form_of (kind_at image i)).most_spacecraft
  pub channel : is_set image i ≡ false → channel_at image i ≤ (form_of (kind_at image i)).most_channel
  pub channels : is_set image i ≡ true → 1 ≤ channel_at image i
  pub map : map_at image i ≤ (form_of (kind_at image i)).most_map
  pub window : state_at image i ≡ 2 → (1 ≤ window_at image i) × (window_at image i ≤ 1024)
  pub mask : kind_at image i ≡ 1 → octet image (place image i 15) ≡ 0
  pub mark : code_at image i < 2 ^ 26
  pub owner : (1 ≤ owner_at image i) × (owner_at image i ≤ 2)

-- of a key part: the last entry of the contents, outside the count, is SPI 65,535 and its position; at most 64 keys, whose IDs rise; and an
-- operational body names a key that is there and active
pub record KeyRules (image : List ℕ) : Type 0 where
  pub spi : spi_at image (count_in image) ≡ 65535
  pub position : position_at image (count_in image) ≡ part_place image
  pub count : key_count_in image ≤ 64
  pub rising : (j k : ℕ) → j < k → k < key_count_in image → id_of_key image j < id_of_key image k
  pub state : (j : ℕ) → j < key_count_in image → state_of_key image j ≤ 2
  pub active : (i : ℕ) → i < count_in image → state_at image i ≡ 2 → KeyInState image (key_id_at image i) 1

-- exactly 2 + 56k octets in versions 1 and 2, 7 + 26k + 35q in version 3, and 7 + 27k + 35q in version 4
abbrev pub size_in : List ℕ → ℕ
size_in image = part_place image + cond (shape_in image).key_part (1 + 35 * key_count_in image) 0

pub record ImageRules (image : List ℕ) : Type 0 where
  pub version : (1 ≤ version_in image) × (version_in image ≤ 4)
  pub count : count_in image ≤ 32
  pub size : length image ≡ size_in image
  pub spi : (i : ℕ) → i < count_in image → (1 ≤ spi_at image i) × (spi_at image i ≤ 65534)
  pub rising : (i j : ℕ) → i < j → j < count_in image → spi_at image i < spi_at image j
  pub position : (i : ℕ) → i < count_in image → position_at image i ≡ place image i 0
  pub body : (i : ℕ) → i < count_in image → BodyRules image i
  pub keys : (shape_in image).key_part ≡ true → KeyRules image

-- ---- the managed numbers

abbrev pub last_at : List ℕ → ℕ → ℕ
last_at numbers i = get_or numbers i 0

-- for every entry, number / 64 rounded down is its mark
pub record Agreeing (image numbers : List ℕ) : Type 0 where
  pub marks : (i : ℕ) → i < count_in image → code_at image i ≡ coded (last_at numbers i / 64)

-- a number that a check accepts, over whole numbers: no wrap
pub record InWindow (last window n : ℕ) : Type 0 where
  pub above : last < n
  pub near : n ≤ last + window
  pub most : n ≤ 4294967295

-- ---- the desk that makes a call: desk 0, the key office's, sees every entry, and another those that it owns

abbrev pub Sees : List ℕ → ℕ → ℕ → Type 0
Sees image desk i = (desk ≡ 0) ⊎ (owner_at image i ≡ desk)

-- ---- the entry that a frame asks for: that SPI, seen by the desk, operational, and of that direction, kind, spacecraft, channel and (kind 2) MAP

pub record Serves (image : List ℕ) (direction : ℕ) (said : Said) (spi : ℕ) (frame : List ℕ) (i : ℕ) : Type 0 where
  pub entry : i < count_in image
  pub spis : spi_at image i ≡ spi
  pub seen : Sees image said.desk i
  pub state : state_at image i ≡ 2
  pub directions : direction_at image i ≡ direction
  pub kinds : kind_at image i ≡ said.kind
  pub spacecraft : spacecraft_at image i ≡ (form_said said).spacecraft frame
  pub channel : ServesChannel image i ((form_said said).channel frame)
  pub map : said.kind ≡ 2 → map_at image i ≡ (form_said said).map frame
