-- Request 14: what the rejected frame tells. Two runs of checking, with loads between, go side by side. At the start the images are equal but
-- for the octets of keys, and the numbers are equal, and so are the notes: reports, counts and events. At each check the same is said of the
-- frame; the two frames are of one length and agree in primary and secondary header, SPI, and number or IV; the outputs are of one length.
-- Data, MAC, operational control field and check field may differ. If at each frame the test of the check field falls out the same way in
-- both, and the comparison of the MAC does, then after each step the answer, the length, the count of stores, the numbers and the notes are
-- equal, and the images are again equal but for keys, so every mark is. Released data alone may differ, and is equally long. Either test is
-- asked for only where those before it pass. It supposes that the images' numbers are octets, and speaks neither of time nor of what a call
-- leaves in memory that is not the caller's.
-- Assumes nothing.
use Rattle.std.specs.Prelude.{ℕ, ◌+◌, ◌≤◌, ◌<◌, ◌≡◌, ◌⊎◌, cond, List, [], ◌∷◌, length}
use Rattle.octets.specs.Lists.{octet, Octets}
use Rattle.judging.specs.Said.{Said}
use Rattle.link.specs.Calls.{loaded}
use Rattle.notes.specs.Noting.{LentNotes}
use Rattle.noting.specs.Noted.{Noted, check_noted}
use Rattle.promises.specs.Images.{shape_in, count_in, place, key_count_in, key_at, service_at, mask_at, key_octets_at, ImageRules, Agreeing, Serves}
use Rattle.promises.specs.Frames.{header_size, trailer_size, security_size, spi_on, field_on, text_on, mac_on, right_mac, FrameRules, RightField}

-- ---- images that are equal but for keys

-- the keys of an image, and where the 32 octets of key k begin: those of a key part, each behind its ID and state, or one in each body
abbrev pub keys_in : List ℕ → ℕ
keys_in image = cond (shape_in image).key_part (key_count_in image) (count_in image)

abbrev pub key_place : List ℕ → ℕ → ℕ
key_place image k = cond (shape_in image).key_part (key_at image k + 3) (place image k 16)

pub record ButKeys (image other : List ℕ) : Type 0 where
  pub size : length other ≡ length image
  pub elsewhere : (p : ℕ) → ((k : ℕ) → k < keys_in image → (p < key_place image k) ⊎ (key_place image k + 32 ≤ p))
      → octet other p ≡ octet image p

-- ---- the steps of both runs

-- what is kept from step to step
pub record State : Type 0 where
  pub image : List ℕ
  pub numbers : List ℕ
  pub notes : LentNotes

abbrev pub kept : Noted → State
kept x = record { image = x.left.image; numbers = x.left.numbers; notes = x.notes }

-- what a run is given at a check: the frame that came in, and the output
pub record Given : Type 0 where
  pub frame : List ℕ
  pub output : List ℕ

-- a load, handed the same numbers in both; or a check, of which the same is said in both, and each run is given its own
pub data Step : Type 0 where
  load : List ℕ → Step
  check : Said → Given → Given → Step

-- a load is no desk's call, and leaves the notes as they were
abbrev pub loading : State → List ℕ → Noted
loading x numbers = record { left = loaded x.image numbers; notes = x.notes }

abbrev pub checking : State → Said → Given → Noted
checking x said given = check_noted x.notes x.image x.numbers said given.frame given.output

-- ---- the two tests of what may differ

-- no rule is broken that comes before the check field
pub record BeforeField (x : State) (said : Said) (frame : List ℕ) : Type 0 where
  pub valid : ImageRules x.image
  pub agree : Agreeing x.image x.numbers
  pub desk : said.desk ≤ 2
  pub rules : FrameRules said frame 2

-- nor one that comes before the MAC, under entry e
pub record BeforeMac (x : State) (said : Said) (given : Given) (e : ℕ) : Type 0 where
  pub before : BeforeField x said given.frame
  pub field : RightField said given.frame
  pub serves : Serves x.image 2 said (spi_on said given.frame) given.frame e
  pub long :
      header_size said given.frame + security_size (service_at x.image e) + 1 + 16 + trailer_size said given.frame ≤ length given.frame
  pub room : length (text_on (service_at x.image e) said given.frame) ≤ length given.output

-- the MAC on a frame is the right one under entry e
abbrev pub RightMac : State → ℕ → Said → List ℕ → Type 0
RightMac x e said frame =
    right_mac (service_at x.image e) said (mask_at x.image e) (key_octets_at x.image e) frame ≡ mac_on said frame

abbrev pub SameWay : Type 0 → Type 0 → Type 0
SameWay here there = (here → there) × (there → here)

-- ---- a check in both

pub record Alike (x y : State) (said : Said) (here there : Given) : Type 0 where
  pub size : length there.frame ≡ length here.frame
  pub room : length there.output ≡ length here.output
  pub header : (j : ℕ) → j < header_size said here.frame → octet there.frame j ≡ octet here.frame j
  pub spi : spi_on said there.frame ≡ spi_on said here.frame
  -- number or IV, as the entry's service has it; where no entry serves the frame there is none
  pub field : (e : ℕ) → Serves x.image 2 said (spi_on said here.frame) here.frame e
      → field_on (service_at x.image e) said there.frame ≡ field_on (service_at x.image e) said here.frame
  pub check_field : BeforeField x said here.frame → SameWay (RightField said here.frame) (RightField said there.frame)
  pub mac : (e : ℕ) → BeforeMac x said here e → SameWay (RightMac x e said here.frame) (RightMac y e said there.frame)

-- ---- what is told of a call: the same in both

pub record SameTold (x y : Noted) : Type 0 where
  pub answer : y.left.answer ≡ x.left.answer
  pub size : y.left.length ≡ x.left.length
  pub stores : y.left.stores ≡ x.left.stores
  pub lasts : y.left.numbers ≡ x.left.numbers
  pub images : ButKeys x.left.image y.left.image
  -- reports, counts of the log, and its events
  pub notes : y.notes ≡ x.notes

-- after each step, as long as each check is alike in both
unfoldable pub Untold : State → State → List Step → Type 0
Untold x y [] = Unit {0}
Untold x y (load numbers ∷ steps) =
    let u = loading x numbers in
    let v = loading y numbers in
    SameTold u v × Untold (kept u) (kept v) steps
Untold x y (check said here there ∷ steps) =
    let u = checking x said here in
    let v = checking y said there in
    Alike x y said here there → SameTold u v × Untold (kept u) (kept v) steps

-- ---- the promise

abbrev pub Secrecy : Type 0
Secrecy =
    (x y : State) (steps : List Step) → Octets x.image → Octets y.image → ButKeys x.image y.image → y.numbers ≡ x.numbers
    → y.notes ≡ x.notes → Untold x y steps
