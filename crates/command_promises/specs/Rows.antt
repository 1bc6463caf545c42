-- Document 02, requests 5 and 9, in the octets of a command: what each tag asks, to be laid beside the tables of commands. The promises name
-- a command in these words and not in those of the definitions that they are about. A tag is one row, and what is promised is stated once over
-- any. A command is a tag, a length of two octets and a value; the SPI stands in octets 3 and 4, and what else there is from octet 5 on. A
-- command that names a key and no association has the key's ID in octets 3 and 4.
-- Assumes nothing.
use Rattle.std.specs.Prelude.{ℕ, zero, suc, ◌+◌, ◌*◌, ◌≤◌, ◌<◌, ◌≢◌, ◌≡◌, Bool, true, false, cond, ◌&&◌, List, eqb, leb, length}
use Rattle.octets.specs.Numbers.{number_at}
use Rattle.promises.specs.Images.{shape_in, count_in, spi_at, kind_at, state_at, spacecraft_at, map_at, window_at, key_id_at, last_at, ServesChannel, InWindow}
use Rattle.promises.specs.Images.{key_count_in, id_of_key, KeyThere, KeyInState, Sees}

pub record Row : Type 1 where
  -- the octets of the whole command
  pub Size : ℕ → Type 0
  -- whether it names an association
  pub names : Bool
  -- the state of the entry that it names
  pub State : ℕ → Type 0
  -- image, numbers, command and entry
  pub Value : List ℕ → List ℕ → List ℕ → ℕ → Type 0
  -- image, command and entry: whether its key is there, and in the right state
  pub Known : List ℕ → List ℕ → ℕ → Type 0
  pub Ready : List ℕ → List ℕ → ℕ → Type 0
  -- image and command: the octets of the reply
  pub reply : List ℕ → List ℕ → ℕ

-- ---- the entry that a command of a desk names

pub record Names (image : List ℕ) (desk : ℕ) (command : List ℕ) (e : ℕ) : Type 0 where
  pub entry : e < count_in image
  pub spi : spi_at image e ≡ number_at 3 2 command
  pub seen : Sees image desk e

-- ---- what several have in common

abbrev pub any_state : ℕ → Type 0
any_state state = Unit {0}

abbrev pub any_value : List ℕ → List ℕ → List ℕ → ℕ → Type 0
any_value image numbers command e = Unit {0}

abbrev pub no_key : List ℕ → List ℕ → ℕ → Type 0
no_key image command e = Unit {0}

abbrev pub no_reply : List ℕ → List ℕ → ℕ
no_reply image command = 0

-- the ID of a key, of a command that names a key and no association
abbrev pub key_named : List ℕ → ℕ
key_named command = number_at 3 2 command

-- the key of an association, where the image has a key part: it is there, and active
abbrev pub NeedsKey : List ℕ → ℕ → Type 0
NeedsKey image id = (shape_in image).key_part ≡ true → KeyThere image id

abbrev pub NeedsActive : List ℕ → ℕ → Type 0
NeedsActive image id = (shape_in image).key_part ≡ true → KeyInState image id 1

-- ---- start: a channel is four octets, those of entry e

-- by kind 18 bits, 24, 15 and, behind version bits 01, 14; the bits before them are 0
pub record IsChannel (image : List ℕ) (e name : ℕ) : Type 0 where
  pub channel : ℕ
  pub served : ServesChannel image e channel
  pub plain : kind_at image e ≡ 1 → name ≡ spacecraft_at image e * 64 + channel
  pub segmented : kind_at image e ≡ 2 → name ≡ (spacecraft_at image e * 64 + channel) * 64 + map_at image e
  pub telemetry : kind_at image e ≡ 3 → name ≡ spacecraft_at image e * 8 + channel
  pub aos : kind_at image e ≡ 4 → name ≡ 0x4000 + spacecraft_at image e * 64 + channel

pub record StartValue (image numbers command : List ℕ) (e : ℕ) : Type 0 where
  pub channels : (i : ℕ) → 5 + 4 * i + 4 ≤ length command → IsChannel image e (number_at (5 + 4 * i) 4 command)
  pub window : (1 ≤ window_at image e) × (window_at image e ≤ 1024)

-- one or more of them
pub record StartSize (size : ℕ) : Type 0 where
  pub channels : ℕ
  pub some : 1 ≤ channels
  pub whole : size ≡ 5 + 4 * channels

abbrev pub start_row : Row
start_row =
    record {
      Size = StartSize;
      names = true;
      State = λ state. state ≡ 1;
      Value = StartValue;
      Known = λ image command e. NeedsKey image (key_id_at image e);
      Ready = λ image command e. NeedsActive image (key_id_at image e);
      reply = no_reply;
    }

-- ---- stop, expire, rekey: the SPI alone, and for a rekey a key ID, which is 0 where the image has no key part, and a number, which is 0

abbrev pub moving_row : (ℕ → Type 0) → Row
moving_row state =
    record { Size = λ size. size ≡ 5; names = true; State = state; Value = any_value; Known = no_key; Ready = no_key; reply = no_reply }

abbrev pub stop_row : Row
stop_row = moving_row (λ state. state ≡ 2)

abbrev pub expire_row : Row
expire_row = moving_row (λ state. state ≡ 1)

abbrev pub rekey_row : Row
rekey_row =
    record {
      Size = λ size. size ≡ 19;
      names = true;
      State = λ state. state ≡ 0;
      Value = λ image numbers command e. ((shape_in image).key_part ≡ false → number_at 5 2 command ≡ 0) × (number_at 7 12 command ≡ 0);
      Known = λ image command e. NeedsKey image (number_at 5 2 command);
      Ready = λ image command e. NeedsActive image (number_at 5 2 command);
      reply = no_reply;
    }

-- ---- set number, and set window

abbrev pub set_number_row : Row
set_number_row =
    record {
      Size = λ size. size ≡ 17;
      names = true;
      State = any_state;
      Value = λ image numbers command e. InWindow (last_at numbers e) 1024 (number_at 5 12 command);
      Known = no_key;
      Ready = no_key;
      reply = no_reply;
    }

abbrev pub set_window_row : Row
set_window_row =
    record {
      Size = λ size. size ≡ 7;
      names = true;
      State = λ state. state ≢ 2;
      Value = λ image numbers command e. (1 ≤ number_at 5 2 command) × (number_at 5 2 command ≤ 1024);
      Known = no_key;
      Ready = no_key;
      reply = no_reply;
    }

-- ---- status, read number and ping: they have replies

abbrev pub asking_row : ℕ → Bool → ℕ → Row
asking_row size names reply =
    record { Size = λ n. n ≡ size; names = names; State = any_state; Value = any_value; Known = no_key; Ready = no_key; reply = λ image command. reply }

abbrev pub status_row : Row
status_row = asking_row 5 true 6

abbrev pub read_number_row : Row
read_number_row = asking_row 5 true 17

abbrev pub ping_row : Row
ping_row = asking_row 3 false 3

-- ---- activation and deactivation: a key's ID alone, and the key is pre-active, or active and named by no operational body

abbrev pub key_row : (List ℕ → ℕ → Type 0) → Row
key_row ready =
    record {
      Size = λ size. size ≡ 5;
      names = false;
      State = any_state;
      Value = any_value;
      Known = λ image command e. KeyThere image (key_named command);
      Ready = λ image command e. ready image (key_named command);
      reply = no_reply;
    }

pub record Serving (image : List ℕ) (id i : ℕ) : Type 0 where
  pub entry : i < count_in image
  pub state : state_at image i ≡ 2
  pub key : key_id_at image i ≡ id

abbrev pub activation_row : Row
activation_row = key_row (λ image id. KeyInState image id 0)

abbrev pub deactivation_row : Row
deactivation_row = key_row (λ image id. KeyInState image id 1 × ((i : ℕ) → Serving image id i → ⊥))

-- ---- inventory: a first and a last ID. The reply has two octets for how many keys have an ID from the one to the other, and three for each

abbrev pub is_between : List ℕ → ℕ → ℕ → ℕ → Bool
is_between image first last k = leb first (id_of_key image k) && leb (id_of_key image k) last

-- of the first n keys
unfoldable pub keys_between : List ℕ → ℕ → ℕ → ℕ → ℕ
keys_between image first last zero = 0
keys_between image first last (suc n) = keys_between image first last n + cond (is_between image first last n) 1 0

abbrev pub first_named : List ℕ → ℕ
first_named command = number_at 3 2 command

abbrev pub last_named : List ℕ → ℕ
last_named command = number_at 5 2 command

abbrev pub inventory_row : Row
inventory_row =
    record {
      Size = λ size. size ≡ 7;
      names = false;
      State = any_state;
      Value = any_value;
      Known = no_key;
      Ready = no_key;
      reply = λ image command. 5 + 3 * keys_between image (first_named command) (last_named command) (key_count_in image);
    }

-- ---- no row: no size is right

abbrev pub no_row : Row
no_row = record { Size = λ size. ⊥; names = false; State = any_state; Value = any_value; Known = no_key; Ready = no_key; reply = no_reply }

-- ---- the row of a tag

unfoldable pub row_of : ℕ → Row
row_of tag =
    cond (eqb tag 0x1B) start_row
    (cond (eqb tag 0x1E) stop_row
    (cond (eqb tag 0x16) rekey_row
    (cond (eqb tag 0x19) expire_row
    (cond (eqb tag 0x1A) set_number_row
    (cond (eqb tag 0x15) set_window_row
    (cond (eqb tag 0x1F) status_row
    (cond (eqb tag 0x10) read_number_row
    (cond (eqb tag 0x31) ping_row
    (cond (eqb tag 0x02) activation_row
    (cond (eqb tag 0x03) deactivation_row
    (cond (eqb tag 0x07) inventory_row no_row)))))))))))
