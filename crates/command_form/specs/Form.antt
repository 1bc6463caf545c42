-- Document 02, requests 5 and 9: the form of a command and of a reply: a tag of one octet, a length of two, and a value. The length field holds how
-- many octets stand behind it. A reply's tag is the command's with the first bit set.
-- Assumes nothing.
use Rattle.std.specs.Prelude.{ℕ, ◌+◌, Bool, ◌&&◌, List, ◌∷◌, ◌++◌, eqb, leb, length, drop}
use Rattle.octets.specs.Lists.{octet}
use Rattle.octets.specs.Numbers.{number_at, bytes}

-- ---- a command

-- the octets before the value: tag and length field
abbrev pub front_length : ℕ
front_length = 3

abbrev pub tag_of : List ℕ → ℕ
tag_of command = octet command 0

abbrev pub value_of : List ℕ → List ℕ
value_of command = drop front_length command

-- the unit of the length field is an octet; no octet is missing, and none trails
abbrev pub measured : List ℕ → Bool
measured command = leb front_length (length command) && eqb (number_at 1 2 command) (length (value_of command))

-- ---- the fields of a value

-- every value that names an association starts with its SPI
abbrev pub spi_length : ℕ
spi_length = 2

abbrev pub spi_named : List ℕ → ℕ
spi_named value = number_at 0 spi_length value

-- behind it: a window, a key's ID, channels, or a number, which has twelve octets, as in the security header of service 2
abbrev pub window_length : ℕ
window_length = 2

abbrev pub window_asked : List ℕ → ℕ
window_asked value = number_at spi_length window_length value

abbrev pub key_id_length : ℕ
key_id_length = 2

abbrev pub key_asked : List ℕ → ℕ
key_asked value = number_at spi_length key_id_length value

-- a value that names a key and no association starts with the key's ID
abbrev pub key_named : List ℕ → ℕ
key_named value = number_at 0 key_id_length value

-- an inventory names a first ID and a last one
abbrev pub first_named : List ℕ → ℕ
first_named value = number_at 0 key_id_length value

abbrev pub last_named : List ℕ → ℕ
last_named value = number_at key_id_length key_id_length value

abbrev pub channel_length : ℕ
channel_length = 4

abbrev pub number_length : ℕ
number_length = 12

abbrev pub number_asked : List ℕ → ℕ
number_asked value = number_at spi_length number_length value

-- a rekey has its number behind the key's ID
abbrev pub number_behind_key : List ℕ → ℕ
number_behind_key value = number_at (spi_length + key_id_length) number_length value

-- ---- a reply to a command with that tag

abbrev pub reply_tag : ℕ → ℕ
reply_tag tag = 128 + tag

abbrev pub reply_to : ℕ → List ℕ → List ℕ
reply_to tag value = reply_tag tag ∷ (bytes 2 (length value) ++ value)
