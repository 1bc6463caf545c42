-- Document 01, 'The image', and document 02, request 9: a table of contents, the bodies, then the key part, if the version has one; where its
-- parts stand, and every rule of it as one test, answer 1.
-- Assumes nothing.
use Rattle.std.specs.Prelude.{ℕ, ◌+◌, ◌-◌, ◌*◌, Bool, cond, not, ◌&&◌, ◌||◌, List, eqb, leb, ltb, length}
use Rattle.octets.specs.Lists.{octet, part, all}
use Rattle.octets.specs.Numbers.{number_at}
use Rattle.bodies.specs.Body.{body_in, state_of, operational, key_id_of, mark_of, body_ok}
use Rattle.bodies.specs.Layout.{key_length, most_body, most_extra, version_four, layout_of, version_ok}
use Rattle.keys.specs.Keys.{active, most_keys, part_size, key_index, key_in_state, key_under, key_part_ok}
use Rattle.bodies.specs.declared.layout.Layout.{Layout}

-- ---- octets 0 and 1

abbrev pub version_of : List ℕ → ℕ
version_of image = octet image 0

-- how many entries the contents have, and how many they may have
abbrev pub count_of : List ℕ → ℕ
count_of image = octet image 1

abbrev pub most_entries : ℕ
most_entries = 32

-- ---- the contents: entries of four octets, SPI and position

abbrev pub entry_place : ℕ → ℕ
entry_place i = 2 + 4 * i

abbrev pub spi_of : List ℕ → ℕ → ℕ
spi_of image i = number_at (entry_place i) 2 image

abbrev pub position_of : List ℕ → ℕ → ℕ
position_of image i = number_at (entry_place i + 2) 2 image

-- ---- the bodies

abbrev pub layout : List ℕ → Layout
layout image = layout_of (version_of image)

-- where body i stands in an image of k entries: the bodies begin behind the contents
abbrev pub body_place : Layout → ℕ → ℕ → ℕ
body_place l k i = entry_place (k + l.extra) + l.body * i

-- no body stands behind this place, whatever octet counts the entries
abbrev pub farthest : ℕ
farthest = entry_place (255 + most_extra) + most_body * 255

unfoldable pub body_at : List ℕ → ℕ → ℕ
body_at image i = body_place (layout image) (count_of image) i

unfoldable pub body_of : List ℕ → ℕ → List ℕ
body_of image i = body_in image (version_of image) (body_at image i)

-- where the mark of entry i stands, and the mark
unfoldable pub mark_at : List ℕ → ℕ → ℕ
mark_at image i = body_at image i + (layout image).mark

unfoldable pub mark_in : List ℕ → ℕ → ℕ
mark_in image i = mark_of (version_of image) (body_of image i)

-- ---- the keys

-- where the key part stands, if there is one: behind the last body. It opens with the count of its keys; an image without one has none
unfoldable pub part_at : List ℕ → ℕ
part_at image = body_place (layout image) (count_of image) (count_of image)

unfoldable pub key_count : List ℕ → ℕ
key_count image = cond (layout image).keys (octet image (part_at image)) 0

-- the index of the key with an ID, and the count where none has it; and whether it is in a state
abbrev pub key_with : List ℕ → ℕ → ℕ
key_with image id = key_index image (part_at image) (key_count image) id

abbrev pub key_in : List ℕ → ℕ → ℕ → Bool
key_in image state id = key_in_state image (part_at image) (key_count image) state id

-- the ID that entry i names
abbrev pub key_id_in : List ℕ → ℕ → ℕ
key_id_in image i = key_id_of (version_of image) (body_of image i)

-- the key of entry i: that of the key part which its body names, or the one in its body
unfoldable pub key_of : List ℕ → ℕ → List ℕ
key_of image i =
    cond (layout image).keys (key_under image (part_at image) (key_count image) (key_id_in image i))
    (part (body_at image i + (layout image).key) key_length image)

-- ---- the rules

-- the image ends behind the key part, or behind the last body
unfoldable pub image_size : List ℕ → ℕ
image_size image = part_at image + cond (layout image).keys (part_size (key_count image)) 0

-- the longest image of a layout, with as many entries and keys as there may be; version 4's is the longest of all
abbrev pub longest : Layout → ℕ
longest l = body_place l most_entries most_entries + cond l.keys (part_size most_keys) 0

abbrev pub longest_image : ℕ
longest_image = longest version_four

-- version, count, and exactly the size that they ask for
unfoldable pub laid_out : List ℕ → Bool
laid_out image =
    version_ok (version_of image)
    && leb (count_of image) most_entries
    && eqb (length image) (image_size image)

-- the SPI of the entry before, and 0 before the first
abbrev pub spi_before : List ℕ → ℕ → ℕ
spi_before image i = cond (eqb i 0) 0 (spi_of image (i - 1))

-- an SPI from 1 to 65,534 above the one before, and the position of the entry's body
unfoldable pub entry_ok : List ℕ → ℕ → Bool
entry_ok image i =
    leb 1 (spi_of image i)
    && leb (spi_of image i) 65534
    && ltb (spi_before image i) (spi_of image i)
    && eqb (position_of image i) (body_at image i)

-- the entry of the contents that is outside the count: it names the key part
abbrev pub part_spi : ℕ
part_spi = 65535

abbrev pub last_ok : List ℕ → Bool
last_ok image = eqb (spi_of image (count_of image)) part_spi && eqb (position_of image (count_of image)) (part_at image)

-- an operational body names a key that is active; another may name any ID
abbrev pub keyed_ok : List ℕ → ℕ → Bool
keyed_ok image i = not (eqb (state_of (body_of image i)) operational) || key_in image active (key_id_in image i)

-- what a version with a key part asks for
unfoldable pub keys_ok : List ℕ → Bool
keys_ok image =
    not (layout image).keys
    || (last_ok image && key_part_ok image (part_at image) (key_count image) && all (count_of image) (keyed_ok image))

unfoldable pub valid_image : List ℕ → Bool
valid_image image = laid_out image && all (count_of image) (λ i. entry_ok image i && body_ok (version_of image) (body_of image i)) && keys_ok image
