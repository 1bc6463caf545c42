-- Document 01, 'The image', and document 02, requests 2, 9 and 10: where everything of an image stands. What differs from version to version is one
-- record for each version, and nothing else names its numbers; what every version has stands at the same places in each.
-- Assumes nothing.
use Rattle.std.specs.Prelude.{ℕ, ◌+◌, ◌≤◌, ◌<◌, ◌≡◌, Bool, true, false, cond, eqb}
use Rattle.marks.specs.Gray.{code_length}
use Rattle.bodies.specs.declared.layout.Layout.{Layout}

-- ---- the first octets of a body: the fields that every version has, where each begins

abbrev pub service_place : ℕ
service_place = 0

abbrev pub kind_place : ℕ
kind_place = 1

abbrev pub direction_place : ℕ
direction_place = 2

abbrev pub state_place : ℕ
state_place = 3

abbrev pub spacecraft_place : ℕ
spacecraft_place = 4

abbrev pub channel_place : ℕ
channel_place = 6

abbrev pub map_place : ℕ
map_place = 7

abbrev pub window_place : ℕ
window_place = 8

abbrev pub mask_place : ℕ
mask_place = 10

abbrev pub mask_length : ℕ
mask_length = 6

-- where they end
abbrev pub fields_end : ℕ
fields_end = 16

-- ---- the versions

-- the octets of a key, and those of the ID by which a body names one
abbrev pub key_length : ℕ
key_length = 32

abbrev pub id_length : ℕ
id_length = 2

-- the version's number; the octets of a body, and where in it key and mark stand; the entries that the contents have beyond the count;
-- whether a TM body holds a set of channels in place of one; whether the keys stand in a part of their own, behind the bodies, so that a
-- body holds a key's ID in place of the key; and whether an octet behind the mark holds the body's owner
abbrev pub version_one : Layout
version_one = record { version = 1; body = 52; key = 16; mark = 48; extra = 0; sets = false; keys = false; owners = false }

abbrev pub version_two : Layout
version_two = record { version = 2; body = 52; key = 16; mark = 48; extra = 0; sets = true; keys = false; owners = false }

abbrev pub version_three : Layout
version_three = record { version = 3; body = 22; key = 16; mark = 18; extra = 1; sets = true; keys = true; owners = false }

abbrev pub version_four : Layout
version_four = record { version = 4; body = 23; key = 16; mark = 18; extra = 1; sets = true; keys = true; owners = true }

-- the layout by which an image is read: its version's, and for an image of no version that there is, version 1's
unfoldable pub layout_of : ℕ → Layout
layout_of version =
    cond (eqb version 4) version_four (cond (eqb version 3) version_three (cond (eqb version 2) version_two version_one))

-- there is a version if it has a layout of its own
abbrev pub version_ok : ℕ → Bool
version_ok version = eqb version (layout_of version).version

-- ---- what a proof may use of a layout

-- what a body holds of its key: the key, or its ID
abbrev pub key_width : Layout → ℕ
key_width l = cond l.keys id_length key_length

-- where the owner stands, in a version that has it: behind the mark
abbrev pub owner_place : Layout → ℕ
owner_place l = l.mark + code_length

-- no body is longer, and no contents have more entries beyond the count
abbrev pub most_body : ℕ
most_body = 64

abbrev pub most_extra : ℕ
most_extra = 1

-- fields, key, mark and owner stand in this order in the body, no place is large, and the contents have an entry for a key part
pub record Lawful (l : Layout) : Type 0 where
  pub key : fields_end ≤ l.key
  pub mark : l.key + key_width l ≤ l.mark
  pub inside : l.mark + code_length ≤ l.body
  pub owner : l.owners ≡ true → owner_place l < l.body
  pub small : l.body ≤ most_body
  pub few : l.extra ≤ most_extra
  pub entry : l.keys ≡ true → 1 ≤ l.extra
