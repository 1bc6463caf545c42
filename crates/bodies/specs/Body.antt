-- Document 01, 'The image', and document 02, requests 2, 5, 9 and 10: the body of an entry, what its octets hold and what is allowed there. Octets
-- are counted from the body's first. A field whose place, size or rule depends on the image's version is given it.
-- Assumes nothing.
use Rattle.std.specs.Prelude.{ℕ, ◌^◌, Bool, false, cond, not, ◌&&◌, ◌||◌, List, eqb, leb, ltb, Option, Some, None}
use Rattle.octets.specs.Lists.{octet, part}
use Rattle.octets.specs.Numbers.{number_at}
use Rattle.kinds.specs.Kinds.{Kind, kind_is, named}
use Rattle.kinds.specs.declared.kinds.Kind as code
use Rattle.marks.specs.Gray.{code_length, ungray}
use Rattle.bodies.specs.Layout.{service_place, kind_place, direction_place, state_place, spacecraft_place, channel_place, map_place, window_place}
use Rattle.bodies.specs.Layout.{mask_place, mask_length, id_length, owner_place, layout_of}

-- ---- what it holds

-- the body at a place, of an image of that version
unfoldable pub body_in : List ℕ → ℕ → ℕ → List ℕ
body_in image version at = part at (layout_of version).body image

abbrev pub service_of : List ℕ → ℕ
service_of body = octet body service_place

-- the number of the frame kind
abbrev pub kind_in : List ℕ → ℕ
kind_in body = octet body kind_place

abbrev pub direction_of : List ℕ → ℕ
direction_of body = octet body direction_place

abbrev pub state_of : List ℕ → ℕ
state_of body = octet body state_place

abbrev pub spacecraft_of : List ℕ → ℕ
spacecraft_of body = number_at spacecraft_place 2 body

-- the virtual channel, or a set of them
abbrev pub channel_of : List ℕ → ℕ
channel_of body = octet body channel_place

-- whether it is a set: of a TM body, where the version has sets
abbrev pub holds_set : ℕ → List ℕ → Bool
holds_set version body = (layout_of version).sets && eqb (kind_in body) 3

abbrev pub map_of : List ℕ → ℕ
map_of body = octet body map_place

abbrev pub window_of : List ℕ → ℕ
window_of body = number_at window_place 2 body

abbrev pub mask_of : List ℕ → List ℕ
mask_of body = part mask_place mask_length body

-- the ID of its key, where the version has a key part
abbrev pub key_id_of : ℕ → List ℕ → ℕ
key_id_of version body = number_at (layout_of version).key id_length body

abbrev pub code_of : ℕ → List ℕ → ℕ
code_of version body = number_at (layout_of version).mark code_length body

abbrev pub mark_of : ℕ → List ℕ → ℕ
mark_of version body = ungray (code_of version body)

-- the desks: the key office's, and those to which bodies belong, from the first to the last
abbrev pub key_office : ℕ
key_office = 0

abbrev pub first_desk : ℕ
first_desk = 1

abbrev pub last_desk : ℕ
last_desk = 2

-- the desk to which it belongs; in a version that has no owners, the first
abbrev pub owner_of : ℕ → List ℕ → ℕ
owner_of version body = cond (layout_of version).owners (octet body (owner_place (layout_of version))) first_desk

-- ---- what is allowed

abbrev pub service_ok : List ℕ → Bool
service_ok body = leb 1 (service_of body) && leb (service_of body) 2

abbrev pub direction_ok : List ℕ → Bool
direction_ok body = leb 1 (direction_of body) && leb (direction_of body) 2

-- the states, in their order
abbrev pub unkeyed : ℕ
unkeyed = 0

abbrev pub keyed : ℕ
keyed = 1

-- the one in which an association serves
abbrev pub operational : ℕ
operational = 2

abbrev pub state_ok : List ℕ → Bool
state_ok body = leb (state_of body) operational

-- a set of virtual channels is not empty; one channel is, for a kind of frame, at most what it allows
abbrev pub channel_ok : ℕ → Kind → List ℕ → Bool
channel_ok version kind body = cond (holds_set version body) (leb 1 (channel_of body)) (leb (channel_of body) kind.most_channel)

-- the mask: where it is longer than what it covers of a header, the octet behind that is 0
abbrev pub mask_ok : Kind → List ℕ → Bool
mask_ok kind body = leb mask_length kind.under_mask || eqb (octet (mask_of body) kind.under_mask) 0

-- the kind's number names one; spacecraft, virtual channels and MAP are what it allows, and the mask covers its header alone
abbrev pub kind_ok : ℕ → Option code.Kind → List ℕ → Bool
kind_ok version (Some k) body =
    leb (spacecraft_of body) (kind_is k).most_spacecraft
    && channel_ok version (kind_is k) body
    && leb (map_of body) (kind_is k).most_map
    && mask_ok (kind_is k) body
kind_ok version None body = false

-- a window with which an association may serve
abbrev pub most_window : ℕ
most_window = 1024

abbrev pub window_fits : ℕ → Bool
window_fits window = leb 1 window && leb window most_window

-- Request 5: of a body that is operational. In another the window may be any, since a command that changes it stores its two octets one
-- after the other, and a cut between them leaves one new and one old
abbrev pub window_ok : List ℕ → Bool
window_ok body = not (eqb (state_of body) operational) || window_fits (window_of body)

abbrev pub mark_ok : ℕ → List ℕ → Bool
mark_ok version body = ltb (mark_of version body) (2 ^ 26)

abbrev pub owner_ok : ℕ → List ℕ → Bool
owner_ok version body = leb first_desk (owner_of version body) && leb (owner_of version body) last_desk

-- every rule of a body; the key may be any, and so may be the ID of one
unfoldable pub body_ok : ℕ → List ℕ → Bool
body_ok version body =
    service_ok body
    && direction_ok body
    && state_ok body
    && kind_ok version (named (kind_in body)) body
    && window_ok body
    && mark_ok version body
    && owner_ok version body
