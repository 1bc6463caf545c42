-- Document 02, request 9: the keys in one place. A key part stands at a place of the image and opens with the count of its keys; each key is
-- an ID of two octets, a state octet and 32 octets. The count is given, so that an image without a key part is one without keys.
-- Assumes nothing.
use Rattle.std.specs.Prelude.{ℕ, zero, suc, ◌+◌, ◌-◌, ◌*◌, Bool, true, cond, ◌&&◌, List, eqb, leb, ltb}
use Rattle.octets.specs.Lists.{octet, part, all}
use Rattle.octets.specs.Numbers.{number_at}
use Rattle.bodies.specs.Layout.{id_length, key_length}

-- ---- where key k stands, in a key part at a place

abbrev pub key_size : ℕ
key_size = id_length + 1 + key_length

abbrev pub most_keys : ℕ
most_keys = 64

abbrev pub key_place : ℕ → ℕ → ℕ
key_place at k = at + 1 + key_size * k

-- where its state and its octets stand
abbrev pub key_state_place : ℕ → ℕ → ℕ
key_state_place at k = key_place at k + id_length

abbrev pub key_octets_place : ℕ → ℕ → ℕ
key_octets_place at k = key_state_place at k + 1

-- the octets of a key part
abbrev pub part_size : ℕ → ℕ
part_size count = 1 + key_size * count

-- ---- what it holds

abbrev pub key_id_at : List ℕ → ℕ → ℕ → ℕ
key_id_at image at k = number_at (key_place at k) id_length image

abbrev pub key_state_at : List ℕ → ℕ → ℕ → ℕ
key_state_at image at k = octet image (key_state_place at k)

abbrev pub key_octets_at : List ℕ → ℕ → ℕ → List ℕ
key_octets_at image at k = part (key_octets_place at k) key_length image

-- the states, in their order
abbrev pub pre_active : ℕ
pre_active = 0

abbrev pub active : ℕ
active = 1

abbrev pub deactivated : ℕ
deactivated = 2

-- ---- a key by its ID

-- the first of the n keys from k on with an ID; where none has it, the number behind them
unfoldable pub key_from : List ℕ → ℕ → ℕ → ℕ → ℕ → ℕ
key_from image at id k zero = k
key_from image at id k (suc n) = cond (eqb (key_id_at image at k) id) k (key_from image at id (k + 1) n)

-- among that many keys; the count where none has the ID
unfoldable pub key_index : List ℕ → ℕ → ℕ → ℕ → ℕ
key_index image at count id = key_from image at id 0 count

abbrev pub has_key : List ℕ → ℕ → ℕ → ℕ → Bool
has_key image at count id = ltb (key_index image at count id) count

-- whether there is one with the ID, in that state
unfoldable pub key_in_state : List ℕ → ℕ → ℕ → ℕ → ℕ → Bool
key_in_state image at count state id = has_key image at count id && eqb (key_state_at image at (key_index image at count id)) state

-- the 32 octets under an ID. Where no key has it, those behind the last key, where an image ends: they read as 0
unfoldable pub key_under : List ℕ → ℕ → ℕ → ℕ → List ℕ
key_under image at count id = key_octets_at image at (key_index image at count id)

-- ---- the rules

-- the IDs rise, and each state is one that there is; the octets may be any
abbrev pub id_rises : List ℕ → ℕ → ℕ → Bool
id_rises image at k = cond (eqb k 0) true (ltb (key_id_at image at (k - 1)) (key_id_at image at k))

unfoldable pub key_ok : List ℕ → ℕ → ℕ → Bool
key_ok image at k = leb (key_state_at image at k) deactivated && id_rises image at k

unfoldable pub key_part_ok : List ℕ → ℕ → ℕ → Bool
key_part_ok image at count = leb count most_keys && all count (key_ok image at)
