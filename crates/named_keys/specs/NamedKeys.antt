-- Document 02, request 9: a key that is named by its ID, in an image: whether it is there, whether it is active, and whether an operational
-- body names it.
-- Assumes nothing.
use Rattle.std.specs.Prelude.{ℕ, Bool, not, ◌&&◌, ◌||◌, List, eqb, ltb}
use Rattle.octets.specs.Lists.{all}
use Rattle.bodies.specs.Body.{state_of, operational}
use Rattle.keys.specs.Keys.{active}
use Rattle.image.specs.Image.{count_of, layout, body_of, key_count, key_with, key_in, key_id_in}

abbrev pub has_key : List ℕ → ℕ → Bool
has_key image id = ltb (key_with image id) (key_count image)

-- where the version has a key part, the key of an association is there, and active; a version without one has it in the body
abbrev pub key_there : List ℕ → ℕ → Bool
key_there image id = not (layout image).keys || has_key image id

abbrev pub key_active : List ℕ → ℕ → Bool
key_active image id = not (layout image).keys || key_in image active id

-- no operational body names it
abbrev pub idle_at : List ℕ → ℕ → ℕ → Bool
idle_at image id i = not (eqb (state_of (body_of image i)) operational && eqb (key_id_in image i) id)

unfoldable pub unserved : List ℕ → ℕ → Bool
unserved image id = all (count_of image) (idle_at image id)

-- active, and no operational body names it
abbrev pub freed : List ℕ → ℕ → Bool
freed image id = key_in image active id && unserved image id
