-- Document 02, request 9: the inventory of a key part, as in source document 003: how many of its keys have an ID from a first one to a last
-- one, then ID and state of each of them. They stand there with rising IDs, and so they do here. Where the first ID is above the last, none
-- lies between.
-- Assumes nothing.
use Rattle.std.specs.Prelude.{ℕ, zero, suc, ◌+◌, Bool, cond, ◌&&◌, List, [], ◌∷◌, ◌++◌, leb}
use Rattle.octets.specs.Numbers.{bytes}
use Rattle.bodies.specs.Layout.{id_length}
use Rattle.keys.specs.Keys.{key_id_at, key_state_at}
use Rattle.writing.specs.Text.{end_to_end}

-- whether the ID of key k is one from the first to the last, both included
abbrev pub between : List ℕ → ℕ → ℕ → ℕ → ℕ → Bool
between image at first last k = leb first (key_id_at image at k) && leb (key_id_at image at k) last

-- how many of the numbers 0 to n - 1 pass a test
unfoldable pub passing : ℕ → (ℕ → Bool) → ℕ
passing zero test = 0
passing (suc n) test = passing n test + cond (test n) 1 0

-- what is told of a key: ID and state
abbrev pub told_of : List ℕ → ℕ → ℕ → List ℕ
told_of image at k = bytes id_length (key_id_at image at k) ++ (key_state_at image at k ∷ [])

-- and nothing of one whose ID is not between
abbrev pub told_between : List ℕ → ℕ → ℕ → ℕ → ℕ → List ℕ
told_between image at first last k = cond (between image at first last k) (told_of image at k) []

abbrev pub total_length : ℕ
total_length = 2

-- of a key part at a place, with that many keys
unfoldable pub inventory : List ℕ → ℕ → ℕ → ℕ → ℕ → List ℕ
inventory image at count first last =
    bytes total_length (passing count (between image at first last)) ++ end_to_end count (told_between image at first last)
