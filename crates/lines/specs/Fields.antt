-- The fields of a line of text: a space or a line feed ends a field, and the next one begins behind it.
-- Assumes nothing.
use Rattle.std.specs.Prelude.{ℕ, zero, suc, Bool, ◌||◌, cond, List, [], ◌∷◌, eqb, take, drop}

-- 32 is the code of a space, 10 that of a line feed
abbrev pub ends_field : ℕ → Bool
ends_field c = eqb c 32 || eqb c 10

-- how many characters the first field of a text has
unfoldable pub field_length : List ℕ → ℕ
field_length [] = 0
field_length (c ∷ s) = cond (ends_field c) 0 (suc (field_length s))

-- field n of a text, counted from 0; one that the text lacks is empty
unfoldable pub field_of : ℕ → List ℕ → List ℕ
field_of zero s = take (field_length s) s
field_of (suc n) s = field_of n (drop (suc (field_length s)) s)
