-- Octets in hexadecimal: two digits for each, in lower case.
-- Assumes nothing.
use Rattle.std.specs.Prelude.{◌≡◌, ℕ, ◌+◌, ◌*◌, ◌-◌, min, cond, List, [], ◌∷◌, ◌++◌, leb, ltb, length, take, drop, Option, Some, None, option_map, option_and_then}
use Rattle.std.specs.Counts.{IsPrefixLen}

-- the value of a digit: 0 to 9 are the codes from 48 on, a to f those from 97 on; none where the character is no digit
abbrev pub digit_of : ℕ → Option ℕ
digit_of c = cond (ltb c 48) None (cond (leb c 57) (Some (c - 48)) (cond (ltb c 97) None (cond (leb c 102) (Some (c - 87)) None)))

-- the octet that two digits spell; none where a character is no digit
abbrev pub octet_of : ℕ → ℕ → Option ℕ
octet_of high low = option_and_then (λ h. option_map (λ l. 16 * h + l) (digit_of low)) (digit_of high)

-- an octet before those that follow it, and none at all where there is none
abbrev pub then_octets : Option ℕ → List ℕ → List ℕ
then_octets None s = []
then_octets (Some x) s = x ∷ s

-- the octets that a text spells, up to its first two characters that spell none
unfoldable pub octets_of : List ℕ → List ℕ
octets_of [] = []
octets_of (c ∷ []) = []
octets_of (c ∷ d ∷ s) = then_octets (octet_of c d) (octets_of s)

-- n octets of a text were read to the front of a list, as many as it spells and as there is room for; the list's others stay
pub record Read (text before after : List ℕ) (n : ℕ) : Type 0 where
  pub many : n ≡ min (length before) (length (octets_of text))
  pub front : after ≡ take n (octets_of text) ++ drop n before
  pub counts : IsPrefixLen n after
