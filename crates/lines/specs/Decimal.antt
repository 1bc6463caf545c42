-- Numbers in decimal, of at most 64 bits.
-- Assumes nothing.
use Rattle.std.specs.Prelude.{ℕ, ◌+◌, ◌*◌, ◌-◌, cond, List, [], ◌∷◌, leb, ltb, Option, Some, None, option_and_then}

-- a number with one digit more, where the character is one, from 48 to 57, and 64 bits hold the number
abbrev pub longer_by : ℕ → ℕ → Option ℕ
longer_by n c =
    cond (ltb c 48) None
    (cond (ltb 57 c) None
    (cond (leb (10 * n + (c - 48)) 18446744073709551615) (Some (10 * n + (c - 48))) None))

-- the number that is made from n by putting the digits of a text behind it
unfoldable pub spelled_after : ℕ → List ℕ → Option ℕ
spelled_after n [] = Some n
spelled_after n (c ∷ s) = option_and_then (λ m. spelled_after m s) (longer_by n c)

-- the number that a text spells; an empty text spells none
unfoldable pub spelled : List ℕ → Option ℕ
spelled [] = None
spelled (c ∷ s) = spelled_after 0 (c ∷ s)
