-- Text as octets: the codes of a text's characters, a number in decimal, and texts end to end.
-- Assumes nothing.
use Prim.Native.Char.{code}
use Rattle.std.specs.Prelude.{ℕ, zero, suc, ◌+◌, ◌/◌, ◌%◌, cond, List, [], ◌∷◌, ◌++◌, ltb}
use Prim.Native.String.{String, [] as end, ◌∷◌ as ◌then◌}

-- the codes of its characters, which are ASCII here
abbrev pub ascii : String → List ℕ
ascii end = []
ascii (c then s) = code c ∷ ascii s

-- n in decimal, where it has at most so many digits: the digits of n / 10, unless that is 0, and then the digit n % 10; 48 is the code of 0
unfoldable pub digits : ℕ → ℕ → List ℕ
digits zero n = []
digits (suc most) n = cond (ltb n 10) [] (digits most (n / 10)) ++ ((48 + n % 10) ∷ [])

-- a number below 10 ^ 10, as every one is that the module writes
abbrev pub decimal : ℕ → List ℕ
decimal n = digits 10 n

-- the texts f 0, f 1, .., f (n - 1) end to end
unfoldable pub end_to_end : ℕ → (ℕ → List ℕ) → List ℕ
end_to_end zero f = []
end_to_end (suc n) f = end_to_end n f ++ f n
