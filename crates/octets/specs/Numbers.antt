-- Big-endian numbers: a list of octets as a number, and a number as octets, the highest first.
-- Assumes nothing.
use Rattle.std.specs.Prelude.{ℕ, zero, suc, ◌+◌, ◌*◌, ◌/◌, ◌%◌, ◌^◌, List, [], ◌∷◌, drop}
use Rattle.octets.specs.Lists.{octet}

-- the number that the first k octets make; past the list's end they read as 0
unfoldable pub number : ℕ → List ℕ → ℕ
number zero s = 0
number (suc k) s = number k s * 256 + octet s k

-- the number that the k octets at a place make
abbrev pub number_at : ℕ → ℕ → List ℕ → ℕ
number_at at k s = number k (drop at s)

-- the k low octets of a number
unfoldable pub bytes : ℕ → ℕ → List ℕ
bytes zero n = []
bytes (suc k) n = n / 256 ^ k % 256 ∷ bytes k n
