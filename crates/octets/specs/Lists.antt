-- Lists of octets: the octet at a place, and a list by rule.
-- Assumes nothing.
use Rattle.std.specs.Prelude.{◌≡◌, ℕ, zero, suc, ◌+◌, ◌<◌, Bool, true, ◌&&◌, List, [], ◌∷◌, ◌++◌, get_or}

-- the octet at place i, counted from 0; past the end it reads as 0
abbrev pub octet : List ℕ → ℕ → ℕ
octet s i = get_or s i 0

-- the list f 0, f 1, .., f (n - 1)
unfoldable pub tab : ℕ → (ℕ → ℕ) → List ℕ
tab zero f = []
tab (suc n) f = tab n f ++ (f n ∷ [])

-- the n octets at a place and behind it; past the list's end they read as 0
unfoldable pub part : ℕ → ℕ → List ℕ → List ℕ
part at n s = tab n (λ j. octet s (at + j))

-- whether a test passes at every number below n
unfoldable pub all : ℕ → (ℕ → Bool) → Bool
all zero test = true
all (suc n) test = all n test && test n

-- the first n entries of the table t are those of a rule
pub record IsTable (n : ℕ) (rule : ℕ → ℕ) (t : List ℕ) : Type 0 where
  pub entry : (k : ℕ) → k < n → octet t k ≡ rule k

-- every number of the list is an octet
abbrev pub Octets : List ℕ → Type 0
Octets s = (i : ℕ) → octet s i < 256
