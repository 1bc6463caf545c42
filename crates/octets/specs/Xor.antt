-- Exclusive-or, of numbers bit by bit and of lists octet by octet.
-- Assumes nothing.
use Rattle.std.specs.Prelude.{ℕ, List}
use Rattle.std.specs.Int.Bits.{bit_xor}
use Rattle.octets.specs.Lists.{octet, tab}

abbrev pub ◌⊕◌ : ℕ → ℕ → ℕ
a ⊕ b = bit_xor a b

infixl 60 ◌⊕◌
-- the first n octets of two lists, one by one
unfoldable pub xors : ℕ → List ℕ → List ℕ → List ℕ
xors n a b = tab n (λ j. octet a j ⊕ octet b j)
