-- SP 800-38D, 5.2.1.1: the lengths that are allowed, len(P) ≤ 2^39 - 256 and len(A) ≤ 2^64 - 1, in bits. The lengths of octet strings are
-- multiples of 8. A ciphertext is as long as its plaintext, so it has the same limit.
-- Assumes nothing.
use Rattle.std.specs.Prelude.{ℕ, ◌-◌, ◌^◌, Bool, ◌||◌, List, ltb}
use Rattle.block.specs.Lengths.{len}

-- a plaintext or a ciphertext that is longer than allowed
unfoldable pub text_too_long : List ℕ → Bool
text_too_long p = ltb (2 ^ 39 - 256) (len p)

-- additional data or a text that is longer than allowed
unfoldable pub too_long : List ℕ → List ℕ → Bool
too_long a p = ltb (2 ^ 64 - 1) (len a) || text_too_long p
