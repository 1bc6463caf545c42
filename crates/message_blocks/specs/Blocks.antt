-- NIST SP 800-38B, 6.2, steps 2 to 4: the blocks of a message M, for a cipher of 16 octets a block. The bit length Mlen is eight times the
-- number of octets of M.
-- Assumes nothing.
use Rattle.std.specs.Prelude.{ℕ, ◌+◌, ◌-◌, ◌*◌, ◌/◌, cond, List, ◌∷◌, ◌++◌, eqb, length, take, drop}
use Rattle.octets.specs.Xor.{xors}
use Rattle.subkeys.specs.Subkeys.{zeros}

-- step 2: n, which is 1 for the empty message, and else the number of blocks, rounded up
unfoldable pub block_count : ℕ → ℕ
block_count octets = cond (eqb octets 0) 1 ((octets + 15) / 16)

-- step 3: the blocks that M is cut into, counted from 1: M_1 .. M_(n-1), which are complete, and M_n*, which may be short or empty
unfoldable pub part_of : List ℕ → ℕ → List ℕ
part_of m i = take 16 (drop (16 * (i - 1)) m)

-- a short block filled: its octets, a bit 1, and bits 0 to the end of the block, M_n* || 10^j
unfoldable pub padded : List ℕ → List ℕ
padded rest = rest ++ (0b10000000 ∷ zeros (15 - length rest))

-- step 4: M_n, from the subkeys K1 and K2 and from M_n*
unfoldable pub last_block : List ℕ → List ℕ → List ℕ → List ℕ
last_block first second rest = cond (eqb (length rest) 16) (xors 16 first rest) (xors 16 second (padded rest))

-- M_i, for i from 1 to n, from the subkeys and M
unfoldable pub block : List ℕ → List ℕ → List ℕ → ℕ → List ℕ
block first second m i = cond (eqb i (block_count (length m))) (last_block first second (part_of m i)) (part_of m i)
