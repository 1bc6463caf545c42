-- SP 800-38D, 7.1, steps 4 and 5: the string of which GHASH is taken, made of the additional data A and the ciphertext C.
-- Assumes nothing.
use Rattle.std.specs.Prelude.{ℕ, ◌-◌, ◌*◌, List, ◌++◌, length, replicate}
use Rattle.octets.specs.Numbers.{bytes}
use Rattle.block.specs.Lengths.{len, blocks}

-- the zeros that fill a string of octets to whole blocks
abbrev pub fill : List ℕ → List ℕ
fill s = replicate (16 * blocks (length s) - length s) 0

-- A || 0^v || C || 0^u || [len(A)]_64 || [len(C)]_64
unfoldable pub hash_input : List ℕ → List ℕ → List ℕ
hash_input a c = a ++ fill a ++ c ++ fill c ++ bytes 8 (len a) ++ bytes 8 (len c)
