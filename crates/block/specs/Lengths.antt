-- The length of a string of octets, in bits and in blocks.
-- Assumes nothing.
use Rattle.std.specs.Prelude.{ℕ, ◌+◌, ◌*◌, ◌/◌, List, length}

-- SP 800-38D, 4.2.2: len(X), in bits
abbrev pub len : List ℕ → ℕ
len s = 8 * length s

-- the blocks that n octets take, the last one whole or not: ⌈n / 16⌉
abbrev pub blocks : ℕ → ℕ
blocks n = (n + 15) / 16
