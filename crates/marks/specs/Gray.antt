-- Document 01, 'The image': a mark m is stored as its reflected Gray code, m exclusive-or half of m rounded down.
-- Assumes nothing.
use Rattle.std.specs.Prelude.{ℕ, zero, suc, ◌/◌}
use Rattle.octets.specs.Xor.{◌⊕◌}

abbrev pub gray : ℕ → ℕ
gray m = m ⊕ m / 2

-- the mark that a code of at most so many binary digits stands for: the code exclusive-or the mark that the code's half stands for
unfoldable pub decoded : ℕ → ℕ → ℕ
decoded zero code = 0
decoded (suc digits) code = code ⊕ decoded digits (code / 2)

-- the octets of a code in an image
abbrev pub code_length : ℕ
code_length = 4

-- the mark that a code of four octets stands for
abbrev pub ungray : ℕ → ℕ
ungray code = decoded 32 code
