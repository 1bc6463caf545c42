-- What a call reports to C, in one number: bits 0 to 31 hold the length of the result, 32 to 39 the stores, 40 to 47 the answer's number.
-- Assumes nothing.
use Rattle.std.specs.Prelude.{ℕ, ◌+◌, ◌*◌, ◌%◌, ◌^◌}

-- The remainders keep every part in its bits whatever is reported. A call reports so little that they lose nothing: proofs/Taken
abbrev pub word : ℕ → ℕ → ℕ → ℕ
word answer length stores = answer * 2 ^ 40 + stores % 2 ^ 8 * 2 ^ 32 + length % 2 ^ 32
