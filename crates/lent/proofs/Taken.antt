-- Nothing is lost in the number that a call returns: of at most 16 stores and at most 2,048 octets, answer, stores and length can be taken
-- out of it again.
-- Assumes nothing.
use Prim.Native.Nat.{ℕ, ◌/◌, ◌%◌, ◌^◌, ◌≤◌}
use mathlib.Core.Path.{◌≡◌}
use native.Mathlib.Omega.{arith}
use Rattle.lent.specs.Word.{word}

module _ (answer length stores : ℕ) (short : length ≤ 2048) (few : stores ≤ 16) where
  pub answer_taken : word answer length stores / 2 ^ 40 ≡ answer
  answer_taken = omega arith

  pub stores_taken : word answer length stores / 2 ^ 32 % 2 ^ 8 ≡ stores
  stores_taken = omega arith

  pub length_taken : word answer length stores % 2 ^ 32 ≡ length
  length_taken = omega arith
