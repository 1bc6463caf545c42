-- `inverse` gives the inverse, by a test that antt computes at each of the 256 octets.
-- Assumes nothing.
use mathlib.Core.Path.{◌≡◌, ◌∙◌, refl, ap}
use mathlib.Core.Bool.{Bool, ◌&&◌}
use Prim.Native.Nat.{ℕ, min, ◌<◌}
use native.Mathlib.Omega.{arith}
use lib.Dec.{T, eqb, ltb, eqb→eq, ltb→lt}
use lib.ListN.{replicate}
use Rattle.octets.proofs.Tables.{every_at, both_left, both_right}
use Rattle.substitution.specs.Field.{xtime, mul_bits, ◌•◌}
use Rattle.substitution.specs.Sbox.{inverse, squares, IsInverse}

-- at place b of any list of 256: an octet, whose product with b is 1, or 0 where b is
right : ℕ → ℕ → Bool
right b x = ltb (inverse b) 256 && eqb (b • inverse b) (min b 1)

inverse-zero : inverse 0 ≡ 0
unfolding inverse squares xtime mul_bits ◌•◌
inverse-zero = refl

tested : (b : ℕ) → b < 256 → T (right b 0)
unfolding right inverse squares xtime mul_bits ◌•◌
tested b h = every_at (λ k x. right k 0) (replicate 256 0) tt b h

pub is_inverse : (b : ℕ) → b < 256 → IsInverse b (inverse b)
unfolding right
is_inverse b h =
    let small : T (ltb (inverse b) 256) = both_left (ltb (inverse b) 256) (eqb (b • inverse b) (min b 1)) (tested b h) in
    let made : b • inverse b ≡ min b 1 =
    eqb→eq (b • inverse b) (min b 1) (both_right (ltb (inverse b) 256) (eqb (b • inverse b) (min b 1)) (tested b h))
    in
    record { octets = ltb→lt (inverse b) 256 small; of_zero = λ e. ap inverse e ∙ inverse-zero; product = λ p. omega arith }
