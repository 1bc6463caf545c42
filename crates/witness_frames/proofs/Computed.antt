-- That a list holds octets, as a test that computes.
-- Assumes nothing.
use Prim.Native.Nat.{ℕ}
use mathlib.Core.Path.{◌≡◌}
use mathlib.Core.Bool.{Bool, true, ◌&&◌}
use mathlib.Core.List.{List, [], ◌∷◌}
use borrow.Author.Tests.{ltb-true}
use lib.Dec.{ltb}
use Rattle.octets.specs.Lists.{Octets}
use Rattle.octets.proofs.Alls.{and_left, and_right}
use Rattle.octets.proofs.Bounds.{octets_nil, octets_cons}

abbrev pub are_octets : List ℕ → Bool
are_octets [] = true
are_octets (x ∷ xs) = ltb x 256 && are_octets xs

pub octets_of_lem : (s : List ℕ) → are_octets s ≡ true → Octets s
octets_of_lem [] e = octets_nil
octets_of_lem (x ∷ xs) e =
    octets_cons x xs (ltb-true x 256 (and_left (ltb x 256) (are_octets xs) e)) (octets_of_lem xs (and_right (ltb x 256) (are_octets xs) e))
