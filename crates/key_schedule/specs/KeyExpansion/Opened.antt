-- What the shut definition of the key expansion says, for the proofs of this crate alone.
-- Assumes nothing.
use Rattle.std.specs.Prelude.{◌≡◌, refl, List, ℕ}
use Rattle.key_schedule.specs.KeyExpansion.{expanded_by, key_expansion}

pub key_expansion-is : (key : List ℕ) → key_expansion key ≡ expanded_by 52 key
unfolding key_expansion
key_expansion-is key = refl
