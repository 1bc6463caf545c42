-- What the shut definition of the MAC says, for the proofs of this crate alone.
-- Assumes nothing.
use Rattle.std.specs.Prelude.{◌≡◌, refl, List, ℕ, length}
use Rattle.message_blocks.specs.Blocks.{block_count}
use Rattle.cmac.specs.Mac.{chain, cmac_under}

pub cmac-is : (w m : List ℕ) → cmac_under w m ≡ chain w m (block_count (length m))
unfolding cmac_under
cmac-is w m = refl
