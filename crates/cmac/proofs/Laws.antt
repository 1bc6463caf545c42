-- What the layers above rest on: the length of a MAC, and that its numbers are octets.
-- Assumes nothing.
use mathlib.Core.Path.{◌≡◌}
use mathlib.Core.List.{List}
use Prim.Native.Nat.{ℕ, zero, suc}
use lib.Dec.{lit<}
use lib.ListN.{length}
use Rattle.octets.specs.Lists.{Octets}
use Rattle.octets.proofs.Bounds.{octets-tab}
use Rattle.octets.proofs.Rules.{length-tab}
use Rattle.key_schedule.specs.KeyExpansion.{key_expansion}
use Rattle.key_schedule.proofs.Laws.{octets-key_expansion}
use Rattle.cipher.proofs.Laws.{length-cipher, octets-cipher}
use Rattle.message_blocks.specs.Blocks.{block_count}
use Rattle.cmac.specs.Mac.{chain, cmac}
use Rattle.cmac.specs.Mac.Opened.{cmac-is}

length-chain : (w m : List ℕ) (i : ℕ) → length (chain w m i) ≡ 16
unfolding chain
length-chain w m zero = length-tab 16 _
length-chain w m (suc i) = length-cipher w _

octets-chain : (w m : List ℕ) (i : ℕ) → Octets w → Octets (chain w m i)
unfolding chain
octets-chain w m zero hw = octets-tab 16 _ (λ i h. lit< tt)
octets-chain w m (suc i) hw = octets-cipher w _ hw

pub length-cmac : (key m : List ℕ) → length (cmac key m) ≡ 16
length-cmac key m = rw cmac-is (length-chain (key_expansion key) m (block_count (length m)))

pub octets-cmac : (key m : List ℕ) → Octets key → Octets (cmac key m)
octets-cmac key m hk = rw cmac-is (octets-chain (key_expansion key) m (block_count (length m)) (octets-key_expansion key hk))
