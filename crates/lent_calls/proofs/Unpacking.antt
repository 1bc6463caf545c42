-- Nothing is lost in the number that a load or a sending returns.
-- Assumes nothing.
use Prim.Native.Nat.{ℕ}
use mathlib.Core.List.{List, []}
use Rattle.link.specs.Calls.{loaded, secured}
use Rattle.link.proofs.Small.{loaded-small, secured-small}
use Rattle.judging.specs.Said.{Said}
use Rattle.lent.specs.Interface.{Unpacked}
use Rattle.lent.proofs.Unpacking.{unpacked_counted}
use Rattle.lent_calls.specs.LentCalls.{load_call, secure_call}

pub load_unpacked : (image numbers : List ℕ) → Unpacked (load_call image numbers)
unfolding load_call
load_unpacked image numbers = unpacked_counted image numbers [] (loaded image numbers) (loaded-small image numbers)

pub secure_unpacked : (image numbers : List ℕ) (said : Said) (spi : ℕ) (frame output : List ℕ)
    → Unpacked (secure_call image numbers said spi frame output)
unfolding secure_call
secure_unpacked image numbers said spi frame output =
    unpacked_counted image numbers output (secured image numbers said spi frame output) (secured-small image numbers said spi frame output)
