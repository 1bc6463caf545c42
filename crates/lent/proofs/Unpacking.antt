-- Nothing is lost in the number that a call returns: what is reported is at most 2,048 octets long and at most 16 stores, so answer, stores
-- and length can be taken out of the number again.
-- Assumes nothing.
use Prim.Native.Nat.{ℕ}
use mathlib.Core.Bool.{cond}
use mathlib.Core.List.{List}
use lib.Dec.{eqb}
use lib.ListN.{length}
use Rattle.image.specs.Image.{valid_image}
use Rattle.link.specs.Calls.{Left}
use Rattle.link.proofs.Small.{Small, small-refused, small_either}
use Rattle.lent.specs.Interface.{counted, Unpacked}
use Rattle.lent.proofs.Taken.{answer_taken, stores_taken, length_taken}

pub unpacked : (x : Left) → Small x → Unpacked x
unpacked x s =
    record {
      answer = answer_taken x.answer x.length x.stores s.short s.few;
      stores = stores_taken x.answer x.length x.stores s.short s.few;
      length = length_taken x.answer x.length x.stores s.short s.few;
    }

pub unpacked_counted : (image numbers output : List ℕ) (call : Left) → Small call → Unpacked (counted image numbers output call)
unpacked_counted image numbers output call s =
    unpacked (counted image numbers output call)
    (small_either (eqb (length numbers) 32) s (small-refused (cond (valid_image image) 2 1) image numbers output))
