-- A frame built from the header of one that obeys its kind, its length rewritten, obeys it again.
-- Assumes nothing.
use Prim.Native.Nat.{ℕ, ◌+◌, ◌≤◌, ◌<◌}
use mathlib.Core.Path.{◌≡◌}
use mathlib.Core.List.{List}
use mathlib.Core.Bool.{Bool, true, false}
use native.Mathlib.Omega.{arith}
use lib.ListN.{length}
use Rattle.kinds.specs.Kinds.{Kind}
use Rattle.kinds.proofs.Kept.{Lawful, Kept, built}
use Rattle.frame.specs.Rules.{least, obeys}
use Rattle.frame.proofs.Room.{Obeys, obeyed, obeying}

least-some : (secured : Bool) → 0 < least secured
least-some true = omega arith
least-some false = omega arith

-- clear or secured, if it has the room and is not too large
pub obeys_again : (k : Kind) → Lawful k → (n : ℕ) (frame rest : List ℕ) (before after : Bool)
    → obeys k frame before ≡ true → length (built k n frame rest) ≡ n → n ≤ k.largest
    → k.header frame + least after + k.trailer frame ≤ n → obeys k (built k n frame rest) after ≡ true
obeys_again k law n frame rest before after e count small room =
    let o : Obeys k frame before = obeyed k frame before e in
    let some = least-some after in
    let kept : Kept k frame (built k n frame rest) = law.keeps n frame rest o.rules (omega arith) count (omega arith) small in
    obeying k (built k n frame rest) after
    (record { rules = kept.rules; length_ok = kept.length_ok; largest = omega arith; room = omega arith })
