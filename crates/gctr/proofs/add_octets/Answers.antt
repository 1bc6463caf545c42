-- After j turns the first j sums stand at their places, and the rest of `out` as it was.
-- Assumes nothing.
use Rattle.std.proofs.Common.{◌≡◌, ◌∙◌, refl, sym, ap₂, List, ℕ, ◌+◌, ◌<◌, length, drop, arith}
use Rattle.std.proofs.Math.ListN.{set}
use Rattle.std.proofs.Math.Seq.{paste, get_or-drop}
use Rattle.std.proofs.lemmas.List.Edits.{paste_more}
use Rattle.octets.specs.Lists.{octet}
use Rattle.octets.specs.Xor.{◌⊕◌, xors}
use Rattle.octets.proofs.Rules.{length-tab, octet-tab}
use Rattle.gctr.proofs.add_octets.Goals as goal

more : (src stream old : List ℕ) (at j : ℕ) → j < 16 → at + j < length old
    → set (paste old at (xors 16 (drop at src) stream) j) (at + j) (octet src (at + j) ⊕ octet stream j) ≡ paste old at (xors 16 (drop at src) stream) (j + 1)
unfolding xors
more src stream old at j small room =
    let sum : octet src (at + j) ⊕ octet stream j ≡ octet (xors 16 (drop at src) stream) j =
    sym (octet-tab 16 _ j small ∙ ap₂ ◌⊕◌ (get_or-drop at src j 0) refl)
    in
    rw sum
    (paste_more old at (xors 16 (drop at src) stream) j 0 room (omega (arith, length-tab 16 (λ k. octet (drop at src) k ⊕ octet stream k))))

pub loop-j-preserved : goal.loop-j-preserved
loop-j-preserved c = rw c.loop-j.invariant (more c.args.src.now c.args.stream c.args.out.now c.args.at c.loop-j.j (omega arith) (omega arith))
