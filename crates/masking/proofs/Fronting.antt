-- A masked header at the front of an output: the octets that a count of turns writes, and what is left and answered with room and without.
-- Assumes nothing.
use mathlib.Core.Path.{◌≡◌, ◌∙◌, sym, ap}
use mathlib.Core.List.{List, [], ◌∷◌, ◌++◌}
use Prim.Native.Nat.{ℕ, zero, suc, min, ◌≤◌, ◌<◌}
use native.Mathlib.Nat.{zero-min, min-zero, suc-min-suc}
use borrow.Author.Tests.{le-leb, lt-leb}
use lib.ListN.{length, take, drop, length-take}
use Rattle.std.specs.Prelude.{Some, None}
use Rattle.octets.specs.Output.{fronted}
use Rattle.kinds.specs.Kinds.{Kind}
use Rattle.frame.specs.Parts.{header_of}
use Rattle.masking.specs.Masked.{masked, masked_header, answered}
use Rattle.masking.proofs.Masking.{length-masked, masked-take}

take_min : (n : ℕ) (s : List ℕ) → take (min n (length s)) s ≡ take n s
take_min zero s = rw zero-min
take_min (suc n) [] = rw min-zero
take_min (suc n) (x ∷ s) = rw suc-min-suc (ap (λ (r : List ℕ). x ∷ r) (take_min n s))

module _ (k : Kind) (mask frame old : List ℕ) (count : ℕ) (counted : count ≡ min (k.header frame) (length frame)) where
  length-text : length (masked_header k mask frame) ≡ count
  unfolding masked_header header_of
  length-text = length-masked mask (take (k.header frame) frame) ∙ length-take (k.header frame) frame ∙ sym counted

  text-is : take count (masked mask frame) ≡ masked_header k mask frame
  unfolding masked_header header_of
  text-is =
      sym (masked-take mask frame count)
      ∙ ap (masked mask) (ap (λ (n : ℕ). take n frame) counted ∙ take_min (k.header frame) frame)

  pub without_room : length old < count → old ≡ fronted (masked_header k mask frame) old
  unfolding fronted
  without_room short = rw (length-text, lt-leb count (length old) short)

  pub refused : length old < count → None ≡ answered (masked_header k mask frame) old
  unfolding answered
  refused short = rw (length-text, lt-leb count (length old) short)

  pub told : count ≤ length old → Some count ≡ answered (masked_header k mask frame) old
  unfolding answered
  told room = rw (length-text, le-leb count (length old) room)

  pub with_room : count ≤ length old → take count (masked mask frame) ++ drop count old ≡ fronted (masked_header k mask frame) old
  unfolding fronted
  with_room room = rw (length-text, le-leb count (length old) room, text-is)
