-- A call with the key and the IV that were read of a line is the call that the definitions make of the line.
-- Assumes nothing.
use mathlib.Core.Path.{◌≡◌}
use Prim.Native.Nat.{ℕ}
use mathlib.Core.List.{List}
use lib.ListN.{length, take, replicate}
use Rattle.vector_lines.specs.Spelled.{octets_in}
use Rattle.gcm.specs.Calls.{call, sealed, opened}
use Rattle.std.specs.Prelude.{Result}
use Rattle.gcm.specs.declared.Refusal.{Refusal}
use Rattle.gcm_entries.specs.Entry.{Published, SealedFrom, Disclosed, OpenedFrom}

module _ (line additional given : List ℕ) {key iv out text : List ℕ} (keyed : key ≡ octets_in 32 0 line) (started : iv ≡ octets_in 12 1 line) (front : text ≡ take (length given) out) where
  pub sealed-from : {r : Result (List ℕ) Refusal} → call r out ≡ sealed key iv additional given (replicate 64 0) → Published line text r → SealedFrom line additional given
  unfolding SealedFrom
  sealed-from made p = rw (← keyed, ← started, ← made, ← front) p

  pub opened-from : {tag : List ℕ} {r : Result (Unit {0}) Refusal} → tag ≡ octets_in 16 5 line → call r out ≡ opened key iv additional given tag (replicate 64 0) → Disclosed line text r → OpenedFrom line additional given
  unfolding OpenedFrom
  opened-from tagged made p = rw (← keyed, ← started, ← tagged, ← made, ← front) p
