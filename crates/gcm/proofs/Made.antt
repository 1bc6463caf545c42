-- What the steps leave is what each call promises: a text that GCTR put to the front of the output from inc32(J_0) on, and the tag.
-- Assumes nothing.
use mathlib.Core.Path.{◌≡◌, ◌∙◌, sym, ap, ap₂}
use mathlib.Core.Bool.{false}
use mathlib.Core.List.{List}
use Prim.Native.Nat.{ℕ, ◌≤◌}
use Rattle.std.specs.Prelude.{Ok}
use native.Mathlib.Omega.{arith}
use lib.ListN.{length, take, drop}
use lib.Seq.{take_at}
use Rattle.octets.specs.Output.{written, fronted}
use Rattle.octets.proofs.Filling.{with_room}
use Rattle.gctr.specs.Increment.{inc32}
use Rattle.gctr.specs.Gctr.{gctr}
use Rattle.gcm.specs.Lengths.{text_too_long, too_long}
use Rattle.gcm.specs.Encryption.{j0, ciphertext_under, tag_under}
use Rattle.gcm.specs.Encryption.Opened.{ciphertext-is}
use Rattle.gcm.specs.Decryption.{plaintext_under}
use Rattle.gcm.specs.Decryption.Opened.{plaintext-is}
use Rattle.gcm.specs.Calls.{call, sealed_under, decrypted_under}
use Rattle.gcm.proofs.Laws.{length-ciphertext_under, length-plaintext_under, sealed_under-done, decrypted_under-done}

module _ (w iv text old out : List ℕ) (room : length text ≤ length old) (made : out ≡ fronted (gctr w (inc32 (j0 iv)) text) old) where
  enciphered : out ≡ written (ciphertext_under w iv text) old
  enciphered =
      made
      ∙ ap (λ (l : List ℕ). fronted l old) (sym (ciphertext-is w iv text))
      ∙ with_room (ciphertext_under w iv text) old (omega (arith, length-ciphertext_under w iv text))

  deciphered : out ≡ written (plaintext_under w iv text) old
  deciphered =
      made
      ∙ ap (λ (l : List ℕ). fronted l old) (sym (plaintext-is w iv text))
      ∙ with_room (plaintext_under w iv text) old (omega (arith, length-plaintext_under w iv text))

  pub seal_made : (a t : List ℕ) → too_long a text ≡ false → t ≡ tag_under w iv a (take (length text) out)
      → call (Ok t) out ≡ sealed_under w iv a text old
  seal_made a t e et =
      let c : List ℕ = ciphertext_under w iv text in
      let front : take (length text) out ≡ c =
      ap (take (length text)) enciphered ∙ take_at c (drop (length c) old) (length text) (length-ciphertext_under w iv text)
      in
      ap₂ (λ (u o : List ℕ). call (Ok u) o) (et ∙ ap (tag_under w iv a) front) enciphered
      ∙ sym (sealed_under-done w iv a text old e room)

  pub decrypt_made : text_too_long text ≡ false → call (Ok tt) out ≡ decrypted_under w iv text old
  decrypt_made e = ap (call (Ok tt)) deciphered ∙ sym (decrypted_under-done w iv text old e room)
