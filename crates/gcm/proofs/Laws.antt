-- What the layers above rest on: the lengths and the octets of a ciphertext, a plaintext and a tag, that decryption undoes encryption, the
-- limits of the lengths in octets, and what a call that is not refused returns and leaves in its output.
-- Assumes nothing.
use mathlib.Core.Path.{◌≡◌, ◌∙◌, refl, ap}
use mathlib.Core.Bool.{Bool, true, false, ◌||◌}
use mathlib.Core.List.{List}
use Prim.Native.Nat.{ℕ, ◌+◌, ◌-◌, ◌*◌, ◌^◌, ◌≤◌}
use native.Mathlib.Omega.{arith}
use Rattle.std.specs.Prelude.{Ok, Err}
use borrow.Author.Tests.{lt-ltb, le-ltb, ltb-true, ltb-false}
use lib.Dec.{ltb}
use lib.ListN.{length}
use Rattle.octets.specs.Lists.{Octets}
use Rattle.octets.specs.Numbers.{bytes}
use Rattle.octets.specs.Output.{written}
use Rattle.octets.specs.Same.{same}
use Rattle.octets.proofs.Numbers.{length-bytes, octets-bytes}
use Rattle.octets.proofs.Sameness.{same_refl}
use Rattle.key_schedule.specs.KeyExpansion.{key_expansion}
use Rattle.key_schedule.proofs.Laws.{octets-key_expansion}
use Rattle.gctr.specs.Increment.{inc32}
use Rattle.gctr.proofs.Counting.{length-gctr, gctr_undo, octets-gctr}
use Rattle.gcm.specs.Lengths.{text_too_long, too_long}
use Rattle.gcm.specs.Encryption.{j0, ciphertext_under, ciphertext, authenticated, tag_under, tag}
use Rattle.gcm.specs.Encryption.Opened.{ciphertext-is, tag_is}
use Rattle.gcm.specs.Decryption.{plaintext_under, plaintext}
use Rattle.gcm.specs.Decryption.Opened.{plaintext-is}
use Rattle.gcm.specs.Calls.{call, sealed_under, sealed, checked_under, decrypted_under, opened}
use Rattle.gcm.specs.declared.Refusal.{Refusal}
use Rattle.std.proofs.lemmas.Grind.{common_steps}

-- ciphertext, plaintext and tag
pub length-ciphertext_under : (w iv p : List ℕ) → length (ciphertext_under w iv p) ≡ length p
length-ciphertext_under w iv p = ap length (ciphertext-is w iv p) ∙ length-gctr w (inc32 (j0 iv)) p

pub length-ciphertext : (key iv p : List ℕ) → length (ciphertext key iv p) ≡ length p
length-ciphertext key iv p = length-ciphertext_under (key_expansion key) iv p

pub length-plaintext_under : (w iv c : List ℕ) → length (plaintext_under w iv c) ≡ length c
length-plaintext_under w iv c = ap length (plaintext-is w iv c) ∙ length-gctr w (inc32 (j0 iv)) c

pub length-plaintext : (key iv c : List ℕ) → length (plaintext key iv c) ≡ length c
length-plaintext key iv c = length-plaintext_under (key_expansion key) iv c

pub length-tag : (key iv a c : List ℕ) → length (tag key iv a c) ≡ 16
length-tag key iv a c =
    let w : List ℕ = key_expansion key in
    ap length (tag_is w iv a c) ∙ length-gctr w (j0 iv) (bytes 16 (authenticated w a c)) ∙ length-bytes 16 (authenticated w a c)

pub decrypted_back : (key iv p : List ℕ) → plaintext key iv (ciphertext key iv p) ≡ p
decrypted_back key iv p =
    plaintext-is (key_expansion key) iv (ciphertext key iv p) ∙ rw ciphertext-is (gctr_undo (key_expansion key) (inc32 (j0 iv)) p)

pub octets-ciphertext : (key iv p : List ℕ) → Octets key → Octets p → Octets (ciphertext key iv p)
octets-ciphertext key iv p hk hp = rw ciphertext-is (octets-gctr (key_expansion key) (octets-key_expansion key hk) (inc32 (j0 iv)) p hp)

pub octets-plaintext : (key iv c : List ℕ) → Octets key → Octets c → Octets (plaintext key iv c)
octets-plaintext key iv c hk hc = rw plaintext-is (octets-gctr (key_expansion key) (octets-key_expansion key hk) (inc32 (j0 iv)) c hc)

pub octets-tag : (key iv a c : List ℕ) → Octets key → Octets (tag key iv a c)
octets-tag key iv a c hk =
    let w : List ℕ = key_expansion key in
    rw tag_is (octets-gctr w (octets-key_expansion key hk) (j0 iv) (bytes 16 (authenticated w a c)) (octets-bytes 16 (authenticated w a c)))

-- the limits, in octets
in_octets : (bits most n : ℕ) (r : Bool) → 8 * most ≤ bits → bits ≤ 8 * most + 7 → ltb most n ≡ r → ltb bits (8 * n) ≡ r
in_octets bits most n true low high e = lt-ltb bits (8 * n) (omega (arith, ltb-true most n e))
in_octets bits most n false low high e = le-ltb bits (8 * n) (omega (arith, ltb-false most n e))

pub text_limit : (p : List ℕ) → text_too_long p ≡ ltb (2 ^ 36 - 32) (length p)
unfolding text_too_long
text_limit p = in_octets (2 ^ 39 - 256) (2 ^ 36 - 32) (length p) _ (omega arith) (omega arith) refl

pub limits : (a p : List ℕ) → too_long a p ≡ (ltb (2 ^ 61 - 1) (length a) || text_too_long p)
unfolding too_long
limits a p =
    ap (λ (r : Bool). r || text_too_long p) (in_octets (2 ^ 64 - 1) (2 ^ 61 - 1) (length a) _ (omega arith) (omega arith) refl)

pub allowed : (a p : List ℕ) → length a ≤ 2 ^ 61 - 1 → length p ≤ 2 ^ 36 - 32 → too_long a p ≡ false
allowed a p ha hp =
    limits a p ∙ rw (le-ltb (2 ^ 61 - 1) (length a) ha, text_limit p, le-ltb (2 ^ 36 - 32) (length p) hp)

-- a call that is not refused
pub sealed_under-done : (w iv a p out : List ℕ) → too_long a p ≡ false → length p ≤ length out
    → sealed_under w iv a p out ≡ call (Ok (tag_under w iv a (ciphertext_under w iv p))) (written (ciphertext_under w iv p) out)
sealed_under-done w iv a p out e h = rw (e, le-ltb (length out) (length p) h)

pub sealed-done : (key iv a p out : List ℕ) → too_long a p ≡ false → length p ≤ length out
    → sealed key iv a p out ≡ call (Ok (tag key iv a (ciphertext key iv p))) (written (ciphertext key iv p) out)
unfolding sealed
sealed-done key iv a p out e h = sealed_under-done (key_expansion key) iv a p out e h

pub decrypted_under-done : (w iv c out : List ℕ) → text_too_long c ≡ false → length c ≤ length out
    → decrypted_under w iv c out ≡ call (Ok tt) (written (plaintext_under w iv c) out)
decrypted_under-done w iv c out e h = rw (e, le-ltb (length out) (length c) h)

pub opened-done : (key iv a c t out : List ℕ) → too_long a c ≡ false → same (tag key iv a c) t ≡ true → length c ≤ length out
    → opened key iv a c t out ≡ call (Ok tt) (written (plaintext key iv c) out)
unfolding opened
opened-done key iv a c t out e s h = rw (e, s, le-ltb (length out) (length c) h)

-- what `seal` makes `open` takes
module _ (key iv a p out : List ℕ) where
  same_limit : too_long a (ciphertext key iv p) ≡ too_long a p
  unfolding too_long text_too_long
  same_limit = rw (length-ciphertext key iv p)

  pub opened-sealed : too_long a p ≡ false → length p ≤ length out
      → opened key iv a (ciphertext key iv p) (tag key iv a (ciphertext key iv p)) out ≡ call (Ok tt) (written p out)
  opened-sealed e h =
      let c : List ℕ = ciphertext key iv p in
      let room : length c ≤ length out = omega (arith, length-ciphertext key iv p) in
      opened-done key iv a c (tag key iv a c) out (same_limit ∙ e) (same_refl (tag key iv a c)) room
      ∙ ap (λ (l : List ℕ). call (Ok tt) (written l out)) (decrypted_back key iv p)

-- `open` checks, and then decrypts
module _ (key w iv a c t out : List ℕ) (expanded : w ≡ key_expansion key) where
  pub opened_refused : (r : Refusal) → checked_under w iv a c t ≡ Err r → opened key iv a c t out ≡ call (Err r) out
  unfolding opened
  opened_refused r e = grind (arith, common_steps)

  pub opened-checked : checked_under w iv a c t ≡ Ok tt → opened key iv a c t out ≡ decrypted_under w iv c out
  unfolding opened too_long
  opened-checked e = grind (arith, common_steps)
