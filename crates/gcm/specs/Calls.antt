-- What each call answers and what it leaves in its output, from the values at its entry: the key or an expanded key w, the IV, the additional
-- data a, a plaintext p or a ciphertext c, a tag t, and the output as it was. A text goes to the front of the output, and the rest of it stays; a call
-- that refuses leaves all of it as it was.
-- Assumes nothing.
use Rattle.std.specs.Prelude.{ℕ, cond, not, List, Result, Ok, Err, ltb, length}
use Rattle.octets.specs.Same.{same}
use Rattle.key_schedule.specs.KeyExpansion.{key_expansion}
use Rattle.gcm.specs.Lengths.{text_too_long, too_long}
use Rattle.octets.specs.Output.{written}
use Rattle.gcm.specs.Encryption.{ciphertext_under, tag_under, tag}
use Rattle.gcm.specs.Decryption.{plaintext_under, plaintext}
use Rattle.gcm.specs.declared.Refusal.{Refusal}
use Rattle.gcm.specs.declared.Refusal.TheVariants as refusal

-- what a call returns, and its output as it returns
pub record Call (A : Type 0) : Type 0 where
  pub result : A
  pub out : List ℕ

abbrev pub call : {A : Type 0} → A → List ℕ → Call A
call r o = record { result = r; out = o }

-- 7.1
abbrev pub sealed_under : List ℕ → List ℕ → List ℕ → List ℕ → List ℕ → Call (Result (List ℕ) Refusal)
sealed_under w iv a p out =
    cond (too_long a p) (call (Err refusal.TooLong) out)
    (cond (ltb (length out) (length p)) (call (Err refusal.NoRoom) out)
    (call (Ok (tag_under w iv a (ciphertext_under w iv p))) (written (ciphertext_under w iv p) out)))

unfoldable pub sealed : List ℕ → List ℕ → List ℕ → List ℕ → List ℕ → Call (Result (List ℕ) Refusal)
sealed key iv a p out = sealed_under (key_expansion key) iv a p out

-- 7.2 but for step 4
abbrev pub checked_under : List ℕ → List ℕ → List ℕ → List ℕ → List ℕ → Result Unit Refusal
checked_under w iv a c t = cond (too_long a c) (Err refusal.TooLong) (cond (same (tag_under w iv a c) t) (Ok tt) (Err refusal.WrongTag))

unfoldable pub checked : List ℕ → List ℕ → List ℕ → List ℕ → List ℕ → Result Unit Refusal
checked key iv a c t = checked_under (key_expansion key) iv a c t

-- 7.2, step 4
abbrev pub decrypted_under : List ℕ → List ℕ → List ℕ → List ℕ → Call (Result Unit Refusal)
decrypted_under w iv c out =
    cond (text_too_long c) (call (Err refusal.TooLong) out)
    (cond (ltb (length out) (length c)) (call (Err refusal.NoRoom) out)
    (call (Ok tt) (written (plaintext_under w iv c) out)))

unfoldable pub decrypted : List ℕ → List ℕ → List ℕ → List ℕ → Call (Result Unit Refusal)
decrypted key iv c out = decrypted_under (key_expansion key) iv c out

-- 7.2
unfoldable pub opened : List ℕ → List ℕ → List ℕ → List ℕ → List ℕ → List ℕ → Call (Result Unit Refusal)
opened key iv a c t out =
    cond (too_long a c) (call (Err refusal.TooLong) out)
    (cond (not (same (tag key iv a c) t)) (call (Err refusal.WrongTag) out)
    (cond (ltb (length out) (length c)) (call (Err refusal.NoRoom) out)
    (call (Ok tt) (written (plaintext key iv c) out))))
