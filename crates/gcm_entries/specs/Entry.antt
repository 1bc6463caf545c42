-- An entry of GCM's published vectors, a line `KEY IV PLAINTEXT ADDITIONAL CIPHERTEXT TAG`, and what sealing and opening it as published is.
-- Assumes nothing.
use Rattle.std.specs.Prelude.{◌≡◌, ℕ, Bool, ◌&&◌, List, Result, Ok, length, take, replicate}
use Rattle.vector_lines.specs.Spelled.{text_in, octets_in, whole_field, spelled_in, empty_field}
use Rattle.gcm.specs.Calls.{sealed, opened}
use Rattle.gcm.specs.declared.Refusal.{Refusal}

-- a key of 32 octets and an IV of 12, two texts, the ciphertext with a tag of 16, and nothing behind it
abbrev pub entry_in : List ℕ → Bool
entry_in line =
    ((spelled_in 32 0 line && spelled_in 12 1 line) && (whole_field 2 line && whole_field 3 line))
    && ((whole_field 4 line && spelled_in 16 5 line) && empty_field 6 line)

-- a call that seals has done so, with the ciphertext and the tag of the line
pub record Published (line ciphertext : List ℕ) (result : Result (List ℕ) Refusal) : Type 0 where
  pub text : ciphertext ≡ text_in 96 4 line
  pub tag : result ≡ Ok (text_in 96 5 line)

-- the additional data and the plaintext are sealed, with the key and the IV of the line, as it says
unfoldable pub SealedFrom : List ℕ → List ℕ → List ℕ → Type 0
SealedFrom line additional plain =
    let c = sealed (octets_in 32 0 line) (octets_in 12 1 line) additional plain (replicate 64 0) in
    Published line (take (length plain) c.out) c.result

abbrev pub SealedAs : List ℕ → Type 0
SealedAs line = SealedFrom line (text_in 96 3 line) (text_in 64 2 line)

-- a call that opens has done so, with the plaintext of the line
pub record Disclosed (line plain : List ℕ) (result : Result Unit Refusal) : Type 0 where
  pub done : result ≡ Ok tt
  pub text : plain ≡ text_in 96 2 line

-- the additional data and the ciphertext are opened, with the key, the IV and the tag of the line, as it says
unfoldable pub OpenedFrom : List ℕ → List ℕ → List ℕ → Type 0
OpenedFrom line additional ciphertext =
    let c = opened (octets_in 32 0 line) (octets_in 12 1 line) additional ciphertext (octets_in 16 5 line) (replicate 64 0) in
    Disclosed line (take (length ciphertext) c.out) c.result

abbrev pub OpenedAs : List ℕ → Type 0
OpenedAs line = OpenedFrom line (text_in 96 3 line) (text_in 64 4 line)
