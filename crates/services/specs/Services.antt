-- Document 01, 'Frames', and document 02, request 9: the two services. Behind the SPI the security header has a field that holds the sequence
-- number, and before it, under service 2, four octets that name the association. What a service makes of a frame's data depends on the key,
-- on that field, and for the MAC on what stands before the data.
-- Assumes nothing.
use Rattle.std.specs.Prelude.{ℕ, cond, List, ◌++◌, eqb}
use Rattle.cmac.specs.Mac.{cmac}
use Rattle.gcm.specs.Encryption.{ciphertext, tag}
use Rattle.gcm.specs.Decryption.{plaintext}

pub record Service : Type 0 where
  -- the octets of the field, and how many of them, the first ones, name the association
  pub field : ℕ
  pub named : ℕ
  -- from key, field and clear data, the data as it goes out; and back
  pub going_out : List ℕ → List ℕ → List ℕ → List ℕ
  pub coming_in : List ℕ → List ℕ → List ℕ → List ℕ
  -- from key, field, what stands before the data, and the data as it goes out
  pub mac : List ℕ → List ℕ → List ℕ → List ℕ → List ℕ

-- service 1, authentication: the data goes out as it is, and the MAC is CMAC over all
abbrev pub authentication : Service
authentication =
    record {
      field = 4;
      named = 0;
      going_out = λ key field clear. clear;
      coming_in = λ key field text. text;
      mac = λ key field before text. cmac key (before ++ text);
    }

-- service 2, authenticated encryption: GCM with the field, of 12 octets, as its IV, what stands before the data as additional data, and the clear data as
-- plaintext
abbrev pub authenticated_encryption : Service
authenticated_encryption =
    record {
      field = 12;
      named = 4;
      going_out = λ key field clear. ciphertext key field clear;
      coming_in = λ key field text. plaintext key field text;
      mac = λ key field before text. tag key field before text;
    }

-- the service that a body's octet names; a valid image has 1 and 2 alone
unfoldable pub service : ℕ → Service
service number = cond (eqb number 2) authenticated_encryption authentication
