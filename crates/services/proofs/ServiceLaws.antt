-- What the layers above may rest on under any service: the field is short and holds every number that sending uses, the data keeps its
-- length both ways and comes back as it was, a MAC has sixteen octets, and everything that goes out is octets.
-- Assumes nothing.
use Prim.Native.Nat.{ℕ, ◌-◌, ◌^◌, ◌≤◌, ◌<◌}
use mathlib.Core.Path.{◌≡◌, refl, ap, ◌∙◌}
use mathlib.Core.Bool.{Bool, true, false, cond}
use mathlib.Core.List.{List, ◌++◌}
use native.Mathlib.Omega.{arith}
use borrow.Author.Tests.{eqb-true, eq-eqb}
use lib.Dec.{eqb}
use lib.ListN.{length, length-append}
use lib.Seq.{drop_at}
use Rattle.octets.specs.Lists.{Octets}
use Rattle.octets.specs.Numbers.{number, bytes}
use Rattle.octets.proofs.Numbers.{length-bytes, number-bytes, number-front}
use Rattle.cmac.proofs.Laws.{length-cmac, octets-cmac}
use Rattle.gcm.proofs.Laws.{length-ciphertext, length-plaintext, length-tag, decrypted_back}
use Rattle.gcm.proofs.Laws.{octets-ciphertext, octets-plaintext, octets-tag}
use Rattle.services.specs.SecurityHeader.{field_under, number_under}
use Rattle.services.specs.Services.{Service, authentication, authenticated_encryption, service}
use Rattle.services.proofs.Chosen.{either}

pub record Lawful (s : Service) : Type 0 where
  pub short : s.field ≤ 12
  pub named : s.named ≤ s.field
  pub holds : (n : ℕ) → n < 2 ^ 32 → n < 256 ^ (s.field - s.named)
  pub length_out : (key field clear : List ℕ) → length (s.going_out key field clear) ≡ length clear
  pub length_in : (key field text : List ℕ) → length (s.coming_in key field text) ≡ length text
  pub length_mac : (key field before text : List ℕ) → length (s.mac key field before text) ≡ 16
  pub back : (key field clear : List ℕ) → s.coming_in key field (s.going_out key field clear) ≡ clear
  pub octets_out : (key field clear : List ℕ) → Octets key → Octets clear → Octets (s.going_out key field clear)
  pub octets_in : (key field text : List ℕ) → Octets key → Octets text → Octets (s.coming_in key field text)
  pub octets_mac : (key field before text : List ℕ) → Octets key → Octets (s.mac key field before text)

authentication_lawful : Lawful authentication
authentication_lawful =
    record {
      short = omega arith;
      named = omega arith;
      holds = λ n h. omega arith;
      length_out = λ key field clear. refl;
      length_in = λ key field text. refl;
      length_mac = λ key field before text. length-cmac key (before ++ text);
      back = λ key field clear. refl;
      octets_out = λ key field clear k o. o;
      octets_in = λ key field text k o. o;
      octets_mac = λ key field before text k. octets-cmac key (before ++ text) k;
    }

encryption_lawful : Lawful authenticated_encryption
encryption_lawful =
    record {
      short = omega arith;
      named = omega arith;
      holds = λ n h. omega arith;
      length_out = length-ciphertext;
      length_in = length-plaintext;
      length_mac = length-tag;
      back = decrypted_back;
      octets_out = octets-ciphertext;
      octets_in = octets-plaintext;
      octets_mac = octets-tag;
    }

pub lawful : (number : ℕ) → Lawful (service number)
lawful number = either Lawful authentication_lawful encryption_lawful number

-- ---- the field, under any lawful service

module _ (s : Service) (l : Lawful s) (naming n : ℕ) where
  pub length-field : length (field_under s naming n) ≡ s.field
  length-field =
      let a = length-append (bytes s.named naming) (bytes (s.field - s.named) n) in
      let b = length-bytes s.named naming in
      let c = length-bytes (s.field - s.named) n in
      omega (arith, l.named)

  -- the number comes back, since the field names the association that made it
  pub number_back : n < 2 ^ 32 → number_under s naming (field_under s naming n) ≡ n
  unfolding number_under
  number_back h =
      let opening : List ℕ = bytes s.named naming in
      let rest : List ℕ = bytes (s.field - s.named) n in
      let named = eq-eqb (number s.named (opening ++ rest)) (number s.named opening)
      (number-front s.named opening rest (length-bytes s.named naming))
      in
      simp named
      (ap (number (s.field - s.named)) (drop_at opening rest s.named (length-bytes s.named naming))
      ∙ number-bytes (s.field - s.named) n (l.holds n h))

-- what names the association shows in the field of service 2 alone
pub alike-field : (number naming other n : ℕ) → (number ≡ 2 → naming ≡ other)
    → field_under (service number) naming n ≡ field_under (service number) other n
unfolding service bytes
alike-field number naming other n same = of (eqb number 2) refl
  where
    of : (t : Bool) → eqb number 2 ≡ t
        → field_under (cond t authenticated_encryption authentication) naming n ≡ field_under (cond t authenticated_encryption authentication) other n
    of true e = ap (λ (x : ℕ). field_under authenticated_encryption x n) (same (eqb-true number 2 e))
    of false e = refl
