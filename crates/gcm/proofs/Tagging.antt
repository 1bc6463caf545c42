-- The first counter block and the tag, as the code makes them.
-- Assumes nothing.
use mathlib.Core.Path.{◌≡◌, sym, ap, ◌∙◌}
use mathlib.Core.List.{List, ◌++◌, append-nil}
use Prim.Native.Nat.{ℕ, ◌+◌, ◌*◌, ◌^◌, ◌≤◌, ◌<◌}
use native.Mathlib.Nat.{add_assoc, add-zero}
use native.Mathlib.Omega.{arith}
use lib.ListN.{length, drop_of_length-le}
use Rattle.octets.specs.Numbers.{number, bytes}
use Rattle.octets.specs.Output.{fronted}
use Rattle.octets.proofs.Filling.{with_room}
use Rattle.octets.proofs.Numbers.{number-add, number_append, length-bytes}
use Rattle.ghash.specs.Ghash.{ghash}
use Rattle.ghash.specs.Input.{hash_input}
use Rattle.gctr.specs.Gctr.{ciph, gctr}
use Rattle.gctr.proofs.Counting.{length-gctr}
use Rattle.gcm.specs.Encryption.{hash_key, j0, authenticated, tag_under}
use Rattle.gcm.specs.Encryption.Opened.{tag_is}

-- the IV's 12 octets with zeros behind them, in two halves: the low one has room for the 1 that makes it J_0
module _ (iv : List ℕ) (hi lo : ℕ) (l : length iv ≡ 12) (e : hi * 2 ^ 64 + lo ≡ number 16 iv) where
  iv-block : number 16 iv ≡ number 12 iv * 2 ^ 32
  unfolding number
  iv-block =
      let short : length iv ≤ 12 = omega arith in
      number-add 12 4 iv
      ∙ ap (λ (s : List ℕ). number 12 iv * 2 ^ 32 + number 4 s) (drop_of_length-le iv short)
      ∙ add-zero (number 12 iv * 2 ^ 32)

  pub low-room : lo < 2 ^ 64 → lo + 1 < 2 ^ 64
  low-room h =
      let m : hi * 2 ^ 64 + lo ≡ number 12 iv * 2 ^ 32 = e ∙ iv-block in
      omega arith

  pub j0_halves : hi * 2 ^ 64 + (lo + 1) ≡ j0 iv
  unfolding j0 number bytes
  j0_halves =
      sym (add_assoc (hi * 2 ^ 64) lo 1)
      ∙ ap (λ (n : ℕ). n + 1) (e ∙ iv-block)
      ∙ sym (number_append 12 4 iv (bytes 4 1) l)

-- the tag from what each step gives: the hash subkey h, the hash m, its octets s, and J_0
module _ (w iv a c subkey s clear out : List ℕ) (h m j : ℕ) where
  pub tag_made : length clear ≡ 16 → subkey ≡ ciph w 0 → h ≡ number 16 subkey → m ≡ ghash h (hash_input a c) → s ≡ bytes 16 m → j ≡ j0 iv
      → out ≡ fronted (gctr w j s) clear → out ≡ tag_under w iv a c
  unfolding hash_key authenticated
  tag_made lz ek eh em es ej eo =
      let sixteen : length (gctr w j s) ≡ 16 = length-gctr w j s ∙ ap length es ∙ length-bytes 16 m in
      let all : length clear ≤ length (gctr w j s) = omega arith in
      let room : length (gctr w j s) ≤ length clear = omega arith in
      let whole : out ≡ gctr w j s =
      eo ∙ with_room (gctr w j s) clear room ∙ ap (λ (l : List ℕ). gctr w j s ++ l) (drop_of_length-le clear all) ∙ append-nil (gctr w j s)
      in
      cc (tag_is w iv a c)
