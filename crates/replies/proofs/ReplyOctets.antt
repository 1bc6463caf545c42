-- The octets of a reply, an output to which no reply is written, and the inventory that a command asks for.
-- Assumes nothing.
use Prim.Native.Nat.{ℕ, ◌/◌, ◌%◌, ◌^◌, ◌<◌}
use mathlib.Core.Path.{◌≡◌, sym, ap, ◌∙◌}
use mathlib.Core.List.{List, [], ◌∷◌, ◌++◌}
use native.Mathlib.Nat.{div-one, zero-add}
use native.Mathlib.Omega.{arith}
use borrow.Author.Tests.{le-leb}
use lib.ListN.{length, set, replicate}
use borrow.Rule.Slice.PartMut.{put_mid}
use Rattle.octets.specs.Numbers.{bytes}
use Rattle.octets.specs.Output.{fronted}
use Rattle.octets.proofs.Numbers.{bytes-append}
use Rattle.image.specs.Image.{part_at, key_count}
use Rattle.command_form.specs.Form.{first_named, last_named, reply_to}
use Rattle.inventory.specs.Inventory.{inventory}
use Rattle.procedures.specs.Procedures.{key_inventory}

-- no text leaves the output as it was
pub fronted-none : (out : List ℕ) → out ≡ fronted [] out
unfolding fronted
fronted-none out = rw (le-leb 0 (length out) (omega arith))

-- the array of the code: tag, length, and the octets of SPI and number in their places
abbrev pub number_array : ℕ → ℕ → List ℕ
number_array spi n =
    put_mid 13 4 (put_mid 3 2 (set (set (replicate 17 0) 0 0x90) 2 14) (spi / 256 % 256 ∷ spi % 256 ∷ []))
    (n / 16777216 % 256 ∷ n / 65536 % 256 ∷ n / 256 % 256 ∷ n % 256 ∷ [])

short : (spi n : ℕ) → number_array spi n ≡ reply_to 0x10 (bytes 2 spi ++ (bytes 8 0 ++ bytes 4 n))
unfolding bytes
short spi n = rw (div-one spi, div-one n)

pub number_made : (spi n : ℕ) → n < 2 ^ 32 → number_array spi n ≡ reply_to 0x10 (bytes 2 spi ++ bytes 12 n)
number_made spi n h =
    short spi n ∙ ap (λ (t : List ℕ). reply_to 0x10 (bytes 2 spi ++ t)) (sym (bytes-append 8 4 0 n h) ∙ ap (bytes 12) (zero-add n))

-- the inventory that a value asks for
pub keys-asked : (image value : List ℕ) {at count first last : ℕ} → at ≡ part_at image → count ≡ key_count image → first ≡ first_named value
    → last ≡ last_named value → reply_to 0x07 (inventory image at count first last) ≡ key_inventory.reply image 0 0 value
keys-asked image value a b f l = cc
