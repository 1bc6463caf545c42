-- The inventory of the definitions tells of the keys what the promises read of them; and it is the same of keys with the same IDs and states.
-- Assumes nothing.
use Prim.Native.Nat.{ℕ, zero, suc, ◌+◌, ◌*◌, ◌<◌, ◌≤◌}
use mathlib.Core.Path.{◌≡◌, refl, ap, ap₂, ◌∙◌}
use mathlib.Core.List.{List, ◌∷◌, ◌++◌}
use native.Mathlib.Omega.{arith}
use lib.ListN.{length}
use Rattle.octets.specs.Numbers.{bytes}
use Rattle.writing.specs.Text.{end_to_end}
use Rattle.command_form.specs.Form.{reply_to}
use Rattle.image.specs.Image.{part_at, key_count}
use Rattle.inventory.specs.Inventory.{between, passing, told_between, inventory}
use Rattle.inventory.proofs.Totals.{reply-length, reply_pieces}
use Rattle.promises.specs.Images.{key_count_in, id_of_key, state_of_key}
use Rattle.promises.proofs.Fields.{key-count, key_id, key-state}
use Rattle.command_promises.specs.Leaves.{told_keys, inventory_reply}
use Rattle.command_promises.specs.Rows.{keys_between}

module _ (image : List ℕ) (first last : ℕ) where
  counted : (n : ℕ) → passing n (between image (part_at image) first last) ≡ keys_between image first last n
  unfolding passing keys_between
  counted zero = refl
  counted (suc n) = cc (counted n, key_id image n)

  told : (n : ℕ) → end_to_end n (told_between image (part_at image) first last) ≡ told_keys image first last n
  unfolding end_to_end told_keys
  told zero = refl
  told (suc n) = cc (told n, key_id image n, key-state image n)

  abbrev made : List ℕ
  made = reply_to 0x07 (inventory image (part_at image) (key_count image) first last)

  pub inventory-size : length made ≡ 5 + 3 * keys_between image first last (key_count_in image)
  inventory-size =
      reply-length image (part_at image) first last (key_count image)
      ∙ ap (λ (n : ℕ). 5 + 3 * n) (counted (key_count image) ∙ ap (keys_between image first last) (key-count image))

  pub inventory-is : made ≡ inventory_reply image first last
  inventory-is =
      let total : passing (key_count image) (between image (part_at image) first last) ≡ keys_between image first last (key_count_in image) =
      counted (key_count image) ∙ ap (keys_between image first last) (key-count image)
      in
      reply_pieces image (part_at image) first last (key_count image)
      ∙ ap₂ (λ (n : ℕ) (t : List ℕ). (0x87 ∷ (bytes 2 (2 + 3 * n) ++ bytes 2 n)) ++ t) total
      (told (key_count image) ∙ ap (told_keys image first last) (key-count image))

-- ---- of two images with the same IDs and states

module _ (s t : List ℕ) (first last m : ℕ) (ids : (k : ℕ) → k < m → id_of_key s k ≡ id_of_key t k)
    (states : (k : ℕ) → k < m → state_of_key s k ≡ state_of_key t k) where
  same_count : (n : ℕ) → n ≤ m → keys_between s first last n ≡ keys_between t first last n
  unfolding keys_between
  same_count zero h = refl
  same_count (suc n) h = cc (same_count n (omega arith), ids n (omega arith))

  same-told : (n : ℕ) → n ≤ m → told_keys s first last n ≡ told_keys t first last n
  unfolding told_keys
  same-told zero h = refl
  same-told (suc n) h = cc (same-told n (omega arith), ids n (omega arith), states n (omega arith))

  pub same-inventory : key_count_in s ≡ m → key_count_in t ≡ m → inventory_reply s first last ≡ inventory_reply t first last
  same-inventory a b =
      rw (a, b)
      (ap₂ (λ (n : ℕ) (l : List ℕ). (0x87 ∷ (bytes 2 (2 + 3 * n) ++ bytes 2 n)) ++ l) (same_count m (omega arith)) (same-told m (omega arith)))
