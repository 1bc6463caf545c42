-- Of two images that hold the same octets from the place of a key part on, the keys are the same: each ID, state and key, what a search by
-- ID finds, and whether the rules are kept.
-- Assumes nothing.
use mathlib.Core.Path.{◌≡◌, refl, ap}
use mathlib.Core.Bool.{Bool, ◌&&◌}
use mathlib.Core.List.{List}
use Prim.Native.Nat.{ℕ, zero, suc, ◌+◌, ◌-◌, ◌≤◌}
use native.Mathlib.Omega.{arith}
use lib.Dec.{leb}
use Rattle.octets.specs.Lists.{octet}
use Rattle.octets.proofs.Alls.{all_same}
use Rattle.octets.proofs.Numbers.{number_at-same}
use Rattle.octets.proofs.Parts.{part_same}
use Rattle.bodies.specs.Layout.{id_length, key_length}
use Rattle.keys.specs.Keys.{most_keys, key_place, key_state_place, key_octets_place, key_id_at, key_state_at, key_octets_at, key_from, key_index, key_in_state, key_under}
use Rattle.keys.specs.Keys.{key_ok, key_part_ok}

-- the same IDs are enough for a search to find the same
module _ (image other : List ℕ) (at : ℕ) (ids : (k : ℕ) → key_id_at other at k ≡ key_id_at image at k) where
  same_from : (id k n : ℕ) → key_from other at id k n ≡ key_from image at id k n
  unfolding key_from
  same_from id k zero = refl
  same_from id k (suc n) = cc (ids k, same_from id (k + 1) n)

  pub same_index : (count id : ℕ) → key_index other at count id ≡ key_index image at count id
  unfolding key_index
  same_index count id = same_from id 0 count

module _ (image other : List ℕ) (at : ℕ) (same : (p : ℕ) → at ≤ p → octet other p ≡ octet image p) where
  pub same_id : (k : ℕ) → key_id_at other at k ≡ key_id_at image at k
  same_id k = number_at-same (key_place at k) id_length other image (λ i h. same (key_place at k + i) (omega arith))

  pub same-state : (k : ℕ) → key_state_at other at k ≡ key_state_at image at k
  same-state k = same (key_state_place at k) (omega arith)

  same-octets : (k : ℕ) → key_octets_at other at k ≡ key_octets_at image at k
  same-octets k = part_same (key_octets_place at k) key_length other image (λ i h. same (key_octets_place at k + i) (omega arith))

  found-same : (count id : ℕ) → key_index other at count id ≡ key_index image at count id
  found-same count id = same_index image other at same_id count id

  pub same_in_state : (count state id : ℕ) → key_in_state other at count state id ≡ key_in_state image at count state id
  unfolding key_in_state
  same_in_state count state id = rw (found-same count id, same-state (key_index image at count id))

  pub same_under : (count id : ℕ) → key_under other at count id ≡ key_under image at count id
  unfolding key_under
  same_under count id = rw (found-same count id) (same-octets (key_index image at count id))

  same_ok : (k : ℕ) → key_ok other at k ≡ key_ok image at k
  unfolding key_ok
  same_ok k = cc (same-state k, same_id k, same_id (k - 1))

  pub same_keys : (count : ℕ) → key_part_ok other at count ≡ key_part_ok image at count
  unfolding key_part_ok
  same_keys count =
      ap (λ (ok : Bool). leb count most_keys && ok) (all_same count (key_ok other at) (key_ok image at) (λ k h. same_ok k))
