-- What the definitions ask of a key that a command or a body names is what the promises ask of it: that it is there, that it is in a state,
-- that it serves no operational body. Each is shown both ways, in a valid image.
-- Assumes nothing.
use Prim.Native.Nat.{ℕ, ◌<◌}
use mathlib.Core.Path.{◌≡◌, refl, sym, ap₂, ◌∙◌}
use mathlib.Core.Bool.{Bool, true, false, cond, not, ◌&&◌}
use mathlib.Core.List.{List}
use native.Mathlib.Omega.{arith}
use borrow.Author.Tests.{eqb-true, eq-eqb, ltb-true, lt-ltb}
use lib.Dec.{eqb}
use lib.ListN.{set}
use lib.Seq.{get_or-set_other}
use Rattle.octets.specs.Lists.{octet}
use Rattle.octets.proofs.Alls.{and_left, and_right, all-at, all_every}
use Rattle.bodies.specs.Body.{state_of}
use Rattle.image.specs.Image.{version_of, count_of, layout, body_of, part_at, key_count, key_with, key_in, key_id_in, valid_image}
use Rattle.image.proofs.ValidImages.{valid}
use Rattle.keys.specs.Keys.{key_state_place}
use Rattle.keys.proofs.FoundKeys.{ValidKeys}
use Rattle.numbers.specs.Numbers.{agrees}
use Rattle.numbers.proofs.LoadedNumbers.{agreed, agreeing}
use Rattle.commands.proofs.Turning.{Turns, marks_stay}
use Rattle.named_keys.specs.NamedKeys.{has_key, key_there, key_active, idle_at, unserved, freed}
use Rattle.promises.specs.Images.{shape_in, part_place, HasId, KeyThere, KeyInState}
use Rattle.promises.proofs.Fields.{shapes, state-at, key_id_at_lem, key-count}
use Rattle.promises.proofs.Valids.{implied, implies, key-there, key-found, found-key, key_in_state_lem}
use Rattle.command_promises.specs.Rows.{NeedsKey, NeedsActive, Serving}

-- the image with the state of the key that has an ID stored
abbrev pub turned_image : List ℕ → ℕ → ℕ → List ℕ
turned_image image id state = set image (key_state_place (part_at image) (key_with image id)) state

module _ (image : List ℕ) (passed : valid_image image ≡ true) where
  -- an image with a key has a key part, and its keys obey the rules
  pub keys-valid : (id k : ℕ) → HasId image id k → ValidKeys image (part_at image) (key_count image)
  keys-valid id k has = by_part (shape_in image).key_part refl has.there
    where
      by_part : (t : Bool) → (shape_in image).key_part ≡ t → k < cond t (octet image (part_place image)) 0
          → ValidKeys image (part_at image) (key_count image)
      by_part true e h = ((valid image passed).keyed ((shapes (version_of image)).key_part ∙ e)).keys
      by_part false e h = absurd (omega arith)

  -- the index of the key that has an ID
  pub index_is : (id k : ℕ) → HasId image id k → key_with image id ≡ k
  index_is id k has = found-key image (keys-valid id k has) id k has

  module _ (id : ℕ) where
    pub key-is : has_key image id ≡ true → KeyThere image id
    key-is e = (key_with image id, key-there image id (ltb-true (key_with image id) (key_count image) e))

    pub is_key : KeyThere image id → has_key image id ≡ true
    is_key (k, has) =
        let e : key_with image id ≡ k = index_is id k has in
        lt-ltb (key_with image id) (key_count image) (omega (arith, has.there, key-count image))

    pub in_state_lem : (state : ℕ) → KeyInState image id state → key_in image state id ≡ true
    in_state_lem state (k, has, same) = key_in_state_lem image (keys-valid id k has) id state (k, has, same)

    -- where there is a key part
    pub needs_key : key_there image id ≡ true → NeedsKey image id
    needs_key e has = key-is (implies (layout image).keys (has_key image id) e ((shapes (version_of image)).key_part ∙ has))

    pub needed_key : NeedsKey image id → key_there image id ≡ true
    needed_key k = implied (layout image).keys (has_key image id) (λ has. is_key (k (sym (shapes (version_of image)).key_part ∙ has)))

    pub needs_active : key_active image id ≡ true → NeedsActive image id
    needs_active e has = key-found image id 1 (implies (layout image).keys (key_in image 1 id) e ((shapes (version_of image)).key_part ∙ has))

    pub needed_active : NeedsActive image id → key_active image id ≡ true
    needed_active k = implied (layout image).keys (key_in image 1 id) (λ has. in_state_lem 1 (k (sym (shapes (version_of image)).key_part ∙ has)))

    -- no operational body names it
    busy : (i : ℕ) → Serving image id i → idle_at image id i ≡ true → ⊥
    busy i s e =
        let state : state_of (body_of image i) ≡ 2 = state-at image i ∙ s.state in
        let key : key_id_in image i ≡ id = key_id_at_lem image i ∙ s.key in
        let no : idle_at image id i ≡ false = rw (eq-eqb (state_of (body_of image i)) 2 state, eq-eqb (key_id_in image i) id key) refl in
        let z : ◌≡◌ {A = ℕ} 0 1 = cc in
        omega arith

    idle : (i : ℕ) → i < count_of image → (Serving image id i → ⊥) → idle_at image id i ≡ true
    idle i h none = by_test (eqb (state_of (body_of image i)) 2 && eqb (key_id_in image i) id) refl
      where
        by_test : (t : Bool) → (eqb (state_of (body_of image i)) 2 && eqb (key_id_in image i) id) ≡ t → not t ≡ true
        by_test true e =
            absurd
            (none
            (record {
              entry = h;
              state = sym (state-at image i) ∙ eqb-true (state_of (body_of image i)) 2 (search and_left);
              key = sym (key_id_at_lem image i) ∙ eqb-true (key_id_in image i) id (search and_right);
            }))
        by_test false e = refl

    pub unserved_so : unserved image id ≡ true → (i : ℕ) → Serving image id i → ⊥
    unfolding unserved
    unserved_so e i s = busy i s (all-at (count_of image) (idle_at image id) e i s.entry)

    pub so_unserved : ((i : ℕ) → Serving image id i → ⊥) → unserved image id ≡ true
    unfolding unserved
    so_unserved none = all_every (count_of image) (idle_at image id) (λ i h. idle i h (none i))

    pub key-freed : freed image id ≡ true → KeyInState image id 1 × ((i : ℕ) → Serving image id i → ⊥)
    key-freed e = (
      key-found image id 1 (and_left (key_in image 1 id) (unserved image id) e),
      unserved_so (and_right (key_in image 1 id) (unserved image id) e),
    )

    pub freed-key : KeyInState image id 1 × ((i : ℕ) → Serving image id i → ⊥) → freed image id ≡ true
    freed-key (k, none) = ap₂ ◌&&◌ (in_state_lem 1 k) (so_unserved none)

-- ---- the store of a key's state

-- it keeps every mark, so the numbers still agree
pub turned_count : (image : List ℕ) (id state : ℕ) → count_of (turned_image image id state) ≡ count_of image
unfolding part_at
turned_count image id state = get_or-set_other image _ 1 state 0 (λ e. omega arith)

pub turned_agrees : (image last : List ℕ) (id state : ℕ) → Turns image id state → agrees image last ≡ true
    → agrees (turned_image image id state) last ≡ true
turned_agrees image last id state t agree =
    agreeing (turned_image image id state) last
    (λ k h.
    let below : k < count_of image = omega (arith, turned_count image id state) in
    agreed image last agree k below ∙ sym (marks_stay image id state t k below))
