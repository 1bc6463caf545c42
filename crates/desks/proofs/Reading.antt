-- What a desk's calls read of an image is the same in two images that have in common what the desk sees: SPIs, the bodies that it owns, and
-- keys.
-- Assumes nothing.
use Prim.Native.Nat.{ℕ, zero, suc, ◌+◌, ◌*◌, ◌<◌}
use mathlib.Core.Path.{◌≡◌, refl, sym, ap, ap₂, ◌∙◌}
use mathlib.Core.Bool.{Bool, true, cond}
use mathlib.Core.List.{List}
use native.Mathlib.Omega.{arith}
use Rattle.octets.specs.Lists.{octet, part}
use Rattle.octets.specs.Numbers.{number_at}
use Rattle.octets.proofs.Numbers.{number_at-same}
use Rattle.octets.proofs.Parts.{part_same}
use Rattle.marks.specs.Stores.{stores_of}
use Rattle.image.specs.Image.{body_at, body_of, mark_at, mark_in, laid_out, valid_image}
use Rattle.image.proofs.ValidImages.{valid-laid}
use Rattle.numbers.specs.Stores.{plan_for, stores_for}
use Rattle.association.specs.Search.{has_spi, matches}
use Rattle.association.specs.declared.search.Wanted.{Wanted}
use Rattle.promises.specs.Images.{version_in, shape_in, count_in, spi_at, place, owner_at, key_id_at, whole_body_at, part_place, key_count_in, key_at}
use Rattle.promises.specs.Images.{id_of_key, state_of_key, octets_of_key, key_from, key_octets_at}
use Rattle.promises.specs.Versions.{Shape, shape_of}
use Rattle.promises.proofs.Fields.{stands, mark-place, body_is}
use Rattle.promises.proofs.Isolation.{same-mark}
use Rattle.desks.proofs.Shared.{shape_four, in_front, in_part, in_own, Framed, place_same, part-same-place, Same, same-framed}

module _ (d : ℕ) (s t : List ℕ) (four : version_in s ≡ 4) (same : Same d s t) where
  pub frame : Framed s t
  frame = same-framed d s t four same

  pub spi-same : (i : ℕ) → i < count_in s → spi_at t i ≡ spi_at s i
  spi-same i below =
      number_at-same (2 + 4 * i) 2 t s (λ k h. same.octets (2 + 4 * i + k) (in_front s four d (2 + 4 * i + k) (omega arith)))

  -- ---- a body that the desk owns

  module _ (e : ℕ) (own : owner_at s e ≡ d) where
    size_same : (shape_in t).body ≡ (shape_in s).body
    size_same = ap (λ (v : ℕ). (shape_of v).body) frame.version

    size-four : (shape_in s).body ≡ 23
    unfolding shape_of
    size-four = ap (λ (v : ℕ). (shape_of v).body) four

    pub body_same : whole_body_at s e ≡ whole_body_at t e
    body_same =
        sym
        (ap₂ (λ (p n : ℕ). part p n t) (place_same frame e 0) size_same
        ∙ part_same (place s e 0) (shape_in s).body t s
        (λ i h. same.octets (place s e 0 + i) (in_own s four d e own (place s e 0 + i) (omega arith) (omega (arith, size-four)))))

    pub inner_same : body_of t e ≡ body_of s e
    inner_same = body_is t e ∙ sym body_same ∙ sym (body_is s e)

    pub mark-same : mark_in t e ≡ mark_in s e
    mark-same = sym (same-mark s t e e body_same)

    pub matches-same : e < count_in s → (w : Wanted) → matches t w e ≡ matches s w e
    unfolding matches has_spi
    matches-same below w = cc (spi-same e below, frame.version, inner_same)

    pub has_spi-same : e < count_in s → (desk spi : ℕ) → has_spi t desk spi e ≡ has_spi s desk spi e
    unfolding has_spi
    has_spi-same below desk spi = cc (spi-same e below, frame.version, inner_same)

    -- ---- the stores that raise its mark

    pub at_same : body_at t e ≡ body_at s e
    at_same = omega (arith, stands t e 0, stands s e 0, place_same frame e 0)

    mark-at-same : mark_at t e ≡ mark_at s e
    mark-at-same =
        mark-place t e
        ∙ place_same frame e (shape_in t).mark
        ∙ ap (λ (v : ℕ). place s e (shape_of v).mark) frame.version
        ∙ sym (mark-place s e)

    pub raises_same : valid_image s ≡ true → valid_image t ≡ true → (n : ℕ) → stores_for t e n ≡ stores_for s e n
    unfolding plan_for
    raises_same here there n =
        let laid : laid_out t ≡ laid_out s = valid-laid t there ∙ sym (valid-laid s here) in
        let plans : plan_for t e n ≡ plan_for s e n = rw (laid, frame.count, mark-at-same, mark-same) refl in
        ap stores_of plans

  -- ---- the key part

  key-place-same : (j : ℕ) → key_at t j ≡ key_at s j
  key-place-same j = ap (λ (p : ℕ). p + 1 + 35 * j) (part-same-place frame)

  pub keys-same : key_count_in t ≡ key_count_in s
  keys-same =
      let c : octet t (part_place t) ≡ octet s (part_place s) =
      ap (octet t) (part-same-place frame) ∙ same.octets (part_place s) (in_part s four d (part_place s) (omega arith))
      in
      ap₂ (λ (v c : ℕ). cond (shape_of v).key_part c 0) frame.version c

  in_key : (j k : ℕ) → octet t (key_at s j + k) ≡ octet s (key_at s j + k)
  in_key j k = same.octets (key_at s j + k) (in_part s four d (key_at s j + k) (omega arith))

  pub id_same : (j : ℕ) → id_of_key t j ≡ id_of_key s j
  id_same j = ap (λ (p : ℕ). number_at p 2 t) (key-place-same j) ∙ number_at-same (key_at s j) 2 t s (λ k h. in_key j k)

  pub state-same : (j : ℕ) → state_of_key t j ≡ state_of_key s j
  state-same j = ap (λ (p : ℕ). octet t (p + 2)) (key-place-same j) ∙ in_key j 2

  octets-same : (j : ℕ) → octets_of_key t j ≡ octets_of_key s j
  octets-same j =
      ap (λ (p : ℕ). part (p + 3) 32 t) (key-place-same j)
      ∙ part_same (key_at s j + 3) 32 t s
      (λ k h. same.octets (key_at s j + 3 + k) (in_part s four d (key_at s j + 3 + k) (omega arith)))

  from-same : (id j n : ℕ) → key_from t id j n ≡ key_from s id j n
  unfolding key_from
  from-same id j zero = refl
  from-same id j (suc n) = cc (id_same j, from-same id (j + 1) n)

  has_part : (image : List ℕ) → version_in image ≡ 4 → (shape_in image).key_part ≡ true
  has_part image is = ap (λ (h : Shape). h.key_part) (shape_four image is)

  pub key-same : (e : ℕ) → owner_at s e ≡ d → key_octets_at s e ≡ key_octets_at t e
  key-same e own =
      let ids : key_id_at t e ≡ key_id_at s e =
      ap (λ (p : ℕ). number_at p 2 t) (place_same frame e 16)
      ∙ number_at-same (place s e 16) 2 t s
      (λ i h. same.octets (place s e 16 + i) (in_own s four d e own (place s e 16 + i) (omega arith) (omega arith)))
      in
      let later : version_in t ≡ 4 = frame.version ∙ four in
      let named-s = key_from s (key_id_at s e) 0 (key_count_in s) in
      let named-t = key_from t (key_id_at t e) 0 (key_count_in t) in
      ap (λ (b : Bool). cond b (octets_of_key s named-s) (part (place s e 16) 32 s)) (has_part s four)
      ∙ sym
      (octets-same named-t
      ∙ ap (octets_of_key s)
      (from-same (key_id_at t e) 0 (key_count_in t) ∙ ap₂ (λ (id n : ℕ). key_from s id 0 n) ids keys-same))
      ∙ sym (ap (λ (b : Bool). cond b (octets_of_key t named-t) (part (place t e 16) 32 t)) (has_part t later))
