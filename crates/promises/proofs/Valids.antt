-- The rules of an image, one by one, are the test that the definitions make, and so are agreement and the entry that serves a frame. Each
-- is shown both ways.
-- Assumes nothing.
use Prim.Native.Nat.{ℕ, zero, suc, ◌-◌, ◌/◌, ◌%◌, ◌^◌, ◌≤◌, ◌<◌}
use mathlib.Core.Path.{◌≡◌, refl, sym, ap, ap₂, ◌∙◌}
use mathlib.Core.Logic.{inl, inr}
use mathlib.Core.Bool.{Bool, true, false, not, cond, ◌&&◌, ◌||◌, or-true}
use mathlib.Core.List.{List}
use native.Mathlib.Nat.{add-zero}
use native.Mathlib.Decide.{dec_lt}
use native.Mathlib.Omega.{arith}
use borrow.Author.Tests.{eqb-true, ltb-true, eq-eqb, ne_eqb, le-leb, lt-ltb}
use lib.Dec.{eqb, leb, eqb-suc-zero}
use lib.ListN.{length}
use Rattle.octets.specs.Lists.{octet, Octets}
use Rattle.octets.proofs.Alls.{and_left, and_right, all_every}
use Rattle.octets.proofs.Numbers.{number_at-lt}
use Rattle.kinds.specs.Kinds.{has_map, kind_of, named}
use Rattle.bodies.specs.Body.{service_of, kind_in, direction_of, state_of, spacecraft_of, channel_of, holds_set, map_of, window_of, mask_of}
use Rattle.bodies.specs.Body.{owner_of, channel_ok, kind_ok, window_fits, window_ok, body_ok}
use Rattle.marks.specs.Gray.{gray, ungray}
use Rattle.image.specs.Image.{version_of, count_of, layout, spi_of, spi_before, position_of, body_at, body_of, image_size, laid_out, entry_ok, valid_image}
use Rattle.image.specs.Image.{part_at, key_count, key_in, key_id_in, keyed_ok, keys_ok}
use Rattle.keys.specs.Keys.{key_id_at, key_state_at, key_index, key_in_state, id_rises, key_ok, key_part_ok}
use Rattle.keys.proofs.FoundKeys.{ValidKeys, valid-keys, index_has, index_of}
use Rattle.bodies.specs.Layout.{layout_of, version_ok}
use Rattle.image.specs.Image.{mark_in}
use Rattle.numbers.specs.Numbers.{agrees}
use Rattle.association.specs.Search.{in_set, serves_channel, body_serves, sees, has_spi, matches}
use Rattle.association.specs.declared.search.Wanted.{Wanted}
use Rattle.marks.proofs.GrayCode.{gray-lt, gray_below, gray-ungray, ungray-gray}
use Rattle.numbers.proofs.LoadedNumbers.{agreed, agreeing}
use Rattle.bodies.proofs.ValidBodies.{ValidBody}
use Rattle.image.proofs.ValidImages.{Keyed, Valid, valid, spi_rises}
use Rattle.judging.specs.Wants.{wanted}
use Rattle.judging.specs.Said.{Said, kind_said}
use Rattle.promises.specs.Forms.{form_of}
use Rattle.promises.specs.Images.{mark_place, code_at, last_at, ServesChannel, BodyRules, KeyRules, ImageRules, size_in, Agreeing, Sees, Serves}
use Rattle.promises.specs.Images.{key_count_in, id_of_key, state_of_key, HasId, KeyInState}
use Rattle.promises.proofs.Fields.{service-at, kind-at, direction-at, state-at, spacecraft-at, channel-at, map_at_lem, window-at}
use Rattle.promises.proofs.Fields.{shapes, stands, last_mask-at, mark-is, set_at, part-place, key-count, key_id, key-state, key_id_at_lem, owner_at_lem}
use Rattle.promises.proofs.Forms.{Describes, described}
use Rattle.promises.proofs.Readings.{form}

-- ---- the marks

module _ (image : List ℕ) (octets : Octets image) (i : ℕ) where
  code_below : code_at image i < 2 ^ 32
  code_below = number_at-lt (mark_place image i) 4 image octets

  -- the code of an entry is that of its mark
  pub code_of_mark : code_at image i ≡ gray (mark_in image i)
  code_of_mark = sym (ap gray (mark-is image i) ∙ gray-ungray (code_at image i) code_below)

  pub mark_of_code : (m : ℕ) → code_at image i ≡ gray m → mark_in image i ≡ m
  mark_of_code m e =
      mark-is image i ∙ ap ungray e ∙ ungray-gray m (gray_below 32 m (omega (arith, code_below)))

-- ---- what the mask covers of a TC header, and which kind has a MAP

mask_of_tc : (number : ℕ) → number ≡ 1 → (kind_of number).under_mask ≡ 5
unfolding named
mask_of_tc number e = rw e

-- kind 2 alone has a MAP
has_map_lem : (number : ℕ) → has_map (kind_of number) ≡ eqb number 2
unfolding named
has_map_lem zero = refl
has_map_lem (suc zero) = refl
has_map_lem (suc (suc zero)) = refl
has_map_lem (suc (suc (suc zero))) = refl
has_map_lem (suc (suc (suc (suc zero)))) = refl
has_map_lem (suc (suc (suc (suc (suc n))))) =
    let other : ℕ = suc (suc (suc (suc (suc n)))) in
    simp (ne_eqb other 1 (omega arith), ne_eqb other 2 (omega arith), ne_eqb other 3 (omega arith), ne_eqb other 4 (omega arith))

-- ---- the versions that there are

known : (version : ℕ) → version_ok version ≡ true → (1 ≤ version) × (version ≤ 4)
unfolding layout_of
known zero e = let z : ◌≡◌ {A = ℕ} 0 1 = cc in absurd (omega arith)
known (suc zero) e = (omega arith, omega arith)
known (suc (suc zero)) e = (omega arith, omega arith)
known (suc (suc (suc zero))) e = (omega arith, omega arith)
known (suc (suc (suc (suc zero)))) e = (omega arith, omega arith)
known (suc (suc (suc (suc (suc n))))) e =
    let other : ℕ = suc (suc (suc (suc (suc n)))) in
    let same : other ≡ 1 =
    eqb-true other 1 (rw (ne_eqb other 4 (omega arith), ne_eqb other 3 (omega arith), ne_eqb other 2 (omega arith)) at e)
    in
    absurd (omega arith)

version_ok_lem : (version : ℕ) → (1 ≤ version) × (version ≤ 4) → version_ok version ≡ true
unfolding layout_of
version_ok_lem zero h = absurd (omega arith)
version_ok_lem (suc zero) h = refl
version_ok_lem (suc (suc zero)) h = refl
version_ok_lem (suc (suc (suc zero))) h = refl
version_ok_lem (suc (suc (suc (suc zero)))) h = refl
version_ok_lem (suc (suc (suc (suc (suc n))))) h = absurd (omega arith)

-- ---- the keys

module _ (image : List ℕ) where
  abbrev at : ℕ
  at = part_at image

  abbrev count : ℕ
  count = key_count image

  -- the size
  pub size_is : image_size image ≡ size_in image
  unfolding image_size
  size_is = rw ((shapes (version_of image)).key_part, part-place image, key-count image)

  below_count : (j : ℕ) → j < key_count_in image → j < count
  below_count j h = omega (arith, key-count image)

  -- a search by ID finds a key that has it
  pub key-there : (id : ℕ) → key_index image at count id < count → HasId image id (key_index image at count id)
  key-there id h =
      record { there = omega (arith, key-count image); ids = sym (key_id image (key_index image at count id)) ∙ index_has image at id count h }

  pub key-found : (id state : ℕ) → key_in image state id ≡ true → KeyInState image id state
  unfolding key_in_state
  key-found id state e = (
    key_index image at count id,
    key-there id (ltb-true (key_index image at count id) count (search and_left)),
    sym (key-state image (key_index image at count id))
        ∙ eqb-true (key_state_at image at (key_index image at count id)) state (search and_right),
  )

  -- and where the IDs rise, the only one
  module _ (v : ValidKeys image at count) where
    pub ids-rise : (i j : ℕ) → i < j → j < count → key_id_at image at i < key_id_at image at j
    ids-rise i zero l h = absurd (omega arith)
    ids-rise i (suc j) l h = by_place (dec_lt i j) (λ m. ids-rise i j m (omega arith))
      where
        by_place : Dec (i < j) → (i < j → key_id_at image at i < key_id_at image at j) → key_id_at image at i < key_id_at image at (suc j)
        by_place (yes m) before = omega (arith, before m, v.rises j h)
        by_place (no g) before = let e : i ≡ j = omega arith in rw e (v.rises j h)

    pub found-key : (id j : ℕ) → HasId image id j → key_index image at count id ≡ j
    found-key id j has =
        ap (key_index image at count) (sym has.ids ∙ sym (key_id image j)) ∙ index_of image at count v j (below_count j has.there)

    pub key_in_state_lem : (id state : ℕ) → KeyInState image id state → key_in image state id ≡ true
    unfolding key_in_state
    key_in_state_lem id state (j, has, same) =
        let e : key_index image at count id ≡ j = found-key id j has in
        rw e (ap₂ ◌&&◌ (lt-ltb j count (below_count j has.there)) (eq-eqb (key_state_at image at j) state (key-state image j ∙ same)))

  module _ (few : key_count_in image ≤ 64) (rising : (j k : ℕ) → j < k → k < key_count_in image → id_of_key image j < id_of_key image k)
      (state : (j : ℕ) → j < key_count_in image → state_of_key image j ≤ 2) where
    id_ok : (k : ℕ) → k < key_count_in image → id_rises image at k ≡ true
    id_ok zero h = refl
    id_ok (suc k) h =
        let here : suc k - 1 ≡ k = omega arith in
        rw (eqb-suc-zero k, here, key_id image k, key_id image (suc k))
        (lt-ltb (id_of_key image k) (id_of_key image (suc k)) (rising k (suc k) (omega arith) h))

    key_ok_lem : (k : ℕ) → k < count → key_ok image at k ≡ true
    unfolding key_ok
    key_ok_lem k h =
        let h2 : k < key_count_in image = omega (arith, key-count image) in
        ap₂ ◌&&◌ (le-leb (key_state_at image at k) 2 (rw (key-state image k) (state k h2))) (id_ok k h2)

    pub part_ok : key_part_ok image at count ≡ true
    unfolding key_part_ok
    part_ok = ap₂ ◌&&◌ (le-leb count 64 (omega (arith, key-count image))) (all_every count (key_ok image at) key_ok_lem)

-- ---- a valid image obeys the rules

module _ (image : List ℕ) (octets : Octets image) where
  pub body-rules : (i : ℕ) → ValidBody (version_of image) (body_of image i) → BodyRules image i
  unfolding mark_in
  body-rules i b =
      let kinds = kind-at image i in
      let f = described (kind_in (body_of image i)) in
      let a = b.kind in
      record {
        service = rw (← service-at image i) b.service;
        kind = rw (← kind-at image i) a.number;
        direction = rw (← direction-at image i) b.direction;
        state = rw (← state-at image i) b.state;
        spacecraft = rw (← spacecraft-at image i, ← kinds, f.most_spacecraft) a.spacecraft;
        channel = λ one. rw (← channel-at image i, ← kinds, f.most_channel) (a.channel (set_at image i ∙ one));
        channels = λ set. rw (← channel-at image i) (a.channels (set_at image i ∙ set));
        map = rw (← map_at_lem image i, ← kinds, f.most_map) a.map;
        window = λ serves. rw (← window-at image i) (b.window (state-at image i ∙ serves));
        mask = λ tc. sym (last_mask-at image i) ∙ (rw (mask_of_tc (kind_in (body_of image i)) (kinds ∙ tc)) at a.mask);
        mark = rw (code_of_mark image octets i) (gray-lt 26 (mark_in image i) b.mark);
        owner = rw (← owner_at_lem image i) b.owner;
      }

  key-rules : Keyed image → KeyRules image
  key-rules k =
      record {
        spi = k.spi;
        position = k.position ∙ part-place image;
        count = rw (← key-count image) k.keys.few;
        rising = λ i j l h.
            rw (← key_id image i, ← key_id image j) (ids-rise image k.keys i j l (rw (key-count image) h));
        state = λ j h. rw (← key-state image j) (k.keys.state j (rw (key-count image) h));
        active = λ i h serves.
            rw (← key_id_at_lem image i) (key-found image (key_id_in image i) 1 (k.serves i h (state-at image i ∙ serves)));
      }

  pub rules-kept : valid_image image ≡ true → ImageRules image
  rules-kept passed =
      let v : Valid image = valid image passed in
      record {
        version = known (version_of image) v.laid.version;
        count = v.laid.count;
        size = v.laid.size ∙ size_is image;
        spi = λ i h. (v.entry i h).spi;
        rising = spi_rises image v;
        position = λ i h. (v.entry i h).position ∙ sym (add-zero (body_at image i)) ∙ stands image i 0;
        body = λ i h. body-rules i (v.entry i h).body;
        keys = λ has. key-rules (v.keyed ((shapes (version_of image)).key_part ∙ has));
      }

-- ---- and one that obeys the rules is valid

pub between_tested : (low x high : ℕ) → (low ≤ x) × (x ≤ high) → (leb low x && leb x high) ≡ true
between_tested low x high h = ap₂ ◌&&◌ (le-leb low x h.0) (le-leb x high h.1)

pub implied : (a b : Bool) → (a ≡ true → b ≡ true) → (not a || b) ≡ true
implied true b h = h refl
implied false b h = refl

pub implies : (a b : Bool) → (not a || b) ≡ true → a ≡ true → b ≡ true
implies true b h e = h
implies false b h e = let z : ◌≡◌ {A = ℕ} 0 1 = cc in absurd (omega arith)

-- a test of two, chosen by a third
chosen : (t a b : Bool) → (t ≡ true → a ≡ true) → (t ≡ false → b ≡ true) → cond t a b ≡ true
chosen true a b f g = f refl
chosen false a b f g = g refl

kind_ok_lem : (version number : ℕ) (body : List ℕ) → (1 ≤ number) × (number ≤ 4) → spacecraft_of body ≤ (kind_of number).most_spacecraft
    → channel_ok version (kind_of number) body ≡ true → map_of body ≤ (kind_of number).most_map
    → (number ≡ 1 → octet (mask_of body) 5 ≡ 0) → kind_ok version (named number) body ≡ true
unfolding named
kind_ok_lem version zero body h s c m k = absurd (omega arith)
kind_ok_lem version (suc zero) body h s c m k =
    ap₂ ◌&&◌ (ap₂ ◌&&◌ (ap₂ ◌&&◌ (le-leb _ _ s) c) (le-leb _ _ m)) (eq-eqb (octet (mask_of body) 5) 0 (k refl))
kind_ok_lem version (suc (suc zero)) body h s c m k =
    ap₂ ◌&&◌ (ap₂ ◌&&◌ (ap₂ ◌&&◌ (le-leb _ _ s) c) (le-leb _ _ m)) refl
kind_ok_lem version (suc (suc (suc zero))) body h s c m k =
    ap₂ ◌&&◌ (ap₂ ◌&&◌ (ap₂ ◌&&◌ (le-leb _ _ s) c) (le-leb _ _ m)) refl
kind_ok_lem version (suc (suc (suc (suc zero)))) body h s c m k =
    ap₂ ◌&&◌ (ap₂ ◌&&◌ (ap₂ ◌&&◌ (le-leb _ _ s) c) (le-leb _ _ m)) refl
kind_ok_lem version (suc (suc (suc (suc (suc n))))) body h s c m k = absurd (omega arith)

module _ (image : List ℕ) (octets : Octets image) where
  module _ (i : ℕ) (b : BodyRules image i) where
    abbrev body : List ℕ
    body = body_of image i

    limits : Describes (form_of (kind_in body)) (kind_of (kind_in body))
    limits = described (kind_in body)

    mark_fits : mark_in image i < 2 ^ 26
    mark_fits = gray_below 26 (mark_in image i) (rw (code_of_mark image octets i) at b.mark)

    channel_ok_lem : channel_ok (version_of image) (kind_of (kind_in body)) body ≡ true
    channel_ok_lem =
        chosen (holds_set (version_of image) body) (leb 1 (channel_of body)) (leb (channel_of body) (kind_of (kind_in body)).most_channel)
        (λ set. le-leb 1 (channel_of body) (rw (channel-at image i) (b.channels (sym (set_at image i) ∙ set))))
        (λ one.
        le-leb (channel_of body) (kind_of (kind_in body)).most_channel
        (rw (channel-at image i, ← limits.most_channel, kind-at image i) (b.channel (sym (set_at image i) ∙ one))))

    window_ok_lem : window_ok body ≡ true
    window_ok_lem = by_state (eqb (state_of body) 2) refl
      where
        by_state : (t : Bool) → eqb (state_of body) 2 ≡ t → (not t || window_fits (window_of body)) ≡ true
        by_state true e =
            between_tested 1 (window_of body) 1024 (rw (window-at image i) (b.window (sym (state-at image i) ∙ eqb-true (state_of body) 2 e)))
        by_state false e = refl

    pub body_ok_lem : body_ok (version_of image) body ≡ true
    unfolding body_ok mark_in
    body_ok_lem =
        ap₂ ◌&&◌
        (ap₂ ◌&&◌
        (ap₂ ◌&&◌
        (ap₂ ◌&&◌
        (ap₂ ◌&&◌
        (ap₂ ◌&&◌ (between_tested 1 (service_of body) 2 (rw (service-at image i) b.service))
        (between_tested 1 (direction_of body) 2 (rw (direction-at image i) b.direction)))
        (le-leb (state_of body) 2 (rw (state-at image i) b.state)))
        (kind_ok_lem (version_of image) (kind_in body) body (rw (kind-at image i) b.kind)
        (rw (spacecraft-at image i, ← limits.most_spacecraft, kind-at image i) b.spacecraft)
        channel_ok_lem
        (rw (map_at_lem image i, ← limits.most_map, kind-at image i) b.map)
        (λ e. last_mask-at image i ∙ b.mask (sym (kind-at image i) ∙ e))))
        window_ok_lem)
        (lt-ltb (mark_in image i) (2 ^ 26) mark_fits))
        (between_tested 1 (owner_of (version_of image) body) 2 (rw (owner_at_lem image i) b.owner))

module _ (image : List ℕ) (octets : Octets image) (rules : ImageRules image) where
  before_below : (i : ℕ) → i < count_of image → spi_before image i < spi_of image i
  before_below zero h = omega (arith, (rules.spi 0 h).0)
  before_below (suc i) h = let here : suc i - 1 ≡ i = omega arith in rw (eqb-suc-zero i, here) (rules.rising i (suc i) (omega arith) h)

  entry_ok_lem : (i : ℕ) → i < count_of image → entry_ok image i ≡ true
  unfolding entry_ok
  entry_ok_lem i h =
      ap₂ ◌&&◌
      (ap₂ ◌&&◌ (between_tested 1 (spi_of image i) 65534 (rules.spi i h)) (lt-ltb (spi_before image i) (spi_of image i) (before_below i h)))
      (eq-eqb (position_of image i) (body_at image i) (rules.position i h ∙ sym (stands image i 0) ∙ add-zero (body_at image i)))

  laid_ok : laid_out image ≡ true
  unfolding laid_out
  laid_ok =
      ap₂ ◌&&◌ (ap₂ ◌&&◌ (version_ok_lem (version_of image) rules.version) (le-leb (count_of image) 32 rules.count))
      (eq-eqb (length image) (image_size image) (rules.size ∙ sym (size_is image)))

  -- each operational body names an active key
  keyed_ok_lem : KeyRules image → key_part_ok image (part_at image) (key_count image) ≡ true → (i : ℕ) → i < count_of image → keyed_ok image i ≡ true
  keyed_ok_lem k ok i h =
      implied (eqb (state_of (body_of image i)) 2) (key_in image 1 (key_id_in image i))
      (λ serves.
      key_in_state_lem image (valid-keys image (part_at image) (key_count image) ok) (key_id_in image i) 1
      (rw (key_id_at_lem image i) (k.active i h (sym (state-at image i) ∙ eqb-true (state_of (body_of image i)) 2 serves))))

  keys_ok_lem : keys_ok image ≡ true
  unfolding keys_ok
  keys_ok_lem =
      implied (layout image).keys _
      (λ has.
      let k : KeyRules image = rules.keys (sym (shapes (version_of image)).key_part ∙ has) in
      let ok : key_part_ok image (part_at image) (key_count image) ≡ true = part_ok image k.count k.rising k.state in
      ap₂ ◌&&◌
      (ap₂ ◌&&◌
      (ap₂ ◌&&◌ (eq-eqb (spi_of image (count_of image)) 65535 k.spi)
      (eq-eqb (position_of image (count_of image)) (part_at image) (k.position ∙ sym (part-place image)))) ok)
      (all_every (count_of image) (keyed_ok image) (keyed_ok_lem k ok)))

  pub rules-valid : valid_image image ≡ true
  unfolding valid_image
  rules-valid =
      ap₂ ◌&&◌
      (ap₂ ◌&&◌ laid_ok (all_every (count_of image) _ (λ i h. ap₂ ◌&&◌ (entry_ok_lem i h) (body_ok_lem image octets i (rules.body i h))))) keys_ok_lem

-- ---- agreement

module _ (image numbers : List ℕ) (octets : Octets image) where
  pub agreement : agrees image numbers ≡ true → Agreeing image numbers
  agreement e =
      record { marks = λ i h. code_of_mark image octets i ∙ ap gray (sym (agreed image numbers e i h)) }

  pub agreement_tested : Agreeing image numbers → agrees image numbers ≡ true
  agreement_tested a =
      agreeing image numbers (λ i h. sym (mark_of_code image octets i (last_at numbers i / 64) (a.marks i h)))

-- ---- the entry that serves a frame

-- its channels
module _ (image : List ℕ) (i : ℕ) where
  pub channel-served : (channel : ℕ) → serves_channel (version_of image) (body_of image i) channel ≡ true → ServesChannel image i channel
  channel-served channel e =
      record {
        one = λ one. sym (channel-at image i) ∙ eqb-true (channel_of (body_of image i)) channel (rw (set_at image i ∙ one) at e);
        set = λ set.
            let held : in_set (channel_of (body_of image i)) channel ≡ true = rw (set_at image i ∙ set) at e in (
              ltb-true channel 8 (search and_left),
              rw (← channel-at image i) (eqb-true (channel_of (body_of image i) / 2 ^ channel % 2) 1 (search and_right)),
            );
      }

  pub serves-channel : (channel : ℕ) → ServesChannel image i channel → serves_channel (version_of image) (body_of image i) channel ≡ true
  serves-channel channel s =
      let body = body_of image i in
      chosen (holds_set (version_of image) body) (in_set (channel_of body) channel) (eqb (channel_of body) channel)
      (λ set.
      let h = s.set (sym (set_at image i) ∙ set) in
      ap₂ ◌&&◌ (lt-ltb channel 8 h.0) (eq-eqb (channel_of body / 2 ^ channel % 2) 1 (rw (channel-at image i) h.1)))
      (λ one. eq-eqb (channel_of body) channel (channel-at image i ∙ s.one (sym (set_at image i) ∙ one)))

-- whether the desk sees it
module _ (image : List ℕ) (desk i : ℕ) where
  pub seen-kept : sees desk (owner_of (version_of image) (body_of image i)) ≡ true → Sees image desk i
  seen-kept e = by-office (eqb desk 0) refl e
    where
      by-office : (t : Bool) → eqb desk 0 ≡ t → (t || eqb desk (owner_of (version_of image) (body_of image i))) ≡ true → Sees image desk i
      by-office true office e2 = inl (eqb-true desk 0 office)
      by-office false other e2 = inr (sym (owner_at_lem image i) ∙ sym (eqb-true desk (owner_of (version_of image) (body_of image i)) e2))

  pub seen_tested : Sees image desk i → sees desk (owner_of (version_of image) (body_of image i)) ≡ true
  seen_tested (inl office) = rw office
  seen_tested (inr own) =
      let e : desk ≡ owner_of (version_of image) (body_of image i) = sym own ∙ sym (owner_at_lem image i) in
      rw (eq-eqb desk (owner_of (version_of image) (body_of image i)) e) (or-true (eqb desk 0))

  -- a desk that sees an entry of a valid image is one of the three
  pub desk-known : BodyRules image i → Sees image desk i → desk ≤ 2
  desk-known b (inl office) = omega arith
  desk-known b (inr own) = omega (arith, b.owner.1)

module _ (image : List ℕ) (desk spi i : ℕ) where
  pub named-kept : has_spi image desk spi i ≡ true → (spi_of image i ≡ spi) × Sees image desk i
  unfolding has_spi
  named-kept e = (eqb-true (spi_of image i) spi (search and_left), seen-kept image desk i (search and_right))

  pub named_tested : spi_of image i ≡ spi → Sees image desk i → has_spi image desk spi i ≡ true
  unfolding has_spi
  named_tested spis s = ap₂ ◌&&◌ (eq-eqb (spi_of image i) spi spis) (seen_tested image desk i s)

module _ (image : List ℕ) (direction : ℕ) (said : Said) (spi : ℕ) (frame : List ℕ) (i : ℕ) where
  abbrev w : Wanted
  w = wanted spi direction said frame

  pub serving : i < count_of image → matches image w i ≡ true → Serves image direction said spi frame i
  unfolding matches body_serves wanted
  serving below e =
      let body = body_of image i in
      record {
        entry = below;
        spis = (named-kept image said.desk spi i (search and_left)).0;
        seen = (named-kept image said.desk spi i (search and_left)).1;
        state = sym (state-at image i) ∙ eqb-true (state_of body) 2 (search (and_left, and_right));
        directions = sym (direction-at image i) ∙ eqb-true (direction_of body) direction (search (and_left, and_right));
        kinds = sym (kind-at image i) ∙ eqb-true (kind_in body) said.kind (search (and_left, and_right));
        spacecraft =
            sym (spacecraft-at image i)
            ∙ eqb-true (spacecraft_of body) ((kind_said said).spacecraft frame) (search (and_left, and_right))
            ∙ sym ((form said).spacecraft frame);
        channel = rw ((form said).channel frame) (channel-served image i ((kind_said said).channel frame) (search (and_left, and_right)));
        map = λ e2.
            sym (map_at_lem image i)
            ∙ eqb-true (map_of body) ((kind_said said).map frame)
            (implies (has_map (kind_of (kind_in body))) (eqb (map_of body) ((kind_said said).map frame)) (search (and_left, and_right))
            (has_map_lem (kind_in body) ∙ eq-eqb (kind_in body) 2 (eqb-true (kind_in body) said.kind (search (and_left, and_right)) ∙ e2)))
            ∙ sym ((form said).map frame);
      }

  pub served : Serves image direction said spi frame i → matches image w i ≡ true
  unfolding matches body_serves wanted
  served s =
      let body = body_of image i in
      ap₂ ◌&&◌ (named_tested image said.desk spi i s.spis s.seen)
      (ap₂ ◌&&◌
      (ap₂ ◌&&◌
      (ap₂ ◌&&◌
      (ap₂ ◌&&◌
      (ap₂ ◌&&◌ (eq-eqb (state_of body) 2 (state-at image i ∙ s.state))
      (eq-eqb (direction_of body) direction (direction-at image i ∙ s.directions)))
      (eq-eqb (kind_in body) said.kind (kind-at image i ∙ s.kinds)))
      (eq-eqb (spacecraft_of body) ((kind_said said).spacecraft frame) (spacecraft-at image i ∙ s.spacecraft ∙ (form said).spacecraft frame)))
      (serves-channel image i ((kind_said said).channel frame) (rw ((form said).channel frame) at s.channel)))
      (implied (has_map (kind_of (kind_in body))) (eqb (map_of body) ((kind_said said).map frame))
      (λ e2.
      eq-eqb (map_of body) ((kind_said said).map frame)
      (map_at_lem image i ∙ s.map (sym (kind-at image i ∙ s.kinds) ∙ eqb-true (kind_in body) 2 (sym (has_map_lem (kind_in body)) ∙ e2)) ∙ (form said).map frame))))
