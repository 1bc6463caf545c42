-- Of two images that differ at most in state and window of one entry, the layout, the contents, the other bodies and every other field of
-- that entry's body are the same; and if the state and the window are allowed, the image stays valid.
-- Assumes nothing.
use mathlib.Core.Path.{◌≡◌, refl, sym, ap, ap₂, ◌∙◌}
use mathlib.Core.Logic.{◌≢◌, inl, inr}
use mathlib.Core.Bool.{Bool, true, false, not, ◌&&◌, ◌||◌}
use mathlib.Core.List.{List}
use Prim.Native.Nat.{ℕ, ◌+◌, ◌≤◌, ◌<◌}
use native.Mathlib.Decide.{ℕ_discrete}
use native.Mathlib.Nat.{add-zero}
use native.Mathlib.Omega.{arith}
use lib.ListN.{length}
use Rattle.std.specs.Prelude.{Option, Some, None}
use Rattle.octets.specs.Lists.{octet, all}
use lib.Dec.{eqb}
use Rattle.octets.proofs.Alls.{and_left, and_right, all_every}
use Rattle.octets.proofs.Numbers.{number_at-same}
use Rattle.octets.proofs.Outside.{Outside}
use Rattle.octets.proofs.Parts.{part_same}
use Rattle.kinds.specs.Kinds.{named}
use Rattle.kinds.specs.declared.kinds.Kind as code
use Rattle.marks.specs.Gray.{code_length, ungray}
use Rattle.bodies.specs.Body.{state_of, operational, key_id_of, service_of, kind_in, direction_of, spacecraft_of, channel_of, map_of, mask_of, mark_of, owner_of}
use Rattle.bodies.specs.Body.{service_ok, direction_ok, state_ok, kind_ok, window_ok, mark_ok, owner_ok, body_ok}
use Rattle.bodies.specs.Layout.{service_place, kind_place, direction_place, state_place, spacecraft_place, channel_place, map_place, window_place}
use Rattle.bodies.specs.Layout.{mask_place, mask_length, id_length, fields_end, owner_place, layout_of, Lawful}
use Rattle.keys.specs.Keys.{active}
use Rattle.bodies.proofs.Layouts.{lawful, fields-inside, id_before}
use Rattle.image.specs.Image.{version_of, count_of, layout, body_at, body_of, mark_in, key_in, key_id_in, entry_ok, keyed_ok, valid_image}
use Rattle.image.proofs.ValidImages.{ruled, valid-laid, valid_ruled, valid-keyed, valid_serving}
use Rattle.image.proofs.KeptParts.{Within, kept-version, kept-count, kept-laid, kept_entry, kept-place, kept-body, kept_in, kept-keyed}
use Rattle.image.proofs.Places.{octet-body}

-- ---- two bodies with the same fields but for state and window

pub record SameRest (version : ℕ) (body other : List ℕ) : Type 0 where
  pub service : service_of other ≡ service_of body
  pub kind : kind_in other ≡ kind_in body
  pub direction : direction_of other ≡ direction_of body
  pub spacecraft : spacecraft_of other ≡ spacecraft_of body
  pub channel : channel_of other ≡ channel_of body
  pub map : map_of other ≡ map_of body
  pub mask : mask_of other ≡ mask_of body
  pub mark : mark_of version other ≡ mark_of version body
  pub owner : owner_of version other ≡ owner_of version body

-- an octet of a body that no command stores to, but for the mark
pub record Steady (version k : ℕ) : Type 0 where
  pub state : k ≢ state_place
  pub high : k ≢ window_place
  pub low : k ≢ window_place + 1
  pub id : (layout_of version).keys ≡ true → (k ≢ (layout_of version).key) × (k ≢ (layout_of version).key + 1)

-- the owner stands behind the mark, if the version has owners
same-owner : (version : ℕ) (body other : List ℕ)
    → ((k : ℕ) → (layout_of version).mark ≤ k → k < (layout_of version).body → octet other k ≡ octet body k)
    → owner_of version other ≡ owner_of version body
same-owner version body other same = of (layout_of version).owners refl
  where
    of : (t : Bool) → (layout_of version).owners ≡ t → owner_of version other ≡ owner_of version body
    of true has = rw has (same (owner_place (layout_of version)) (omega arith) ((lawful version).owner has))
    of false none = rw none

pub same_rest : (version : ℕ) (body other : List ℕ) → ((k : ℕ) → k < (layout_of version).body → Steady version k → octet other k ≡ octet body k)
    → SameRest version body other
same_rest version body other same =
    let l : Lawful (layout_of version) = lawful version in
    let inside : fields_end ≤ (layout_of version).body = (fields-inside version).1 in
    let early : (k : ℕ) → k < state_place → octet other k ≡ octet body k =
    λ k h.
    same k (omega arith)
    (record { state = λ e. omega arith; high = λ e. omega arith; low = λ e. omega arith; id = λ t. ((λ e. omega arith), (λ e. omega arith)) })
    in
    let between : (k : ℕ) → state_place < k → k < window_place → octet other k ≡ octet body k =
    λ k h m.
    same k (omega arith)
    (record { state = λ e. omega arith; high = λ e. omega arith; low = λ e. omega arith; id = λ t. ((λ e. omega arith), (λ e. omega arith)) })
    in
    let late : (k : ℕ) → window_place + 1 < k → k < fields_end → octet other k ≡ octet body k =
    λ k h m.
    same k (omega arith)
    (record { state = λ e. omega arith; high = λ e. omega arith; low = λ e. omega arith; id = λ t. ((λ e. omega arith), (λ e. omega arith)) })
    in
    let before : (layout_of version).key + id_length ≤ (layout_of version).mark = id_before version in
    let last : (k : ℕ) → (layout_of version).mark ≤ k → k < (layout_of version).body → octet other k ≡ octet body k =
    λ k h m.
    same k m
    (record { state = λ e. omega arith; high = λ e. omega arith; low = λ e. omega arith; id = λ t. ((λ e. omega arith), (λ e. omega arith)) })
    in
    record {
      service = early service_place (omega arith);
      kind = early kind_place (omega arith);
      direction = early direction_place (omega arith);
      spacecraft = number_at-same spacecraft_place 2 other body (λ i h. between (spacecraft_place + i) (omega arith) (omega arith));
      channel = between channel_place (omega arith) (omega arith);
      map = between map_place (omega arith) (omega arith);
      mask = part_same mask_place mask_length other body (λ i h. late (mask_place + i) (omega arith) (omega arith));
      mark =
          ap ungray
          (number_at-same (layout_of version).mark code_length other body
          (λ i h. last ((layout_of version).mark + i) (omega arith) (omega arith)));
      owner = same-owner version body other last;
    }

same_kind : (version : ℕ) (body other : List ℕ) → SameRest version body other
    → (x : Option code.Kind) → kind_ok version x other ≡ kind_ok version x body
same_kind version body other f (Some k) = cc
same_kind version body other f None = refl

pub rules_again : (version : ℕ) (body other : List ℕ) → SameRest version body other → body_ok version body ≡ true
    → state_ok other ≡ true → window_ok other ≡ true → body_ok version other ≡ true
unfolding body_ok
rules_again version body other f e state window =
    let h1 : service_ok body ≡ true = search (and_left, and_right) in
    let h2 : direction_ok body ≡ true = search (and_left, and_right) in
    let h3 : kind_ok version (named (kind_in body)) body ≡ true = search (and_left, and_right) in
    let h4 : mark_ok version body ≡ true = search (and_left, and_right) in
    let h5 : owner_ok version body ≡ true = search (and_left, and_right) in
    let g1 : service_ok other ≡ true = cc in
    let g2 : direction_ok other ≡ true = cc in
    let g3 : kind_ok version (named (kind_in other)) other ≡ true =
    ap (λ (k : ℕ). kind_ok version (named k) other) f.kind ∙ same_kind version body other f (named (kind_in body)) ∙ h3 in
    let g4 : mark_ok version other ≡ true = cc in
    let g5 : owner_ok version other ≡ true = cc in
    ap₂ ◌&&◌ (ap₂ ◌&&◌ (ap₂ ◌&&◌ (ap₂ ◌&&◌ (ap₂ ◌&&◌ (ap₂ ◌&&◌ g1 g2) state) g3) window) g4) g5

-- ---- two images that differ at most in state and window of entry i and, where there is a key part, in the key's ID

-- a place of the image that is none of these
pub record Elsewhere (image : List ℕ) (i p : ℕ) : Type 0 where
  pub state : p ≢ body_at image i + state_place
  pub high : p ≢ body_at image i + window_place
  pub low : p ≢ body_at image i + (window_place + 1)
  pub id : (layout image).keys ≡ true → (p ≢ body_at image i + (layout image).key) × (p ≢ body_at image i + ((layout image).key + 1))

pub record FieldsOnly (image : List ℕ) (i : ℕ) (after : List ℕ) : Type 0 where
  pub listed : i < count_of image
  pub long : length after ≡ length image
  pub outside : (p : ℕ) → Elsewhere image i p → octet after p ≡ octet image p

-- the test of entry and body in a valid image
pub entry_passes : (image : List ℕ) → valid_image image ≡ true → (j : ℕ) → j < count_of image
    → (entry_ok image j ≡ true) × (body_ok (version_of image) (body_of image j) ≡ true)
entry_passes image passed j h =
    let both = valid_ruled image passed j h in
    (and_left (entry_ok image j) _ both, and_right (entry_ok image j) _ both)

module _ {image : List ℕ} {i : ℕ} {after : List ℕ} (only : FieldsOnly image i after) where
  -- all of them stand in the body
  pub fields_within : Within image i 0 (layout image).body after
  fields_within =
      record {
        listed = only.listed;
        inside = omega arith;
        only = rw (add-zero (body_at image i)) (record { long = only.long; outside = by_side });
      }
    where
      by_side : (p : ℕ) → Outside (body_at image i) (layout image).body p → octet after p ≡ octet image p
      by_side p (inl h) =
          only.outside p
          (record {
            state = λ e. omega arith;
            high = λ e. omega arith;
            low = λ e. omega arith;
            id = λ t. ((λ e. omega arith), (λ e. omega arith));
          })
      by_side p (inr h) =
          let long : fields_end ≤ (layout image).body = (fields-inside (version_of image)).1 in
          let before : (layout image).key + id_length ≤ (layout image).mark = id_before (version_of image) in
          let l : Lawful (layout image) = lawful (version_of image) in
          only.outside p
          (record {
            state = λ e. omega arith;
            high = λ e. omega arith;
            low = λ e. omega arith;
            id = λ t. ((λ e. omega arith), (λ e. omega arith));
          })

  pub octet-after : (k : ℕ) → k < (layout image).body → octet (body_of after i) k ≡ octet after (body_at image i + k)
  octet-after k h =
      octet-body after i k (rw (← kept-version fields_within) at h) ∙ ap (λ (b : ℕ). octet after (b + k)) (kept-place fields_within i)

  kept-octet : (k : ℕ) → k < (layout image).body → Steady (version_of image) k → octet (body_of after i) k ≡ octet (body_of image i) k
  kept-octet k h s =
      octet-after k h
      ∙ only.outside (body_at image i + k)
      (record {
        state = λ e. s.state (omega arith);
        high = λ e. s.high (omega arith);
        low = λ e. s.low (omega arith);
        id = λ t. ((λ e. (s.id t).0 (omega arith)), (λ e. (s.id t).1 (omega arith)));
      })
      ∙ sym (octet-body image i k h)

  pub kept-rest : SameRest (version_of image) (body_of image i) (body_of after i)
  kept-rest = same_rest (version_of image) (body_of image i) (body_of after i) kept-octet

  pub kept-marks : (j : ℕ) → mark_in after j ≡ mark_in image j
  unfolding mark_in
  kept-marks j = by-entry (ℕ_discrete j i)
    where
      by-entry : Dec (j ≡ i) → mark_in after j ≡ mark_in image j
      by-entry (yes e) = rw e (ap (λ (v : ℕ). mark_of v (body_of after i)) (kept-version fields_within) ∙ kept-rest.mark)
      by-entry (no other) = ap₂ (λ (v : ℕ) (b : List ℕ). mark_of v b) (kept-version fields_within) (kept-body fields_within j other)

  -- the other bodies name the keys that they named
  kept_serving : (j : ℕ) → j ≢ i → keyed_ok after j ≡ keyed_ok image j
  kept_serving j other =
      rw (kept-body fields_within j other)
      (ap (λ (v : ℕ). not (eqb (state_of (body_of image j)) operational) || key_in after active (key_id_of v (body_of image j))) (kept-version fields_within)
      ∙ ap (λ (t : Bool). not (eqb (state_of (body_of image j)) operational) || t) (kept_in fields_within active (key_id_in image j)))

  -- the image stays valid, if state and window are allowed, and the body names an active key if it is operational
  pub fields-valid : valid_image image ≡ true → state_ok (body_of after i) ≡ true → window_ok (body_of after i) ≡ true
      → ((layout image).keys ≡ true → keyed_ok after i ≡ true) → valid_image after ≡ true
  unfolding valid_image
  fields-valid passed state window serves =
      ap₂ ◌&&◌
      (ap₂ ◌&&◌ (kept-laid fields_within ∙ valid-laid image passed)
      (ap (λ (k : ℕ). all k (ruled after)) (kept-count fields_within)
      ∙ all_every (count_of image) (ruled after) (λ j h. ap₂ ◌&&◌ (kept_entry fields_within j h ∙ (entry_passes image passed j h).0) (body_again j h))))
      (kept-keyed fields_within keyed_again ∙ valid-keyed image passed)
    where
      keyed_again : (j : ℕ) → j < count_of image → (layout image).keys ≡ true → keyed_ok after j ≡ keyed_ok image j
      keyed_again j h has = by-entry (ℕ_discrete j i)
        where
          by-entry : Dec (j ≡ i) → keyed_ok after j ≡ keyed_ok image j
          by-entry (yes e) = rw e (serves has ∙ sym (valid_serving image passed has i only.listed))
          by-entry (no other) = kept_serving j other

      body_again : (j : ℕ) → j < count_of image → body_ok (version_of after) (body_of after j) ≡ true
      body_again j h = ap (λ (v : ℕ). body_ok v (body_of after j)) (kept-version fields_within) ∙ by-entry (ℕ_discrete j i)
        where
          by-entry : Dec (j ≡ i) → body_ok (version_of image) (body_of after j) ≡ true
          by-entry (yes e) =
              rw e
              (rules_again (version_of image) (body_of image i) (body_of after i) kept-rest (entry_passes image passed i only.listed).1 state window)
          by-entry (no other) = ap (body_ok (version_of image)) (kept-body fields_within j other) ∙ (entry_passes image passed j h).1
