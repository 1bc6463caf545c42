-- Two images that differ in what commands may change alone, states, windows, key IDs and marks of bodies and states of keys, have the same
-- version, contents, services and directions; and so have the first and the last of several.
-- Assumes nothing.
use Prim.Native.Nat.{ℕ, ◌+◌, ◌*◌, ◌≤◌, ◌<◌}
use mathlib.Core.Path.{◌≡◌, refl, sym, ap, ap₂, ◌∙◌}
use mathlib.Core.Logic.{◌⊎◌, ◌≢◌, inl, inr}
use mathlib.Core.Bool.{true, cond}
use mathlib.Core.List.{List}
use native.Mathlib.Decide.{dec_lt}
use native.Mathlib.Omega.{arith}
use lib.ListN.{length, set, length-set}
use lib.Seq.{get_or-set_other}
use Rattle.octets.specs.Lists.{octet}
use Rattle.octets.proofs.Numbers.{number_at-same}
use Rattle.bodies.specs.Layout.{layout_of}
use Rattle.bodies.proofs.Layouts.{ends_before}
use Rattle.keys.specs.Keys.{key_state_place}
use Rattle.image.specs.Image.{body_at, part_at, key_count, key_with}
use Rattle.promises.specs.Images.{version_in, shape_in, count_in, spi_at, place, mark_place, direction_at, part_place, key_count_in}
use Rattle.promises.specs.Versions.{shape_of}
use Rattle.promises.proofs.Unmarked as marks
use Rattle.commands.proofs.Managed.{Managed}
use Rattle.promises.proofs.Fields.{Shapes, shapes, stands, key-count, key-place}
use Rattle.promises.proofs.Stored.{outside}
use Rattle.command_promises.specs.Runs.{Elsewhere, Unmanaged}

pub record Same (before image : List ℕ) : Type 0 where
  pub size : length image ≡ length before
  pub elsewhere : (p : ℕ) → Unmanaged before p → octet image p ≡ octet before p

pub same_itself : (image : List ℕ) → Same image image
same_itself image = record { size = refl; elsewhere = λ p u. refl }

-- images that differ in marks alone
pub same-marks : (before image : List ℕ) → marks.Same before image → Same before image
same-marks before image s = record { size = s.size; elsewhere = λ p u. s.elsewhere p (λ i h. (u.entry i h).mark) }

-- an image that a command stored to, in a body
pub same_managed : (before : List ℕ) (i : ℕ) (image : List ℕ) → i < count_in before → Managed before i image → Same before image
same_managed before i image listed m =
    let r = shapes (version_in before) in
    record {
      size = m.long;
      elsewhere = λ p u.
          let s = u.entry i listed in
          m.fixed p
          (record {
            state = λ e. s.state (e ∙ stands before i 3);
            high = λ e. s.high (e ∙ stands before i 8);
            low = λ e. s.low (e ∙ stands before i 9);
            id = λ has. (
              λ e. s.key_high (sym r.key_part ∙ has) (e ∙ ap (λ (k : ℕ). body_at before i + k) r.key ∙ stands before i 16),
              λ e. s.key_low (sym r.key_part ∙ has) (e ∙ ap (λ (k : ℕ). body_at before i + (k + 1)) r.key ∙ stands before i 17),
            );
            mark = outside before i p s.mark;
          });
    }

-- and in the key part
pub same_turned : (before : List ℕ) (id state : ℕ) → key_with before id < key_count before
    → Same before (set before (key_state_place (part_at before) (key_with before id)) state)
same_turned before id state known =
    let at = key_state_place (part_at before) (key_with before id) in
    record {
      size = length-set before at state;
      elsewhere = λ p u.
          get_or-set_other before at p state 0
          (λ e.
          u.key (key_with before id) (omega (arith, key-count before)) (e ∙ ap (λ (k : ℕ). k + 2) (key-place before (key_with before id))));
    }

-- ---- what stays where it is

module _ (image : List ℕ) where
  abbrev r : Shapes (shape_in image) (layout_of (version_in image))
  r = shapes (version_in image)

  -- the contents end before the first body
  in_contents : (p : ℕ) → p < 2 + 4 * count_in image → Unmanaged image p
  in_contents p h =
      record {
        entry = λ i below.
            record {
              state = λ e. omega (arith, r.begins);
              high = λ e. omega (arith, r.begins);
              low = λ e. omega (arith, r.begins);
              key_high = λ t e. omega (arith, r.begins);
              key_low = λ t e. omega (arith, r.begins);
              mark = inl (omega (arith, r.begins));
            };
        key = λ k below e. omega (arith, r.begins);
      }

  -- an octet of a body that no command stores to
  pub record Steady (j : ℕ) : Type 0 where
    pub inside : j < (shape_in image).body
    pub state : j ≢ 3
    pub high : j ≢ 8
    pub low : j ≢ 9
    pub key_high : (shape_in image).key_part ≡ true → j ≢ 16
    pub key_low : (shape_in image).key_part ≡ true → j ≢ 17
    pub mark : j < (shape_in image).mark

  pub in_body : (e j : ℕ) → e < count_in image → Steady j → Unmanaged image (place image e j)
  in_body e j listed s = record { entry = λ i below. at i (dec_lt i e) (dec_lt e i); key = λ k below q. omega (arith, s.inside, before_end) }
    where
      before_end : (shape_in image).body * e + (shape_in image).body ≤ (shape_in image).body * count_in image
      before_end = ends_before (shape_in image).body e (count_in image) listed

      at : (i : ℕ) → Dec (i < e) → Dec (e < i) → Elsewhere image i (place image e j)
      at i (yes l) d =
          let b = ends_before (shape_in image).body i e l in
          let h = r.holds in
          let n = r.inside in
          record {
            state = λ q. omega arith;
            high = λ q. omega arith;
            low = λ q. omega arith;
            key_high = λ t q. omega arith;
            key_low = λ t q. omega arith;
            mark = inr (omega arith);
          }
      at i (no l) (yes m) =
          let b = ends_before (shape_in image).body e i m in
          let h = s.inside in
          record {
            state = λ q. omega arith;
            high = λ q. omega arith;
            low = λ q. omega arith;
            key_high = λ t q. omega arith;
            key_low = λ t q. omega arith;
            mark = inl (omega arith);
          }
      at i (no l) (no m) =
          let own : i ≡ e = omega arith in
          rw own
          (record {
            state = λ q. s.state (omega arith);
            high = λ q. s.high (omega arith);
            low = λ q. s.low (omega arith);
            key_high = λ t q. s.key_high t (omega arith);
            key_low = λ t q. s.key_low t (omega arith);
            mark = inl (omega (arith, s.mark));
          })

module _ (before image : List ℕ) (same : Same before image) where
  pub version-same : version_in image ≡ version_in before
  version-same = same.elsewhere 0 (in_contents before 0 (omega arith))

  pub count_same : count_in image ≡ count_in before
  count_same = same.elsewhere 1 (in_contents before 1 (omega arith))

  -- everything stands where it stood
  pub place_same : (e j : ℕ) → place image e j ≡ place before e j
  place_same e j = ap₂ (λ (v k : ℕ). (shape_of v).front + 4 * k + (shape_of v).body * e + j) version-same count_same

  mark-place-same : (e : ℕ) → mark_place image e ≡ mark_place before e
  mark-place-same e = place_same e (shape_in image).mark ∙ ap (λ (v : ℕ). place before e (shape_of v).mark) version-same

  shape_same : shape_in image ≡ shape_in before
  shape_same = ap shape_of version-same

  pub spi-same : (e : ℕ) → e < count_in before → spi_at image e ≡ spi_at before e
  spi-same e h =
      number_at-same (2 + 4 * e) 2 image before (λ i l. same.elsewhere (2 + 4 * e + i) (in_contents before (2 + 4 * e + i) (omega arith)))

  -- the first octets of a body
  pub octet-same : (e j : ℕ) → e < count_in before → j < 3 → octet image (place image e j) ≡ octet before (place before e j)
  octet-same e j listed h =
      let s = (shapes (version_in before)).holds in
      let n = (shapes (version_in before)).inside in
      ap (octet image) (place_same e j)
      ∙ same.elsewhere (place before e j)
      (in_body before e j listed
      (record {
        inside = omega arith;
        state = λ q. omega arith;
        high = λ q. omega arith;
        low = λ q. omega arith;
        key_high = λ t q. omega arith;
        key_low = λ t q. omega arith;
        mark = omega arith;
      }))

  pub direction-same : (e : ℕ) → e < count_in before → direction_at image e ≡ direction_at before e
  direction-same e listed = octet-same e 2 listed (omega arith)

  -- how many keys there are
  part-same-place : part_place image ≡ part_place before
  part-same-place = ap₂ (λ (v k : ℕ). (shape_of v).front + 4 * k + (shape_of v).body * k + 0) version-same count_same

  at_part : Unmanaged before (part_place before)
  at_part =
      let n = (shapes (version_in before)).inside in
      let h = (shapes (version_in before)).holds in
      record {
        entry = λ i below.
            let b = ends_before (shape_in before).body i (count_in before) below in
            record {
              state = λ q. omega arith;
              high = λ q. omega arith;
              low = λ q. omega arith;
              key_high = λ t q. omega arith;
              key_low = λ t q. omega arith;
              mark = inr (omega arith);
            };
        key = λ k below q. omega arith;
      }

  pub keys-same : key_count_in image ≡ key_count_in before
  keys-same =
      let c : octet image (part_place image) ≡ octet before (part_place before) =
      ap (octet image) part-same-place ∙ same.elsewhere (part_place before) at_part
      in
      ap₂ (λ (v c : ℕ). cond (shape_of v).key_part c 0) version-same c

  unmanaged_same : (p : ℕ) → Unmanaged before p → Unmanaged image p
  unmanaged_same p u =
      record {
        entry = λ i below.
            let s = u.entry i (omega (arith, count_same)) in
            record {
              state = λ q. s.state (q ∙ place_same i 3);
              high = λ q. s.high (q ∙ place_same i 8);
              low = λ q. s.low (q ∙ place_same i 9);
              key_high = λ t q. s.key_high (rw shape_same at t) (q ∙ place_same i 16);
              key_low = λ t q. s.key_low (rw shape_same at t) (q ∙ place_same i 17);
              mark = by_side i s.mark;
            };
        key = λ k below q. u.key k (omega (arith, keys-same)) (omega (arith, part-same-place));
      }
    where
      by_side : (i : ℕ) → (p < mark_place before i) ⊎ (mark_place before i + 4 ≤ p) → (p < mark_place image i) ⊎ (mark_place image i + 4 ≤ p)
      by_side i (inl h) = inl (omega (arith, mark-place-same i))
      by_side i (inr h) = inr (omega (arith, mark-place-same i))

  pub same_then : (last : List ℕ) → Same image last → Same before last
  same_then last next =
      record {
        size = next.size ∙ same.size;
        elsewhere = λ p u. next.elsewhere p (unmanaged_same p u) ∙ same.elsewhere p u;
      }
