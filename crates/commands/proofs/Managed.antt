-- What a command's stores leave of an image, after any of them: it is valid again, of the same length, and differs at most in state, window,
-- key ID and mark of the one entry, whose mark does not fall. Between the two stores of a window, or of a key ID, it holds one new octet and
-- one old; the body is not operational then, so any window and any ID is allowed.
-- Assumes nothing.
use mathlib.Core.Path.{◌≡◌, refl, sym, ap, ◌∙◌}
use mathlib.Core.Logic.{◌≢◌}
use mathlib.Core.Bool.{Bool, true, false}
use mathlib.Core.List.{List, [], ◌∷◌}
use Prim.Native.Nat.{ℕ, zero, suc, ◌+◌, ◌≤◌, ◌<◌}
use native.Mathlib.Omega.{arith}
use borrow.Author.Tests.{eqb-true, le-leb}
use lib.Dec.{eqb}
use lib.ListN.{length, set, take, length-set}
use lib.Seq.{take-nil, get_or-set_same, get_or-set_other}
use Rattle.octets.specs.Lists.{octet, Octets}
use Rattle.octets.proofs.Bounds.{octets-set}
use Rattle.octets.proofs.Numbers.{number_at-same}
use Rattle.octets.proofs.Outside.{Outside}
use Rattle.marks.specs.Gray.{code_length}
use Rattle.marks.specs.Stores.{stored}
use Rattle.marks.specs.declared.plans.Store.{Store}
use Rattle.marks.proofs.Made.{put}
use Rattle.bodies.specs.Body.{state_of, window_of, key_id_of, keyed, operational, window_fits, state_ok, window_ok}
use Rattle.bodies.specs.Layout.{state_place, window_place, id_length, fields_end, Lawful}
use Rattle.bodies.proofs.Layouts.{lawful, id_before}
use Rattle.keys.specs.Keys.{active}
use Rattle.image.specs.Image.{version_of, count_of, layout, body_at, body_of, mark_at, mark_in, key_in, key_id_in, keyed_ok, valid_image}
use Rattle.image.proofs.KeptParts.{kept-version, kept-count, kept_in}
use Rattle.image.proofs.Places.{octet-body, body-inside}
use Rattle.image.proofs.ValidImages.{valid, valid-laid, laid_out_lem}
use Rattle.numbers.specs.Numbers.{agrees}
use Rattle.numbers.proofs.AfterStores.{Raised}
use Rattle.numbers.proofs.LoadedNumbers.{agreed, agreeing}
use Rattle.commands.proofs.KeptFields.{FieldsOnly, fields_within, octet-after, kept-marks, fields-valid}

-- a place that no command for entry i stores to
pub record Fixed (image : List ℕ) (i p : ℕ) : Type 0 where
  pub state : p ≢ body_at image i + state_place
  pub high : p ≢ body_at image i + window_place
  pub low : p ≢ body_at image i + (window_place + 1)
  pub id : (layout image).keys ≡ true → (p ≢ body_at image i + (layout image).key) × (p ≢ body_at image i + ((layout image).key + 1))
  pub mark : Outside (mark_at image i) code_length p

pub record Managed (image : List ℕ) (i : ℕ) (after : List ℕ) : Type 0 where
  pub valid : valid_image after ≡ true
  pub octets : Octets after
  pub long : length after ≡ length image
  pub fixed : (p : ℕ) → Fixed image i p → octet after p ≡ octet image p
  pub count : count_of after ≡ count_of image
  pub rises : mark_in image i ≤ mark_in after i
  pub other_mark : (k : ℕ) → k ≢ i → mark_in after k ≡ mark_in image k

-- ---- no store

pub unmanaged : (image : List ℕ) (i : ℕ) → valid_image image ≡ true → Octets image → Managed image i image
unmanaged image i passed octets =
    record {
      valid = passed;
      octets = octets;
      long = refl;
      fixed = λ p f. refl;
      count = refl;
      rises = omega arith;
      other_mark = λ k other. refl;
    }

-- ---- raises of the mark

pub from_raised : (image : List ℕ) (i m : ℕ) (after : List ℕ) → mark_in image i ≤ m → Raised image i m after → Managed image i after
from_raised image i m after up r =
    record {
      valid = r.valid;
      octets = r.octets;
      long = r.long;
      fixed = λ p f. r.outside p f.mark;
      count = r.count;
      rises = omega (arith, r.mark);
      other_mark = r.other_mark;
    }

-- ---- stores of state and window

from_fields : (image : List ℕ) (i : ℕ) (after : List ℕ) → FieldsOnly image i after → valid_image image ≡ true → Octets after
    → state_ok (body_of after i) ≡ true → window_ok (body_of after i) ≡ true → ((layout image).keys ≡ true → keyed_ok after i ≡ true)
    → Managed image i after
from_fields image i after only passed octets state window serves =
    record {
      valid = fields-valid only passed state window serves;
      octets = octets;
      long = only.long;
      fixed = λ p f. only.outside p (record { state = f.state; high = f.high; low = f.low; id = f.id });
      count = kept-count (fields_within only);
      rises = omega (arith, kept-marks only i);
      other_mark = λ k other. kept-marks only k;
    }

-- numbers still agree
pub fields-agree : (image last : List ℕ) (i : ℕ) (after : List ℕ) → FieldsOnly image i after → agrees image last ≡ true
    → agrees after last ≡ true
fields-agree image last i after only agree =
    agreeing after last (λ k h. agreed image last agree k (omega (arith, kept-count (fields_within only))) ∙ sym (kept-marks only k))

-- ---- the first j of one store, and of two

pub first_of_one : (P : List ℕ → Type 0) (image : List ℕ) (s : Store) → P image → P (put image s)
    → (j : ℕ) → P (stored image (take j (s ∷ [])))
unfolding stored
first_of_one P image s none one zero = none
first_of_one P image s none one (suc j) = rw (take-nil {A = Store} j) one

pub first_of_two : (P : List ℕ → Type 0) (image : List ℕ) (s t : Store) → P image → P (put image s) → P (put (put image s) t)
    → (j : ℕ) → P (stored image (take j (s ∷ t ∷ [])))
unfolding stored
first_of_two P image s t none one two zero = none
first_of_two P image s t none one two (suc j) = first_of_one P (put image s) t one two j

pub first_of_three : (P : List ℕ → Type 0) (image : List ℕ) (s t u : Store) → P image → P (put image s) → P (put (put image s) t)
    → P (put (put (put image s) t) u) → (j : ℕ) → P (stored image (take j (s ∷ t ∷ u ∷ [])))
unfolding stored
first_of_three P image s t u none one two three zero = none
first_of_three P image s t u none one two three (suc j) = first_of_two P (put image s) t u one two three j

-- ---- one octet of a body

module _ (image : List ℕ) (i : ℕ) (passed : valid_image image ≡ true) (listed : i < count_of image) where
  l : Lawful (layout image)
  l = lawful (version_of image)

  inside : (k : ℕ) → k < (layout image).body → body_at image i + k < length image
  inside k h = omega (arith, body-inside image (laid_out_lem image (valid-laid image passed)) i listed)

  -- the state is stored
  module _ (state : ℕ) where
    abbrev restated : List ℕ
    restated = set image (body_at image i + state_place) state

    pub state_only : FieldsOnly image i restated
    state_only =
        record {
          listed = listed;
          long = length-set image (body_at image i + state_place) state;
          outside = λ p f. get_or-set_other image (body_at image i + state_place) p state 0 f.state;
        }

    pub state-stored : state_of (body_of restated i) ≡ state
    state-stored =
        octet-after state_only state_place (omega (arith, l.key, l.mark, l.inside))
        ∙ get_or-set_same image (body_at image i + state_place) state 0 (inside state_place (omega (arith, l.key, l.mark, l.inside)))

    pub window-stays : window_of (body_of restated i) ≡ window_of (body_of image i)
    window-stays =
        number_at-same window_place 2 (body_of restated i) (body_of image i)
        (λ k h.
        octet-after state_only (window_place + k) (omega (arith, l.key, l.mark, l.inside))
        ∙ get_or-set_other image (body_at image i + state_place) (body_at image i + (window_place + k)) state 0 (λ e. omega arith)
        ∙ sym (octet-body image i (window_place + k) (omega (arith, l.key, l.mark, l.inside))))

    id_stays : key_id_in restated i ≡ key_id_in image i
    id_stays =
        let before : (layout image).key + id_length ≤ (layout image).mark = id_before (version_of image) in
        ap (λ (v : ℕ). key_id_of v (body_of restated i)) (kept-version (fields_within state_only))
        ∙ number_at-same (layout image).key id_length (body_of restated i) (body_of image i)
        (λ k h.
        octet-after state_only ((layout image).key + k) (omega (arith, l.inside))
        ∙ get_or-set_other image (body_at image i + state_place) (body_at image i + ((layout image).key + k)) state 0 (λ e. omega (arith, l.key))
        ∙ sym (octet-body image i ((layout image).key + k) (omega (arith, l.inside))))

    pub restated_managed : Octets image → state ≤ operational → (state ≡ operational → window_fits (window_of (body_of image i)) ≡ true)
        → (state ≡ operational → (layout image).keys ≡ true → key_in image active (key_id_in image i) ≡ true) → Managed image i restated
    restated_managed octets small fits serves =
        from_fields image i restated state_only passed (octets-set image (body_at image i + state_place) state octets (omega arith))
        (le-leb (state_of (body_of restated i)) operational (omega (arith, state-stored)))
        (by_state (eqb state operational) refl) (by_key (eqb state operational) refl)
      where
        by_key : (t : Bool) → eqb state operational ≡ t → (layout image).keys ≡ true → keyed_ok restated i ≡ true
        by_key true e has =
            rw (state-stored, e, id_stays, kept_in (fields_within state_only) active (key_id_in image i)) (serves (eqb-true state operational e) has)
        by_key false e has = rw (state-stored, e)

        by_state : (t : Bool) → eqb state operational ≡ t → window_ok (body_of restated i) ≡ true
        by_state true e = rw (state-stored, e, window-stays) (fits (eqb-true state operational e))
        by_state false e = rw (state-stored, e)

  -- one or two octets of the window are stored, where the body is not operational
  module _ (octets : Octets image) (idle : eqb (state_of (body_of image i)) operational ≡ false) where
    window_managed : (after : List ℕ) → FieldsOnly image i after → Octets after
        → octet after (body_at image i + state_place) ≡ octet image (body_at image i + state_place) → Managed image i after
    window_managed after only octets-after same =
        let state : state_of (body_of after i) ≡ state_of (body_of image i) =
        octet-after only state_place (omega (arith, l.key, l.mark, l.inside))
        ∙ same
        ∙ sym (octet-body image i state_place (omega (arith, l.key, l.mark, l.inside))) in
        from_fields image i after only passed octets-after
        (le-leb (state_of (body_of after i)) operational (omega (arith, ((valid image passed).entry i listed).body.state)))
        (rw (state, idle)) (λ has. rw (state, idle))

    module _ (high low : ℕ) (h : high < 256) (l : low < 256) where
      abbrev once : List ℕ
      once = set image (body_at image i + window_place) high

      abbrev twice : List ℕ
      twice = set once (body_at image i + (window_place + 1)) low

      pub once_only : FieldsOnly image i once
      once_only =
          record {
            listed = listed;
            long = length-set image (body_at image i + window_place) high;
            outside = λ p f. get_or-set_other image (body_at image i + window_place) p high 0 f.high;
          }

      pub twice_only : FieldsOnly image i twice
      twice_only =
          record {
            listed = listed;
            long = length-set once (body_at image i + (window_place + 1)) low ∙ length-set image (body_at image i + window_place) high;
            outside = λ p f.
                get_or-set_other once (body_at image i + (window_place + 1)) p low 0 f.low
                ∙ get_or-set_other image (body_at image i + window_place) p high 0 f.high;
          }

      pub once_managed : Managed image i once
      once_managed =
          window_managed once once_only (octets-set image (body_at image i + window_place) high octets h)
          (get_or-set_other image (body_at image i + window_place) (body_at image i + state_place) high 0 (λ e. omega arith))

      pub twice_managed : Managed image i twice
      twice_managed =
          window_managed twice twice_only
          (octets-set once (body_at image i + (window_place + 1)) low (octets-set image (body_at image i + window_place) high octets h) l)
          (get_or-set_other once (body_at image i + (window_place + 1)) (body_at image i + state_place) low 0 (λ e. omega arith)
          ∙ get_or-set_other image (body_at image i + window_place) (body_at image i + state_place) high 0 (λ e. omega arith))

    -- a key's ID is stored, high octet and low octet, and then the state, by which the body becomes keyed
    module _ (has : (layout image).keys ≡ true) (high low : ℕ) (h : high < 256) (l : low < 256) where
      abbrev high_at : ℕ
      high_at = body_at image i + (layout image).key

      abbrev low_at : ℕ
      low_at = body_at image i + ((layout image).key + 1)

      abbrev begun : List ℕ
      begun = set image high_at high

      abbrev renamed : List ℕ
      renamed = set begun low_at low

      abbrev rekeyed : List ℕ
      rekeyed = set renamed (body_at image i + state_place) keyed

      behind : fields_end ≤ (layout image).key
      behind = (lawful (version_of image)).key

      pub begun_only : FieldsOnly image i begun
      begun_only =
          record { listed = listed; long = length-set image high_at high; outside = λ p f. get_or-set_other image high_at p high 0 (f.id has).0 }

      pub renamed_only : FieldsOnly image i renamed
      renamed_only =
          record {
            listed = listed;
            long = length-set begun low_at low ∙ length-set image high_at high;
            outside = λ p f. get_or-set_other begun low_at p low 0 (f.id has).1 ∙ begun_only.outside p f;
          }

      pub rekeyed_only : FieldsOnly image i rekeyed
      rekeyed_only =
          record {
            listed = listed;
            long = length-set renamed (body_at image i + state_place) keyed ∙ renamed_only.long;
            outside = λ p f. get_or-set_other renamed (body_at image i + state_place) p keyed 0 f.state ∙ renamed_only.outside p f;
          }

      octets-begun : Octets begun
      octets-begun = octets-set image high_at high octets h

      octets_renamed : Octets renamed
      octets_renamed = octets-set begun low_at low octets-begun l

      pub begun_managed : Managed image i begun
      begun_managed =
          window_managed begun begun_only octets-begun
          (get_or-set_other image high_at (body_at image i + state_place) high 0 (λ e. omega (arith, behind)))

      pub renamed_managed : Managed image i renamed
      renamed_managed =
          window_managed renamed renamed_only octets_renamed
          (get_or-set_other begun low_at (body_at image i + state_place) low 0 (λ e. omega (arith, behind))
          ∙ get_or-set_other image high_at (body_at image i + state_place) high 0 (λ e. omega (arith, behind)))

      keyed-state : state_of (body_of rekeyed i) ≡ keyed
      keyed-state =
          octet-after rekeyed_only state_place (omega (arith, behind, (lawful (version_of image)).mark, (lawful (version_of image)).inside))
          ∙ get_or-set_same renamed (body_at image i + state_place) keyed 0
          (omega (arith, renamed_only.long, inside state_place (omega (arith, behind, (lawful (version_of image)).mark, (lawful (version_of image)).inside))))

      pub rekeyed_managed : Managed image i rekeyed
      rekeyed_managed =
          from_fields image i rekeyed rekeyed_only passed (octets-set renamed (body_at image i + state_place) keyed octets_renamed (omega arith))
          (rw keyed-state refl) (rw keyed-state refl) (λ t. rw keyed-state refl)
