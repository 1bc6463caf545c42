-- A check decides by what is the same in two images that are equal but for keys and in two frames that agree in their headers, and by how two
-- tests fall out. So, where these fall out the same way, it reports the same, and leaves the same numbers and images that are again equal but
-- for keys. A load reads no key.
-- Assumes nothing.
use Prim.Native.Nat.{ℕ, zero, suc, ◌+◌, ◌/◌, ◌≤◌, ◌<◌}
use mathlib.Core.Path.{◌≡◌, refl, sym, ap, ap₂, ◌∙◌}
use mathlib.Core.Bool.{Bool, true, false, cond, not, ◌&&◌, and-false}
use mathlib.Core.List.{List, [], ◌∷◌, ◌++◌}
use native.Mathlib.Decide.{ℕ_discrete, dec_lt}
use native.Mathlib.Nat.{le_refl}
use native.Mathlib.Omega.{arith}
use borrow.Author.Tests.{le-ltb, not-false}
use lib.Dec.{eqb, ltb}
use lib.ListN.{length, set, length-set, get_or-eq_default}
use lib.Seq.{get_or-set_same, get_or-set_other}
use Rattle.std.specs.Prelude.{Option, Some, None}
use Rattle.octets.specs.Lists.{octet, Octets, all}
use Rattle.octets.proofs.Alls.{all_same}
use Rattle.octets.proofs.Rules.{tab_ext}
use Rattle.marks.specs.Gray.{code_length}
use Rattle.marks.specs.Stores.{stores_of, stored}
use Rattle.marks.specs.declared.plans.Store.{Store}
use Rattle.marks.proofs.Made.{length-stored}
use Rattle.image.specs.Image.{version_of, count_of, most_entries, layout, body_of, mark_in, valid_image}
use Rattle.image.proofs.KeptParts.{Within, mark_within, kept-version, kept-count, kept-place, kept-part, kept-keys}
use Rattle.bodies.specs.Layout.{layout_of}
use Rattle.bodies.proofs.SameFields.{SameFields}
use Rattle.numbers.specs.Numbers.{greatest, number_of, agrees, accepts, loaded_number, loaded_numbers}
use Rattle.numbers.specs.Stores.{plan_for, stores_for}
use Rattle.numbers.proofs.AfterStores.{mark_only, after-all, after-octets}
use Rattle.numbers.proofs.Agreement.{accepted}
use Rattle.association.specs.Association.{naming_of, association_of, held, is_none, the_one, match_at, matching, index_of}
use Rattle.association.specs.Search.{body_serves, sees, has_spi, matches, first_from, entry_for}
use Rattle.association.specs.declared.search.Wanted.{Wanted}
use Rattle.association.proofs.Finding.{found_at}
use Rattle.frame.specs.Closing.{field_ok}
use Rattle.frame.specs.Parts.{too_short}
use Rattle.frame.specs.Rules.{obeys}
use Rattle.services.specs.SecurityHeader.{security_length}
use Rattle.services.specs.Services.{service}
use Rattle.protection.specs.Protection.{spi_in, field_in, number_in, clear_length}
use Rattle.judging.specs.Answers.{Test, first}
use Rattle.judging.specs.Replies.{Seen, seen, Reply, front_tests, receiving_tests, checking_tests, checking}
use Rattle.judging.specs.Said.{Said, kind_said, no_desk}
use Rattle.judging.specs.Wants.{wanted, checking_wants}
use Rattle.judging.proofs.Answered.{held_by, Fronts, checks}
use Rattle.judging.proofs.Searches.{finds}
use Rattle.kinds.specs.Kinds.{Kind}
use Rattle.link.specs.Calls.{Left, refused, left, loaded, checking_reply, checking_entry, matched_number, checked_as}
use Rattle.link.proofs.Leaving.{left-done, left-refused}
use Rattle.secrecy.proofs.SameFrames.{SameHeaders, same-obeys, same_short, same_clear, same_number}
use Rattle.secrecy.proofs.SameImages.{keys_of, key_at, Public, OnlyKeys, same_version, same_count, same_keys, same-mark-place, same-spi, same_owned}
use Rattle.secrecy.proofs.SameImages.{fields-same, same-mark, same-laid, same-valid}

-- ---- the search, agreement, what a load gives, and the stores of a raise

first-same : (n i : ℕ) (test other : ℕ → Bool) → ((k : ℕ) → k < i + n → other k ≡ test k) → first_from i n other ≡ first_from i n test
unfolding first_from
first-same zero i test other same = refl
first-same (suc n) i test other same = cc (same i (omega arith), first-same n (i + 1) test other (λ k h. same k (omega arith)))

serves-same : (version : ℕ) (body other : List ℕ) (w : Wanted) → SameFields body other → body_serves version other w ≡ body_serves version body w
unfolding body_serves
serves-same version body other w f = cc

module _ {image other : List ℕ} (b : OnlyKeys image other) where
  -- the desk sees the same entries, and each has the same SPI
  same-named : (desk spi i : ℕ) → i < count_of image → has_spi other desk spi i ≡ has_spi image desk spi i
  unfolding has_spi
  same-named desk spi i h =
      ap₂ (λ (n owner : ℕ). eqb n spi && sees desk owner) (same-spi b i (omega arith)) (same_owned b i h)

  same-matches : (w : Wanted) (i : ℕ) → i < count_of image → matches other w i ≡ matches image w i
  unfolding matches
  same-matches w i h =
      ap₂ ◌&&◌ (same-named w.desk w.spi i h)
      (ap (λ (v : ℕ). body_serves v (body_of other i) w) (same_version b)
      ∙ serves-same (version_of image) (body_of image i) (body_of other i) w (fields-same b i h))

  same-entry : (w : Wanted) → entry_for other w ≡ entry_for image w
  unfolding entry_for
  same-entry w =
      ap (λ (n : ℕ). first_from 0 n (matches other w)) (same_count b)
      ∙ first-same (count_of image) 0 (matches image w) (matches other w) (λ i h. same-matches w i (omega arith))

  same-agrees : (last : List ℕ) → agrees other last ≡ agrees image last
  unfolding agrees
  same-agrees last =
      let test : List ℕ → ℕ → Bool = λ s i. eqb (number_of last i / 64) (mark_in s i) in
      ap (λ (n : ℕ). all n (test other)) (same_count b)
      ∙ all_same (count_of image) (test other) (test image) (λ i h. ap (eqb (number_of last i / 64)) (same-mark b i h))

  same-loaded : loaded_numbers other ≡ loaded_numbers image
  unfolding loaded_numbers
  same-loaded = tab_ext most_entries (λ i h. by-entry i (dec_lt i (count_of image)))
    where
      given : List ℕ → ℕ → ℕ
      given s i = cond (ltb i (count_of s)) (loaded_number (mark_in s i)) 0

      by-entry : (i : ℕ) → Dec (i < count_of image) → given other i ≡ given image i
      by-entry i (yes l) = cc (same_count b, same-mark b i l)
      by-entry i (no g) = rw (same_count b, le-ltb i (count_of image) (omega arith))

  same_plan : (i n : ℕ) → plan_for other i n ≡ plan_for image i n
  unfolding plan_for
  same_plan i n = by-entry (dec_lt i (count_of image))
    where
      by-entry : Dec (i < count_of image) → plan_for other i n ≡ plan_for image i n
      by-entry (yes l) = cc (same-laid b, same_count b, same-mark-place b i, same-mark b i l)
      by-entry (no g) = rw (same-laid b, same_count b, le-ltb i (count_of image) (omega arith), and-false)

-- ---- what a call sees, but for the key

pub record SeenAlike (x y : Seen) : Type 0 where
  pub valid : y.valid ≡ x.valid
  pub agree : y.agree ≡ x.agree
  pub none : is_none y.found ≡ is_none x.found
  pub service : (held_by y).service ≡ (held_by x).service
  pub window : (held_by y).window ≡ (held_by x).window
  pub naming : (held_by y).naming ≡ (held_by x).naming
  pub number : (the_one y.found).number ≡ (the_one x.found).number

module _ {image other : List ℕ} (b : OnlyKeys image other) (last : List ℕ) (w : Wanted) where
  same-naming : (i : ℕ) → i < count_of image → naming_of other i ≡ naming_of image i
  unfolding naming_of
  same-naming i h = cc (same_keys b, same-spi b i (omega arith))

  same_seen : SeenAlike (seen image last w) (seen other last w)
  unfolding seen matching association_of held
  same_seen = rw (same-entry b w) (by-entry (entry_for image w) refl)
    where
      by-entry : (x : Option ℕ) → entry_for image w ≡ x
          → SeenAlike (record { valid = valid_image image; agree = agrees image last; found = match_at image last x })
          (record { valid = valid_image other; agree = agrees other last; found = match_at other last x })
      by-entry (Some i) e =
          let h : i < count_of image = omega (arith, (found_at image w i e).to) in
          record {
            valid = same-valid b;
            agree = same-agrees b last;
            none = refl;
            service = (fields-same b i h).service;
            window = (fields-same b i h).window;
            naming = same-naming i h;
            number = refl;
          }
      by-entry None e =
          record {
            valid = same-valid b;
            agree = same-agrees b last;
            none = refl;
            service = refl;
            window = refl;
            naming = refl;
            number = refl;
          }

-- ---- stores at the same places

module _ (p : ℕ) where
  set_same : (s t : List ℕ) (at v : ℕ) → length t ≡ length s → octet t p ≡ octet s p → octet (set t at v) p ≡ octet (set s at v) p
  set_same s t at v long same = by_place (ℕ_discrete p at) (dec_lt at (length s))
    where
      by_place : Dec (p ≡ at) → Dec (at < length s) → octet (set t at v) p ≡ octet (set s at v) p
      by_place (no q) h = get_or-set_other t at p v 0 q ∙ same ∙ sym (get_or-set_other s at p v 0 q)
      by_place (yes q) (yes h) = rw q (get_or-set_same t at v 0 (omega arith) ∙ sym (get_or-set_same s at v 0 h))
      by_place (yes q) (no h) =
          get_or-eq_default (set t at v) 0 (omega (arith, length-set t at v))
          ∙ sym (get_or-eq_default (set s at v) 0 (omega (arith, length-set s at v)))

  stored_same : (stores : List Store) (s t : List ℕ) → length t ≡ length s → octet t p ≡ octet s p
      → octet (stored t stores) p ≡ octet (stored s stores) p
  unfolding stored
  stored_same [] s t long same = same
  stored_same (x ∷ stores) s t long same =
      stored_same stores (set s x.at x.value) (set t x.at x.value)
      (length-set t x.at x.value ∙ long ∙ sym (length-set s x.at x.value)) (set_same s t x.at x.value long same)

-- stores to a mark leave the keys where they were
module _ {image : List ℕ} {i at n : ℕ} {after : List ℕ} (w : Within image i at n after) where
  kept_public : (p : ℕ) → Public after p → Public image p
  kept_public p public k l =
      let keys : (layout after).keys ≡ (layout image).keys = ap (λ (v : ℕ). (layout_of v).keys) (kept-version w) in
      let count : keys_of after ≡ keys_of image = cc (keys, kept-count w, kept-keys w) in
      let place : key_at after k ≡ key_at image k = cc (kept-version w, keys, kept-part w, kept-place w k) in
      rw place at (public k (omega arith))

-- ---- what is told of two calls

pub record Told (u v : Left) : Type 0 where
  pub answer : v.answer ≡ u.answer
  pub size : v.length ≡ u.length
  pub stores : v.stores ≡ u.stores
  pub lasts : v.numbers ≡ u.numbers
  pub images : OnlyKeys u.image v.image

-- ---- load

pub load_told : {image other : List ℕ} → OnlyKeys image other → (any : List ℕ) → Told (loaded image any) (loaded other any)
unfolding loaded
load_told {image} {other} b any = rw (same-valid b) (by_test (valid_image image))
  where
    of : Bool → List ℕ → Left
    of t s =
        cond t (record { answer = 0; length = 0; stores = 0; image = s; numbers = loaded_numbers s; output = [] })
        (refused 1 s any [])

    by_test : (t : Bool) → Told (of t image) (of t other)
    by_test true = record { answer = refl; size = refl; stores = refl; lasts = same-loaded b; images = b }
    by_test false = record { answer = refl; size = refl; stores = refl; lasts = refl; images = b }

-- ---- check

-- tests that begin with one that falls out the same way give the same answer, if those behind it do where it passes
next : (n : ℕ) (b c : Bool) (ts us : List Test) → c ≡ b → (b ≡ false → first us ≡ first ts) → first ((n, c) ∷ us) ≡ first ((n, b) ∷ ts)
unfolding first
next n b c ts us e behind = rw e (by_test b behind)
  where
    by_test : (t : Bool) → (t ≡ false → first us ≡ first ts) → cond t n (first us) ≡ cond t n (first ts)
    by_test true h = refl
    by_test false h = h refl

-- whether the number on a frame is accepted
abbrev inside : Seen → Kind → List ℕ → Bool
inside z k frame = accepts (the_one z.found).number (held_by z).window (number_in (held_by z) k frame)

module _ {image other : List ℕ} (b : OnlyKeys image other) (last : List ℕ) (said : Said) (f g : List ℕ) (a : SameHeaders (kind_said said) f g)
    (spi : spi_in (kind_said said) g ≡ spi_in (kind_said said) f) where
  abbrev x : Seen
  x = seen image last (checking_wants said f)

  abbrev y : Seen
  y = seen other last (checking_wants said g)

  abbrev k : Kind
  k = kind_said said

  same_wants : checking_wants said g ≡ checking_wants said f
  unfolding wanted
  same_wants = cc

  pub alike : SeenAlike x y
  alike = rw same_wants (same_seen b last (checking_wants said f))

  pub same_index : checking_entry other said g ≡ checking_entry image said f
  same_index = ap index_of (ap (entry_for other) same_wants ∙ same-entry b (checking_wants said f))

  -- the check field's test falls out the same way, where it is come to
  module _ (ends : x.valid ≡ true → x.agree ≡ true → no_desk said.desk ≡ false → obeys k f true ≡ true → field_ok k g ≡ field_ok k f) where
    -- so the tests that come first do, up to the search
    same-front : (ts us : List Test) → (Fronts x said f true → first us ≡ first ts)
        → first (front_tests y said g true ++ us) ≡ first (front_tests x said f true ++ ts)
    same-front ts us behind =
        next 1 (not x.valid) (not y.valid) _ _ (ap not alike.valid)
        (λ t1.
        next 2 (not x.agree) (not y.agree) _ _ (ap not alike.agree)
        (λ t2.
        next 19 (no_desk said.desk) (no_desk said.desk) _ _ refl
        (λ t19.
        next 3 (not (obeys k f true)) (not (obeys k g true)) _ _ (ap not (same-obeys a true))
        (λ t3.
        let v = not-false x.valid t1 in
        let w = not-false x.agree t2 in
        let o = not-false (obeys k f true) t3 in
        next 12 (not (field_ok k f)) (not (field_ok k g)) _ _ (ap not (ends v w t19 o))
        (λ t12.
        next 4 (is_none x.found) (is_none y.found) ts us alike.none
        (λ t4. behind (record { valid = v; agree = w; desk = t19; rules = o; field = not-false (field_ok k f) t12; found = t4 })))))))

    -- and a report tells the same number
    pub same_matched : (after : List ℕ) → matched_number other last said g after ≡ matched_number image last said f after
    unfolding matched_number
    same_matched after =
        ap₂ (λ (n e : ℕ). cond (eqb n 0) (number_of after e) 0) (same-front [] [] (λ front. refl)) same_index

    -- how the comparison falls out in each, and the room in each output
    module _ (r s : Bool) (room : ℕ) (fields : Fronts x said f true → field_in (held_by x) k g ≡ field_in (held_by x) k f)
        (compares : Fronts x said f true → too_short k (security_length (held_by x)) f ≡ false → ltb room (clear_length (held_by x) k f) ≡ false → s ≡ r)
      where
        same_used : Fronts x said f true → number_in (held_by y) k g ≡ number_in (held_by x) k f
        unfolding field_in
        same_used front = same_number a (held_by x) (held_by y) alike.service alike.naming (cc (alike.service, fields front))

        same-inside : Fronts x said f true → inside y k g ≡ inside x k f
        same-inside front = cc (alike.window, alike.number, same_used front)

        same_answer : first (checking_tests y s said g room) ≡ first (checking_tests x r said f room)
        unfolding checking_tests
        same_answer =
            same-front (receiving_tests (held_by x) (the_one x.found).number r k f room) (receiving_tests (held_by y) (the_one y.found).number s k g room)
            (λ front.
            next 5 (too_short k (security_length (held_by x)) f) (too_short k (security_length (held_by y)) g) _ _
            (ap (λ (n : ℕ). too_short k (2 + (service n).field) g) alike.service ∙ same_short a (security_length (held_by x)))
            (λ t5.
            next 6 (ltb room (clear_length (held_by x) k f)) (ltb room (clear_length (held_by y) k g)) _ _
            (ap (ltb room) (same_clear a (held_by x) (held_by y) alike.service))
            (λ t6.
            next 7 (not r) (not s) _ _ (ap not (compares front t5 t6))
            (λ t7.
            next 8 (not (inside x k f)) (not (inside y k g)) [] [] (ap not (same-inside front)) (λ t8. refl)))))

        -- the same entry takes the same number, and the same stores raise its mark
        abbrev e : ℕ
        e = checking_entry image said f

        abbrev n : ℕ
        n = number_in (held_by x) k f

        module _ (z : (checking x r said f room).answer ≡ 0) where
          front : Fronts x said f true
          front = (checks x r said f room z).front

          same-stores : stores_for other (checking_entry other said g) (number_in (held_by y) k g) ≡ stores_for image e n
          same-stores = rw (same_index, same_used front) (ap stores_of (same_plan b e n))

          mark-stores : Within image e (layout image).mark code_length (stored image (stores_for image e n))
          unfolding seen
          mark-stores =
              let c = checks x r said f room z in
              let small : n ≤ greatest = (accepted (the_one x.found).number (held_by x).window n c.under.window).fits in
              let listed : e < count_of image = (finds image last (checking_wants said f) front.found).below in
              mark_within image e _ listed
              (rw (← after-all image e n (length (stores_for image e n)) (le_refl (length (stores_for image e n)))) (mark_only image e n _ small))

          stored-told : OnlyKeys (stored image (stores_for image e n)) (stored other (stores_for image e n))
          stored-told =
              let stores = stores_for image e n in
              record {
                long = length-stored other stores ∙ b.long ∙ sym (length-stored image stores);
                same = λ p public. stored_same p stores image other b.long (b.same p (kept_public mark-stores p public));
              }

        pub same_check : (o p : List ℕ) → length o ≡ room → length p ≡ room → Told (checked_as r image last said f o) (checked_as s other last said g p)
        unfolding checked_as checking_reply checking
        same_check o p here there = rw (here, there) (by_answer (ℕ_discrete (checking x r said f room).answer 0))
          where
            q : Reply
            q = checking_reply r image last said f room

            w : Reply
            w = checking_reply s other last said g room

            by_answer : Dec ((checking x r said f room).answer ≡ 0) → Told (left q image last o) (left w other last p)
            by_answer (yes z) =
                rw (left-done q image last o z, left-done w other last p (same_answer ∙ z), same-stores z)
                (record {
                  answer = refl;
                  size = same_clear a (held_by x) (held_by y) alike.service;
                  stores = refl;
                  lasts = ap₂ (set last) same_index (same_used (front z));
                  images = stored-told z;
                })
            by_answer (no z) =
                rw (left-refused q image last o z, left-refused w other last p (λ t. z (sym same_answer ∙ t)))
                (record { answer = same_answer; size = refl; stores = refl; lasts = refl; images = b })

-- ---- an image of octets stays one

pub load-octets : (image any : List ℕ) → Octets image → Octets (loaded image any).image
unfolding loaded
load-octets image any octets = by_test (valid_image image)
  where
    by_test : (t : Bool)
        → Octets (cond t (record { answer = 0; length = 0; stores = 0; image = image; numbers = loaded_numbers image; output = [] })
        (refused 1 image any [])).image
    by_test true = octets
    by_test false = octets

pub check-octets : (r : Bool) (image last : List ℕ) (said : Said) (f o : List ℕ) → Octets image → Octets (checked_as r image last said f o).image
unfolding checked_as checking_reply
check-octets r image last said f o octets = by_answer (ℕ_discrete q.answer 0)
  where
    q : Reply
    q = checking_reply r image last said f (length o)

    stored-octets : (i n : ℕ) → Octets (stored image (stores_for image i n))
    stored-octets i n =
        let j : ℕ = length (stores_for image i n) in rw (← after-all image i n j (le_refl j)) (after-octets image i n j octets)

    by_answer : Dec (q.answer ≡ 0) → Octets (left q image last o).image
    by_answer (yes z) = rw (left-done q image last o z) (stored-octets q.entry q.number)
    by_answer (no z) = rw (left-refused q image last o z) octets
