-- What a check tells is the same in two runs that go side by side: the promise's words for images, frames and tests are the definitions', of
-- which a call is shown to tell the same; then step by step.
-- Assumes nothing.
use Prim.Native.Nat.{ℕ, ◌+◌, ◌≤◌, ◌<◌}
use mathlib.Core.Path.{◌≡◌, refl, sym, ap, ◌∙◌, subst}
use mathlib.Core.Logic.{◌⊎◌}
use mathlib.Core.Bool.{Bool, true, false}
use mathlib.Core.List.{List, [], ◌∷◌}
use native.Mathlib.Omega.{arith}
use borrow.Author.Tests.{ltb-false}
use lib.Dec.{ltb}
use lib.ListN.{length}
use Rattle.octets.specs.Lists.{Octets}
use Rattle.octets.specs.Same.{same}
use Rattle.octets.proofs.Sameness.{same_refl, same_eq}
use Rattle.image.specs.Image.{version_of, layout}
use Rattle.bodies.specs.Body.{last_desk}
use Rattle.kinds.specs.Kinds.{Kind}
use Rattle.frame.specs.Closing.{field_ok}
use Rattle.frame.specs.Parts.{too_short}
use Rattle.frame.specs.Rules.{obeys}
use Rattle.services.specs.SecurityHeader.{security_length}
use Rattle.protection.specs.Protection.{spi_in, field_in, clear_length}
use Rattle.judging.specs.Replies.{Seen, seen}
use Rattle.judging.specs.Said.{Said, kind_said, no_desk}
use Rattle.judging.specs.Wants.{checking_wants}
use Rattle.judging.proofs.Answered.{held_by, Fronts}
use Rattle.link.specs.Calls.{Left, comparison, checking_entry, checked}
use Rattle.promises.specs.Images.{shape_in, service_at, mask_at, key_octets_at, Serves}
use Rattle.promises.specs.Frames.{spi_on, field_on, mac_on, right_mac}
use Rattle.notes.specs.Noting.{LentNotes}
use Rattle.noting.specs.Noted.{Noted, check_left, check_noted}
use Rattle.promises.proofs.Answers.{serves, held-service, security, text, mac}
use Rattle.promises.proofs.Fields.{shapes, stands, key-place, key-count}
use Rattle.promises.proofs.Readings.{header-size, trailer-size, frame-kept, field-kept, field_tested, spi_on_lem, field_on_lem}
use Rattle.promises.proofs.Valids.{rules-kept, agreement}
use Rattle.secrecy.specs.Secrecy.{keys_in, key_place, ButKeys, State, kept, Given, Step, load, check, loading, checking}
use Rattle.secrecy.specs.Secrecy.{BeforeField, BeforeMac, Alike, SameTold, Untold, Secrecy}
use Rattle.secrecy.proofs.SameCalls.{Told, load_told, alike, same_index, same_matched, same_check, load-octets, check-octets}
use Rattle.secrecy.proofs.SameFrames.{SameHeaders, same_headers}
use Rattle.secrecy.proofs.SameImages.{keys_of, key_at, OnlyKeys}

-- ---- where keys stand

module _ (image : List ℕ) where
  shape_keys : (layout image).keys ≡ (shape_in image).key_part
  shape_keys = (shapes (version_of image)).key_part

  keys_in_lem : keys_of image ≡ keys_in image
  keys_in_lem = cc (shape_keys, key-count image)

  key_stands : (k : ℕ) → key_at image k ≡ key_place image k
  key_stands k = by_part (layout image).keys refl
    where
      by_part : (t : Bool) → (layout image).keys ≡ t → key_at image k ≡ key_place image k
      by_part true e = rw (e, ← shape_keys, e) (omega (arith, key-place image k))
      by_part false e = rw (e, ← shape_keys, e) (omega (arith, stands image k 16, (shapes (version_of image)).key))

  -- a place without an octet of a key
  outside : (p : ℕ) → ((k : ℕ) → k < keys_of image → (p < key_at image k) ⊎ (key_at image k + 32 ≤ p))
      → (k : ℕ) → k < keys_in image → (p < key_place image k) ⊎ (key_place image k + 32 ≤ p)
  outside p public k l = rw key_stands at (public k (omega (arith, keys_in_lem)))

  public : (p : ℕ) → ((k : ℕ) → k < keys_in image → (p < key_place image k) ⊎ (key_place image k + 32 ≤ p))
      → (k : ℕ) → k < keys_of image → (p < key_at image k) ⊎ (key_at image k + 32 ≤ p)
  public p out k l = rw key_stands (out k (omega (arith, keys_in_lem)))

module _ {image other : List ℕ} where
  only_keys : ButKeys image other → OnlyKeys image other
  only_keys b = record { long = b.size; same = λ p h. b.elsewhere p (outside image p h) }

  but_keys : OnlyKeys image other → ButKeys image other
  but_keys b = record { size = b.long; elsewhere = λ p h. b.same p (public image p h) }

-- ---- two tests that fall out the same way

same_truth : (t u : Bool) → (t ≡ true → u ≡ true) → (u ≡ true → t ≡ true) → u ≡ t
same_truth true u to from = to refl
same_truth false false to from = refl
same_truth false true to from = sym (from refl)

-- ---- a check

abbrev state : List ℕ → List ℕ → LentNotes → State
state image numbers notes = record { image = image; numbers = numbers; notes = notes }

module _ (image other last : List ℕ) (notes : LentNotes) (octets : Octets image) (others : Octets other) (b : OnlyKeys image other) (said : Said)
    (here there : Given) (a : Alike (state image last notes) (state other last notes) said here there) where
  abbrev f : List ℕ
  f = here.frame

  abbrev g : List ℕ
  g = there.frame

  abbrev k : Kind
  k = kind_said said

  abbrev x : Seen
  x = seen image last (checking_wants said f)

  abbrev y : Seen
  y = seen other last (checking_wants said g)

  abbrev e : ℕ
  e = checking_entry image said f

  -- the MAC that a frame should hold
  abbrev made : List ℕ → List ℕ → List ℕ
  made s frame = right_mac (service_at s e) said (mask_at s e) (key_octets_at s e) frame

  headers : SameHeaders k f g
  headers = same_headers f g a.size said (λ j h. a.header j (rw (header-size said f) h))

  spis : spi_in k g ≡ spi_in k f
  spis = sym (spi_on_lem said g) ∙ a.spi ∙ spi_on_lem said f

  before : x.valid ≡ true → x.agree ≡ true → no_desk said.desk ≡ false → obeys k f true ≡ true → BeforeField (state image last notes) said f
  unfolding seen
  before v w d o =
      record {
        valid = rules-kept image octets v;
        agree = agreement image last octets w;
        desk = ltb-false last_desk said.desk d;
        rules = frame-kept said f true o;
      }

  ends : x.valid ≡ true → x.agree ≡ true → no_desk said.desk ≡ false → obeys k f true ≡ true → field_ok k g ≡ field_ok k f
  ends v w d o =
      let s = a.check_field (before v w d o) in
      same_truth (field_ok k f) (field_ok k g) (λ t. field_tested said g (s.0 (field-kept said f t))) (λ t. field_tested said f (s.1 (field-kept said g t)))

  -- past the tests that come first, under the entry that serves
  module _ (front : Fronts x said f true) where
    serves-here : Serves image 2 said (spi_on said f) f e
    unfolding seen
    serves-here = rw (spi_on_lem said f) (serves image last octets 2 said (spi_in k f) f (rules-kept image octets front.valid) front.found)

    service-here : (held_by x).service ≡ service_at image e
    unfolding seen
    service-here = held-service image last octets 2 said (spi_in k f) f (rules-kept image octets front.valid) front.found

    fields : field_in (held_by x) k g ≡ field_in (held_by x) k f
    fields =
        field_on_lem (held_by x) said g
        ∙ ap (λ (n : ℕ). field_on n said g) service-here
        ∙ a.field e serves-here
        ∙ ap (λ (n : ℕ). field_on n said f) (sym service-here)
        ∙ sym (field_on_lem (held_by x) said f)

    mac-here : comparison image last said f ≡ same (made image f) (mac_on said f)
    unfolding comparison seen
    mac-here = mac image last octets 2 said (spi_in k f) f (rules-kept image octets front.valid) front.found

    mac-there : comparison other last said g ≡ same (made other g) (mac_on said g)
    unfolding comparison seen
    mac-there =
        let z = alike b last said f g headers spis in
        rw (← same_index b last said f g headers spis)
        (mac other last others 2 said (spi_in k g) g (rules-kept other others (z.valid ∙ front.valid)) (z.none ∙ front.found))

    module _ (long : too_short k (security_length (held_by x)) f ≡ false) (room : ltb (length here.output) (clear_length (held_by x) k f) ≡ false) where
      comes : BeforeMac (state image last notes) said here e
      unfolding seen clear_length
      comes =
          let rules = rules-kept image octets front.valid in
          let c = security image last octets 2 said (spi_in k f) f rules front.found in
          let z = ap length (text image last octets 2 said (spi_in k f) f rules front.found) in
          let least : ℕ = k.header f + security_length (held_by x) + 1 + 16 + k.trailer f in
          record {
            before = before front.valid front.agree front.desk front.rules;
            field = field-kept said f front.field;
            serves = serves-here;
            long = omega (arith, header-size said f, trailer-size said f, ltb-false (length f) least long);
            room = omega (arith, ltb-false (length here.output) (clear_length (held_by x) k f) room);
          }

      compares : comparison other last said g ≡ comparison image last said f
      compares =
          let s = a.mac e comes in
          mac-there
          ∙ same_truth (same (made image f) (mac_on said f)) (same (made other g) (mac_on said g))
          (λ t. rw (s.0 (same_eq _ _ t)) (same_refl (mac_on said g)))
          (λ t. rw (s.1 (same_eq _ _ t)) (same_refl (mac_on said f)))
          ∙ sym mac-here

  abbrev u : Left
  u = checked image last said f here.output

  abbrev v : Left
  v = checked other last said g there.output

  told : Told u v
  unfolding checked
  told =
      same_check b last said f g headers spis ends (comparison image last said f) (comparison other last said g) (length here.output) fields compares
      here.output there.output refl a.room

  -- a report tells answer, SPI and number, an event the desk and the answer
  same-notes : (check_left notes other last said g v).notes ≡ (check_left notes image last said f u).notes
  same-notes = cc (told.answer, spis, told.lasts, same_matched b last said f g headers spis ends u.numbers)

-- ---- step by step

same-told : (u v : Noted) → Told u.left v.left → v.notes ≡ u.notes → SameTold u v
same-told u v t n =
    record { answer = t.answer; size = t.size; stores = t.stores; lasts = t.lasts; images = but_keys t.images; notes = n }

checking-octets : (x : State) (said : Said) (given : Given) → Octets x.image → Octets (checking x said given).left.image
unfolding check_noted checked
checking-octets x said given octets =
    check-octets (comparison x.image x.numbers said given.frame) x.image x.numbers said given.frame given.output octets

checking-told : (image other last : List ℕ) (notes : LentNotes) → Octets image → Octets other → OnlyKeys image other → (said : Said) (here there : Given)
    → let x = state image last notes in
    let y = state other last notes in
    Alike x y said here there
    → Told (checking x said here).left (checking y said there).left × ((checking y said there).notes ≡ (checking x said here).notes)
unfolding check_noted
checking-told image other last notes octets others b said here there a = (
  told image other last notes octets others b said here there a,
  same-notes image other last notes octets others b said here there a,
)

-- equal numbers and notes are as good as the same
carried : (steps : List Step) (x y : State) → y.numbers ≡ x.numbers → y.notes ≡ x.notes
    → Untold x (state y.image x.numbers x.notes) steps → Untold x y steps
carried steps x y numbers notes r =
    subst (λ (n : List ℕ). Untold x (state y.image n y.notes) steps) (sym numbers)
    (subst (λ (n : LentNotes). Untold x (state y.image x.numbers n) steps) (sym notes) r)

untold : (steps : List Step) (image other last : List ℕ) (notes : LentNotes) → Octets image → Octets other → OnlyKeys image other
    → Untold (state image last notes) (state other last notes) steps
unfolding Untold
untold [] image other last notes octets others b = tt
untold (load any ∷ steps) image other last notes octets others b =
    let u = loading (state image last notes) any in
    let v = loading (state other last notes) any in
    let t : Told u.left v.left = load_told b any in
    let rest = untold steps u.left.image v.left.image u.left.numbers notes (load-octets image any octets) (load-octets other any others)
    t.images
    in
    (same-told u v t refl, carried steps (kept u) (kept v) t.lasts refl rest)
untold (check said here there ∷ steps) image other last notes octets others b =
    λ a.
    let x = state image last notes in
    let y = state other last notes in
    let u = checking x said here in
    let v = checking y said there in
    let both = checking-told image other last notes octets others b said here there a in
    let t : Told u.left v.left = both.0 in
    let rest = untold steps u.left.image v.left.image u.left.numbers u.notes (checking-octets x said here octets)
    (checking-octets y said there others) t.images
    in
    (same-told u v t both.1, carried steps (kept u) (kept v) t.lasts both.1 rest)

pub secrecy : Secrecy
secrecy x y steps octets others b numbers notes =
    carried steps x y numbers notes (untold steps x.image y.image x.numbers x.notes octets others (only_keys b))
