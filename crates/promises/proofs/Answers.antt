-- Each call answers the number of the first rule that is broken: its tests stand in the paper's order, and each of them is true if and
-- only if its rule is broken, once the rules before it are kept.
-- Assumes nothing.
use Prim.Native.Nat.{ℕ, ◌+◌, ◌≤◌, ◌<◌}
use mathlib.Core.Path.{◌≡◌, refl, sym, ap, ap₂, ◌∙◌, subst}
use mathlib.Core.Logic.{◌⊎◌, inl, inr}
use mathlib.Core.Bool.{Bool, true, false, not, cond, ◌&&◌}
use mathlib.Core.List.{List, [], ◌∷◌}
use native.Mathlib.Omega.{arith}
use borrow.Author.Tests.{eqb-true, ltb-true, ltb-false, leb-true, leb-false, not-true, not-false, lt-ltb, le-leb}
use lib.Dec.{eqb, ltb}
use lib.ListN.{length}
use Rattle.std.specs.Prelude.{Err}
use Rattle.octets.specs.Lists.{Octets}
use Rattle.octets.specs.Same.{same}
use Rattle.octets.proofs.Alls.{and_left, and_right}
use Rattle.octets.proofs.Parts.{length_part}
use Rattle.octets.proofs.Sameness.{same_refl, same_eq}
use Rattle.frame.specs.Closing.{field_ok}
use Rattle.frame.specs.Parts.{exceeds, too_short}
use Rattle.frame.specs.Rules.{least, obeys}
use Rattle.association.specs.Association.{Association, association_of, held, held_in, is_none, the_one, matching, index_of}
use Rattle.image.specs.Image.{valid_image}
use Rattle.numbers.specs.Numbers.{greatest, loaded_numbers, agrees, accepts, spent}
use Rattle.association.specs.Search.{entry_for}
use Rattle.association.specs.declared.held.Held.{Held}
use Rattle.association.specs.declared.search.Wanted.{Wanted}
use Rattle.numbers.proofs.Agreement.{accepted}
use Rattle.image.proofs.ValidImages.{valid, spi_once}
use Rattle.judging.specs.Answers.{Reported, reported, Test, first}
use Rattle.judging.specs.Wants.{wanted}
use Rattle.link.specs.Calls.{Left, refused, loaded, securing_reply, secured}
use Rattle.judging.specs.Wants.{checking_wants}
use Rattle.link.specs.Calls.{comparison, checking_reply, checked_as, checked}
use Rattle.services.specs.SecurityHeader.{security_length}
use Rattle.protection.specs.Protection.{secured_length, number_in, text_in, mac_right, clear_length}
use Rattle.judging.specs.Replies.{seen, securing_tests, securing, checking_tests, checking}
use Rattle.judging.specs.Said.{Said, kind_said, no_desk}
use Rattle.judging.specs.declared.answers.Refusal.{Refusal}
use Rattle.judging.specs.declared.answers.Refusal.TheVariants as answer
use Rattle.link.proofs.Leaving.{left-answer}
use Rattle.judging.proofs.Searches.{Finds, finds, finds_none}
use Rattle.promises.specs.Answers.{reporting, Rules, rule, no_more, report_of, Gives, Exactly}
use Rattle.promises.specs.Answers.{load_rules, securing_rules, checking_rules, Answering}
use Rattle.promises.specs.Frames.{FrameRules, RightField, Opens, security_size, spi_on, number_on, text_on, mac_on, right_mac}
use Rattle.promises.specs.Images.{shape_in, service_at, window_at, mask_at, key_octets_at, last_at, ImageRules, Agreeing, Serves}
use Rattle.promises.proofs.Fields.{service-at, window-at, mask_at_lem, key-at}
use Rattle.promises.proofs.Readings.{form, header-size, trailer-size, frame-kept, frame_tested, field-kept, field_tested}
use Rattle.promises.proofs.Readings.{spi_on_lem, security_size_lem, text_on_lem, mac-right}
use Rattle.promises.proofs.Refusals.{refusals}
use Rattle.promises.proofs.Used.{held_kept, held-right}
use Rattle.promises.proofs.Valids.{rules-kept, rules-valid, agreement, agreement_tested, serving, served}

-- ---- rules give one answer

alone : (rules : Rules) (x y : Reported) → Gives rules x → Gives rules y → x.number ≡ y.number
unfolding Gives
alone no_more x y a b = cc
alone (rule refusal kept behind) x y (inl a) (inl b) = ap (λ (r : Reported). r.number) (a.1 ∙ sym b.1)
alone (rule refusal kept behind) x y (inl a) (inr b) = absurd (a.0 b.0)
alone (rule refusal kept behind) x y (inr a) (inl b) = absurd (b.0 a.0)
alone (rule refusal kept behind) x y (inr a) (inr b) = alone behind x y a.1 b.1

-- ---- by number alone

unfoldable pub Numbered : Rules → ℕ → Type 0
Numbered (rule refusal kept behind) n = ((kept → ⊥) × (n ≡ (reported (Err refusal)).number)) ⊎ (kept × Numbered behind n)
Numbered no_more n = n ≡ 0

-- whether every rule refuses with a number above 0
abbrev pub refusing : Rules → Bool
refusing (rule refusal kept behind) = ltb 0 (reported (Err refusal)).number && refusing behind
refusing no_more = true

-- a call that is not done reports nothing but its number, so the number decides what it reports
abbrev pub Silent : Left → Type 0
Silent x = (x.answer ≡ 0 → ⊥) → (x.length ≡ 0) × (x.stores ≡ 0)

reports : (rules : Rules) (x : Left) → Silent x → refusing rules ≡ true → Numbered rules x.answer → Gives rules (report_of x)
unfolding Gives Numbered
reports no_more x silent r z = ap (λ (n : ℕ). reporting n x.length x.stores) z
reports (rule refusal kept behind) x silent r (inl b) =
    let above : 0 < (reported (Err refusal)).number = ltb-true 0 (reported (Err refusal)).number (search and_left) in
    let zeros = silent (λ z. omega (arith, b.1)) in
    let whole : report_of x ≡ reported (Err refusal) = λ i. reporting (b.1 i) (zeros.0 i) (zeros.1 i) in
    inl (b.0, whole)
reports (rule refusal kept behind) x silent r (inr b) = inr (b.0, reports behind x silent (search and_right) b.1)

pub exactly : (rules : Rules) (x : Left) → Silent x → refusing rules ≡ true → Numbered rules x.answer → Exactly rules (report_of x)
exactly rules x silent r numbered =
    let gives = reports rules x silent r numbered in
    record { given = gives; alone = λ y other. alone rules y (report_of x) other gives }

-- ---- a test and its rule

pub step : (refusal : Refusal) (broken : Bool) (tests : List Test) (kept : Type 0) (behind : Rules) → (broken ≡ true → kept → ⊥)
    → (broken ≡ false → kept × Numbered behind (first tests))
    → Numbered (rule refusal kept behind) (first (((reported (Err refusal)).number, broken) ∷ tests))
unfolding first Numbered
step refusal true tests kept behind breaks keeps = inl (breaks refl, refl)
step refusal false tests kept behind breaks keeps = inr (keeps refl)

pub next-rule : (refusal : Refusal) (broken : Bool) (tests : List Test) (kept : Type 0) (behind : Rules) → (broken ≡ true → kept → ⊥)
    → (broken ≡ false → kept) → Numbered behind (first tests)
    → Numbered (rule refusal kept behind) (first (((reported (Err refusal)).number, broken) ∷ tests))
next-rule refusal broken tests kept behind breaks keeps then = step refusal broken tests kept behind breaks (λ t. (keeps t, then))

pub last_done : Numbered no_more (first [])
unfolding first Numbered
last_done = refl

pub differ : (b : Bool) → b ≡ true → b ≡ false → ⊥
differ b p q = let z : ◌≡◌ {A = ℕ} 0 1 = cc in omega arith

pub accepting : (last window n : ℕ) → last < n → n ≤ last + window → n ≤ greatest → accepts last window n ≡ true
accepting last window n above near most =
    ap₂ ◌&&◌ (ap₂ ◌&&◌ (lt-ltb last n above) (le-leb n (last + window) near)) (le-leb n greatest most)

-- ---- load

load-rules : (image numbers : List ℕ) → Octets image → Numbered (load_rules image) (loaded image numbers).answer
unfolding loaded Numbered
load-rules image numbers octets = by_test (valid_image image) refl
  where
    by_test : (t : Bool) → valid_image image ≡ t
        → Numbered (load_rules image)
        (cond t (record { answer = 0; length = 0; stores = 0; image = image; numbers = loaded_numbers image; output = [] })
        (refused 1 image numbers [])).answer
    by_test true e = inr (rules-kept image octets e, refl)
    by_test false e = inl (λ r. differ (valid_image image) (rules-valid image octets r) e, refl)

-- ---- the entry that serves

module _ (image numbers : List ℕ) (octets : Octets image) (direction : ℕ) (said : Said) (spi : ℕ) (frame : List ℕ) where
  abbrev w : Wanted
  w = wanted spi direction said frame

  abbrev e : ℕ
  e = index_of (entry_for image w)

  abbrev h : Held
  h = held_in (the_one (matching image numbers w))

  pub nobody : is_none (matching image numbers w) ≡ true → (d : ℕ) × Serves image direction said spi frame d → ⊥
  nobody none s =
      differ _ (served image direction said spi frame s.0 s.1) (finds_none image numbers w none s.0 s.1.entry)

  module _ (rules : ImageRules image) (some : is_none (matching image numbers w) ≡ false) where
    f : Finds image numbers w e
    f = finds image numbers w some

    pub serves : Serves image direction said spi frame e
    serves = serving image direction said spi frame e f.below f.passes

    -- it is the only one
    under : (P : ℕ → Type 0) → P e → (d : ℕ) → Serves image direction said spi frame d → P d
    under P p d s =
        subst P
        (spi_once image (valid image (rules-valid image octets rules)) e d serves.entry s.entry (serves.spis ∙ sym s.spis)) p

    pub held-service : h.service ≡ service_at image e
    unfolding association_of held
    held-service = ap (λ (x : Association). (held_in x).service) f.association ∙ service-at image e

    held-window : h.window ≡ window_at image e
    unfolding association_of held
    held-window = ap (λ (x : Association). (held_in x).window) f.association ∙ window-at image e

    held-mask : h.mask ≡ mask_at image e
    unfolding association_of held
    held-mask = ap (λ (x : Association). (held_in x).mask) f.association ∙ mask_at_lem image e

    held-key : h.key ≡ key_octets_at image e
    unfolding association_of held
    held-key = ap (λ (x : Association). (held_in x).key) f.association ∙ key-at image e

    last : (the_one (matching image numbers w)).number ≡ last_at numbers e
    unfolding association_of
    last = ap (λ (x : Association). x.number) f.association

    pub security : security_length h ≡ security_size (service_at image e)
    security = security_size_lem h said frame ∙ ap security_size held-service

    pub text : text_in h (kind_said said) frame ≡ text_on (service_at image e) said frame
    text = text_on_lem h said frame ∙ ap (λ (s : ℕ). text_on s said frame) held-service

    abbrev n : ℕ
    n = number_in h (kind_said said) frame

    number_read : 0 < n → n ≤ greatest
        → Opens (shape_in image) (service_at image e) said spi frame × (number_on (shape_in image) (service_at image e) said frame ≡ n)
    number_read some most =
        let k =
        held_kept image numbers e (rules-valid image octets rules) f.below said frame (rw f.association at some) (rw f.association at most)
        in
        (rw serves.spis at k.0, k.1 ∙ ap (λ (x : Association). number_in (held_in x) (kind_said said) frame) (sym f.association))

    number-found : Opens (shape_in image) (service_at image e) said spi frame → number_on (shape_in image) (service_at image e) said frame ≤ greatest
        → n ≡ number_on (shape_in image) (service_at image e) said frame
    number-found opens most =
        ap (λ (x : Association). number_in (held_in x) (kind_said said) frame) f.association
        ∙ held-right image numbers e (rules-valid image octets rules) f.below said frame (rw serves.spis opens) most

    pub mac : mac_right h (kind_said said) frame
        ≡ same (right_mac (service_at image e) said (mask_at image e) (key_octets_at image e) frame) (mac_on said frame)
    mac = mac-right h said frame (ap length held-mask ∙ length_part _ 6 image) ∙ rw (held-service, held-mask, held-key)

  -- the first six rules, which sending and checking share
  front : (secured : Bool) (behind : Rules) (tests : List Test)
      → (ImageRules image → is_none (matching image numbers w) ≡ false → Numbered behind (first tests))
      → Numbered
      (rule answer.BadImage (ImageRules image)
      (rule answer.BadMarks (Agreeing image numbers)
      (rule answer.WrongDesk (said.desk ≤ 2)
      (rule answer.BadFrame (FrameRules said frame (least secured))
      (rule answer.WrongCheckField (RightField said frame)
      (rule answer.NoEntry ((d : ℕ) × Serves image direction said spi frame d) behind))))))
      (first
      ((1, not (valid_image image))
      ∷ (2, not (agrees image numbers))
      ∷ (19, no_desk said.desk)
      ∷ (3, not (obeys (kind_said said) frame secured))
      ∷ (12, not (field_ok (kind_said said) frame))
      ∷ (4, is_none (matching image numbers w))
      ∷ tests))
  front secured behind tests then =
      step answer.BadImage (not (valid_image image)) _ _ _
      (λ t r. differ (valid_image image) (rules-valid image octets r) (not-true (valid_image image) t))
      (λ t1.
      let rules = rules-kept image octets (not-false (valid_image image) t1) in
      let rest =
      next-rule answer.BadMarks (not (agrees image numbers)) _ _ _
      (λ t a. differ (agrees image numbers) (agreement_tested image numbers octets a) (not-true (agrees image numbers) t))
      (λ t. agreement image numbers octets (not-false (agrees image numbers) t))
      (next-rule answer.WrongDesk (no_desk said.desk) _ _ _
      (λ t k. omega (arith, ltb-true 2 said.desk t))
      (λ t. ltb-false 2 said.desk t)
      (next-rule answer.BadFrame (not (obeys (kind_said said) frame secured)) _ _ _
      (λ t k. differ _ (frame_tested said frame secured k) (not-true (obeys (kind_said said) frame secured) t))
      (λ t. frame-kept said frame secured (not-false (obeys (kind_said said) frame secured) t))
      (next-rule answer.WrongCheckField (not (field_ok (kind_said said) frame)) _ _ _
      (λ t f. differ _ (field_tested said frame f) (not-true (field_ok (kind_said said) frame) t))
      (λ t. field-kept said frame (not-false (field_ok (kind_said said) frame) t))
      (step answer.NoEntry (is_none (matching image numbers w)) tests ((d : ℕ) × Serves image direction said spi frame d) behind nobody
      (λ t4. ((e, serves rules t4), then rules t4))))))
      in
      (rules, rest))

-- ---- securing

module _ (image numbers : List ℕ) (octets : Octets image) (said : Said) (spi : ℕ) (frame output : List ℕ) where
  sending-rules : Numbered (securing_rules image numbers said spi frame output)
      (first (securing_tests (seen image numbers (wanted spi 1 said frame)) said frame (length output)))
  unfolding securing_tests seen
  sending-rules =
      front image numbers octets 1 said spi frame false _ _
      (λ rules some.
      let w : Wanted = wanted spi 1 said frame in
      let d : ℕ = index_of (entry_for image w) in
      let a : Association = the_one (matching image numbers w) in
      let size : ℕ = secured_length (held_in a) frame in
      let s = serves image numbers octets 1 said spi frame rules some in
      let c = security image numbers octets 1 said spi frame rules some in
      let l = last image numbers octets 1 said spi frame rules some in
      let all = under image numbers octets 1 said spi frame rules some in
      let most = (form said).largest in
      next-rule answer.TooLong (exceeds (kind_said said) (security_length (held_in a)) frame) _ _ _
      (λ t r. omega (arith, r d s, ltb-true (kind_said said).largest size t))
      (λ t. all _ (omega (arith, ltb-false (kind_said said).largest size t)))
      (next-rule answer.NoRoom (ltb (length output) size) _ _ _
      (λ t r. omega (arith, r d s, ltb-true (length output) size t))
      (λ t. all _ (omega (arith, ltb-false (length output) size t)))
      (next-rule answer.NumbersSpent (spent a.number) _ _ _
      (λ t r. omega (arith, r d s, leb-true greatest a.number t))
      (λ t. all _ (omega (arith, leb-false greatest a.number t)))
      last_done)))

-- ---- checking

module _ (image numbers : List ℕ) (octets : Octets image) (said : Said) (frame output : List ℕ) where
  checking-rules : Numbered (checking_rules image numbers said frame output)
      (first
      (checking_tests (seen image numbers (checking_wants said frame)) (comparison image numbers said frame) said frame (length output)))
  unfolding checking_tests seen comparison clear_length
  checking-rules =
      rw (← spi_on_lem said frame)
      (let spi : ℕ = spi_on said frame in
      front image numbers octets 2 said spi frame true _ _
      (λ rules some.
      let w : Wanted = wanted spi 2 said frame in
      let d : ℕ = index_of (entry_for image w) in
      let a : Association = the_one (matching image numbers w) in
      let h : Held = held_in a in
      let least : ℕ = (kind_said said).header frame + security_length h + 1 + 16 + (kind_said said).trailer frame in
      let hs = header-size said frame in
      let fs = trailer-size said frame in
      let size : ℕ = length (text_in h (kind_said said) frame) in
      let right : Bool = mac_right h (kind_said said) frame in
      let n : ℕ = number_in h (kind_said said) frame in
      let inside : Bool = accepts a.number h.window n in
      let s = serves image numbers octets 2 said spi frame rules some in
      let c = security image numbers octets 2 said spi frame rules some in
      let z = ap length (text image numbers octets 2 said spi frame rules some) in
      let m = mac image numbers octets 2 said spi frame rules some in
      let l = last image numbers octets 2 said spi frame rules some in
      let o = held-window image numbers octets 2 said spi frame rules some in
      let read = number_read image numbers octets 2 said spi frame rules some in
      let found = number-found image numbers octets 2 said spi frame rules some in
      let all = under image numbers octets 2 said spi frame rules some in
      next-rule answer.TooShort (too_short (kind_said said) (security_length h) frame) _ _ _
      (λ t r. omega (arith, r d s, ltb-true (length frame) least t))
      (λ t. all _ (omega (arith, ltb-false (length frame) least t)))
      (next-rule answer.NoRoom (ltb (length output) size) _ _ _
      (λ t r. omega (arith, r d s, ltb-true (length output) size t))
      (λ t. all _ (omega (arith, ltb-false (length output) size t)))
      (next-rule answer.WrongMac (not right) _ _ _
      (λ t r. differ right (m ∙ rw (r d s) (same_refl (mac_on said frame))) (not-true right t))
      (λ t. all _ (same_eq _ _ (sym m ∙ not-false right t)))
      (next-rule answer.OutsideWindow (not inside) _ _ _
      (λ t r.
      let x = (r d s).1 in
      let v = found (r d s).0 x.most in
      differ inside (accepting a.number h.window n (omega (arith, x.above)) (omega (arith, x.near)) (omega (arith, x.most)))
      (not-true inside t))
      (λ t.
      let x = accepted a.number h.window n (not-false inside t) in
      let v = read (omega (arith, x.above)) x.fits in
      let same = v.1 in
      all _ (v.0, record { above = omega (arith, x.above); near = omega (arith, x.near); most = omega (arith, x.fits) }))
      last_done)))))

-- ---- all of them

pub answering : Answering
unfolding secured securing_reply securing checked checked_as checking_reply checking
answering =
    record {
      table =
          record {
            zero = λ length stores. refl;
            one = refl;
            two = refl;
            three = refl;
            four = refl;
            five = refl;
            six = refl;
            seven = refl;
            eight = refl;
            ten = refl;
            eleven = refl;
            twelve = refl;
            thirteen = refl;
            fourteen = refl;
            fifteen = refl;
            sixteen = refl;
            seventeen = refl;
            eighteen = refl;
            nineteen = refl;
          };
      loading = λ image numbers octets.
          exactly (load_rules image) (loaded image numbers)
          (λ refuse. let u = refusals.loading image numbers refuse in (u.length, u.stores)) refl (load-rules image numbers octets);
      sending = λ image numbers said spi frame output octets.
          exactly (securing_rules image numbers said spi frame output) (secured image numbers said spi frame output)
          (λ refuse. let u = refusals.sending image numbers said spi frame output refuse in (u.length, u.stores)) refl
          (rw (left-answer (securing_reply image numbers said spi frame (length output)) image numbers output)
          (sending-rules image numbers octets said spi frame output));
      checking = λ image numbers said frame output octets.
          exactly (checking_rules image numbers said frame output) (checked image numbers said frame output)
          (λ refuse. let u = refusals.checking image numbers said frame output refuse in (u.length, u.stores)) refl
          (rw (left-answer (checking_reply (comparison image numbers said frame) image numbers said frame (length output)) image numbers output)
          (checking-rules image numbers octets said frame output));
    }
