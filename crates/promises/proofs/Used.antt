-- What a call that answers 0 used: an entry with that SPI and direction, a number above the entry's last and at most 1,024 above it, and
-- as many stores as the mark has to rise.
-- Assumes nothing.
use Prim.Native.Nat.{ℕ, ◌+◌, ◌-◌, ◌/◌, ◌^◌, ◌≤◌, ◌<◌}
use mathlib.Core.Path.{◌≡◌, refl, sym, ap, ◌∙◌}
use mathlib.Core.Bool.{Bool, true}
use mathlib.Core.List.{List}
use native.Mathlib.Omega.{arith}
use lib.ListN.{length}
use Rattle.association.specs.Association.{Association, association_of, held, held_in, the_one, matching}
use Rattle.image.specs.Image.{count_of, spi_of, valid_image, mark_in}
use Rattle.numbers.specs.Numbers.{greatest, agrees, accepts}
use Rattle.numbers.specs.Stores.{stores_for}
use Rattle.numbers.proofs.Agreement.{Accepted, accepted}
use Rattle.image.proofs.ValidImages.{valid, spi_once}
use Rattle.judging.specs.Wants.{securing_wants, checking_wants}
use Rattle.link.specs.Calls.{securing_entry, securing_reply, checking_entry, checking_reply}
use Rattle.protection.specs.Protection.{number_in}
use Rattle.judging.specs.Replies.{seen, Reply, securing, checking}
use Rattle.judging.specs.Said.{Said, kind_said}
use Rattle.judging.proofs.Answered.{secures, checks, securing-size, checking-size}
use Rattle.link.proofs.Carried.{counted}
use Rattle.judging.proofs.Searches.{finds}
use Rattle.link.proofs.Small.{window-small}
use Rattle.promises.specs.Frames.{spi_on, number_on, Opens}
use Rattle.promises.specs.Images.{shape_in, service_at, last_at, Serves}
use Rattle.promises.proofs.Fields.{service-at, naming-at}
use Rattle.promises.proofs.Readings.{spi_on_lem, number-kept, number-right}
use Rattle.promises.proofs.Valids.{serving}

pub record Used (image numbers : List ℕ) (direction : ℕ) (said : Said) (spi : ℕ) (frame : List ℕ) (e : ℕ) (room : ℕ) (q : Reply) : Type 0 where
  pub valid : valid_image image ≡ true
  pub agree : agrees image numbers ≡ true
  pub serves : Serves image direction said spi frame e
  pub above : last_at numbers e < q.number
  pub near : q.number ≤ last_at numbers e + 1024
  pub fits : q.number ≤ greatest
  pub entry : q.entry ≡ e
  pub plan : q.stores ≡ stores_for image e q.number
  pub sized : length q.result ≡ q.size
  pub roomy : q.size ≤ room

-- no other entry has that SPI
pub only_entry : (image numbers : List ℕ) (direction : ℕ) (said : Said) (spi : ℕ) (frame : List ℕ) (d room : ℕ) (q : Reply)
    → Used image numbers direction said spi frame d room q → (e : ℕ) → e < count_of image → spi_of image e ≡ spi → d ≡ e
only_entry image numbers direction said spi frame d room q u e below spis =
    spi_once image (valid image u.valid) d e u.serves.entry below (u.serves.spis ∙ sym spis)

-- the mark has to rise by the stores that are planned
pub planned : (image numbers : List ℕ) (direction : ℕ) (said : Said) (spi : ℕ) (frame : List ℕ) (e room : ℕ) (q : Reply)
    → Used image numbers direction said spi frame e room q → length q.stores ≡ q.number / 64 - mark_in image e
planned image numbers direction said spi frame e room q u = ap length u.plan ∙ counted image e q.number u.valid u.serves.entry

module _ (image numbers : List ℕ) (e : ℕ) where
  abbrev a : Association
  a = association_of image numbers e

  number_of : a.number ≡ last_at numbers e
  unfolding association_of
  number_of = refl

  -- a number of a frame that a window can take is the one behind what the entry's field begins with
  module _ (passed : valid_image image ≡ true) (below : e < count_of image) (said : Said) (frame : List ℕ) where
    small-spi : spi_of image e < 2 ^ 16
    small-spi = omega (arith, ((valid image passed).entry e below).spi.1)

    pub held_kept : let n = number_in (held_in a) (kind_said said) frame in
        0 < n → n ≤ greatest
        → Opens (shape_in image) (service_at image e) said (spi_of image e) frame × (number_on (shape_in image) (service_at image e) said frame ≡ n)
    unfolding association_of held
    held_kept some most =
        rw (← service-at image e) (number-kept (held_in a) said frame (shape_in image) (spi_of image e) small-spi (naming-at image e) some most)

    pub held-right : Opens (shape_in image) (service_at image e) said (spi_of image e) frame
        → number_on (shape_in image) (service_at image e) said frame ≤ greatest
        → number_in (held_in a) (kind_said said) frame ≡ number_on (shape_in image) (service_at image e) said frame
    unfolding association_of held
    held-right opens most =
        rw (← service-at image e)
        (number-right (held_in a) said frame (shape_in image) (spi_of image e) small-spi (naming-at image e) (rw (service-at image e) opens)
        (rw (service-at image e) most))

module _ (image numbers : List ℕ) (said : Said) (spi : ℕ) (frame output : List ℕ) where
  abbrev q_send : Reply
  q_send = securing_reply image numbers said spi frame (length output)

  abbrev e_send : ℕ
  e_send = securing_entry image said spi frame

  pub send-number : q_send.answer ≡ 0 → q_send.number ≡ last_at numbers e_send + 1
  unfolding securing_reply securing seen
  send-number z =
      let w = securing_wants said spi frame in
      let ok = secures (seen image numbers w) said spi frame (length output) z in
      let f = finds image numbers w ok.front.found in
      ap (λ (x : Association). x.number + 1) f.association ∙ ap (λ (n : ℕ). n + 1) (number_of image numbers e_send)

  pub send_used : q_send.answer ≡ 0 → Used image numbers 1 said spi frame e_send (length output) q_send
  unfolding securing_reply securing seen
  send_used z =
      let w = securing_wants said spi frame in
      let see = seen image numbers w in
      let ok = secures see said spi frame (length output) z in
      let f = finds image numbers w ok.front.found in
      let n = send-number z in
      let more : last_at numbers e_send < greatest = rw (f.association, number_of image numbers e_send) at ok.under.more in
      record {
        valid = ok.front.valid;
        agree = ok.front.agree;
        serves = serving image 1 said spi frame e_send f.below f.passes;
        above = omega arith;
        near = omega arith;
        fits = omega arith;
        entry = refl;
        plan = refl;
        sized = securing-size see said spi frame (length output) z;
        roomy = ok.under.roomy;
      }

module _ (right : Bool) (image numbers : List ℕ) (said : Said) (frame output : List ℕ) where
  abbrev q_check : Reply
  q_check = checking_reply right image numbers said frame (length output)

  abbrev e_check : ℕ
  e_check = checking_entry image said frame

  pub check_used : q_check.answer ≡ 0 → Used image numbers 2 said (spi_on said frame) frame e_check (length output) q_check
  unfolding checking_reply checking seen association_of
  check_used z =
      let w = checking_wants said frame in
      let see = seen image numbers w in
      let ok = checks see right said frame (length output) z in
      let f = finds image numbers w ok.front.found in
      let n = number_in (held_in (the_one (matching image numbers w))) (kind_said said) frame in
      let inside : accepts (last_at numbers e_check) (held_in (association_of image numbers e_check)).window n ≡ true =
      ap (λ (x : Association). accepts x.number (held_in x).window n) (sym f.association) ∙ ok.under.window
      in
      let took : Accepted (last_at numbers e_check) (held_in (association_of image numbers e_check)).window n =
      accepted (last_at numbers e_check) (held_in (association_of image numbers e_check)).window n inside
      in
      record {
        valid = ok.front.valid;
        agree = ok.front.agree;
        serves = serving image 2 said (spi_on said frame) frame e_check f.below (rw (spi_on_lem said frame) f.passes);
        above = took.above;
        near = omega (arith, took.near, window-small image numbers w e_check ok.front.valid f.below f.passes);
        fits = took.fits;
        entry = refl;
        plan = refl;
        sized = checking-size see right said frame (length output);
        roomy = ok.under.roomy;
      }

  pub check-number : q_check.answer ≡ 0 → q_check.number ≡ number_on (shape_in image) (service_at image e_check) said frame
  unfolding checking_reply checking seen
  check-number z =
      let w = checking_wants said frame in
      let ok = checks (seen image numbers w) right said frame (length output) z in
      let f = finds image numbers w ok.front.found in
      let u = check_used z in
      let same : q_check.number ≡ number_in (held_in (association_of image numbers e_check)) (kind_said said) frame =
      ap (λ (x : Association). number_in (held_in x) (kind_said said) frame) f.association
      in
      same
      ∙ sym
      (held_kept image numbers e_check u.valid f.below said frame (omega (arith, u.above, same)) (omega (arith, u.fits, same))).1
