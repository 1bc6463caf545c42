-- What one end secures the other releases. The frame that went out is the one that the other end's association would have made, so its
-- reader finds there its own SPI and identifiers, a right MAC, the number and the data; and every test of the check passes.
-- Assumes nothing.
use Prim.Native.Nat.{ℕ, ◌+◌, ◌^◌, ◌≤◌, ◌<◌}
use mathlib.Core.Path.{◌≡◌, refl, sym, ap, ap₂, ◌∙◌}
use mathlib.Core.Bool.{Bool, true, false, cond, ◌&&◌}
use mathlib.Core.List.{List}
use native.Mathlib.Omega.{arith}
use borrow.Author.Tests.{lt-ltb, le-leb, le-ltb}
use lib.ListN.{length}
use Rattle.octets.specs.Lists.{Octets}
use Rattle.kinds.specs.Kinds.{Kind}
use Rattle.frame.specs.Rules.{obeys}
use Rattle.kinds.proofs.Kept.{Kept, lawful}
use Rattle.association.specs.Association.{Association, association_of, held, held_in}
use Rattle.numbers.specs.Numbers.{greatest, accepts}
use Rattle.association.specs.declared.held.Held.{Held}
use Rattle.association.specs.declared.search.Wanted.{Wanted}
use Rattle.association.proofs.Finding.{found-matching}
use Rattle.image.proofs.ValidImages.{valid}
use Rattle.judging.specs.Wants.{checking_wants}
use Rattle.link.specs.Calls.{handed, done, secured, comparison, checking_reply, checked_as, checked}
use Rattle.protection.specs.Protection.{secured_length, secured_frame, number_in, clear_data, clear_length}
use Rattle.judging.specs.Replies.{seen, Reply, checking}
use Rattle.judging.specs.Said.{Said, kind_said}
use Rattle.judging.proofs.Answered.{Checks, checks-zero, checking-size}
use Rattle.link.proofs.Leaving.{left-done, handed-result}
use Rattle.judging.proofs.Searches.{Finds, finds_at}
use Rattle.protection.proofs.Wire as wire
use Rattle.promises.specs.Frames as words
use Rattle.promises.specs.Images.{shape_in, count_in, spi_at, service_at, window_at, last_at, ImageRules, Agreeing, InWindow, Serves}
use Rattle.promises.specs.RoundTrip.{by, OtherEnd, Released, RoundTrip}
use Rattle.promises.proofs.Fields.{service-at, window-at, mask_at_lem, key-at, naming-at}
use Rattle.promises.proofs.Readings.{form, data_in_clear_lem, spi_on_lem}
use Rattle.promises.proofs.Sent as sent
use Rattle.promises.proofs.Valids.{rules-valid, agreement_tested, desk-known, served}

-- ---- the two associations hold the same service, mask and key, and make the IV alike

module _ (here sendNumbers there numbers : List ℕ) (e i desk : ℕ) (said : Said) (frame : List ℕ)
    (other : OtherEnd said frame here e there numbers i desk) where
  abbrev h : Held
  h = held_in (association_of here sendNumbers e)

  abbrev g : Held
  g = held_in (association_of there numbers i)

  same-service : g.service ≡ h.service
  unfolding association_of held
  same-service = service-at there i ∙ other.service ∙ sym (service-at here e)

  same-mask : g.mask ≡ h.mask
  unfolding association_of held
  same-mask = mask_at_lem there i ∙ other.mask ∙ sym (mask_at_lem here e)

  same_key : g.key ≡ h.key
  unfolding association_of held
  same_key = key-at there i ∙ other.key ∙ sym (key-at here e)

  same-naming : h.service ≡ 2 → g.naming ≡ h.naming
  unfolding association_of held
  same-naming two =
      let alike : (shape_in there).key_part ≡ (shape_in here).key_part = other.iv (sym (service-at here e) ∙ two) in
      naming-at there i ∙ ap₂ (λ (t : Bool) (spi : ℕ). cond t spi 0) alike other.spi ∙ sym (naming-at here e)

-- ---- the check of a frame that the receiver's association would have made

module _ (there numbers : List ℕ) (octets : Octets there) (said : Said) (spi n : ℕ) (frame output : List ℕ) (i : ℕ)
    (clear : obeys (kind_said said) frame false ≡ true)
    (fits : secured_length (held_in (association_of there numbers i)) frame ≤ (kind_said said).largest)
    (rules : ImageRules there)
    (agree : Agreeing there numbers)
    (serves : Serves there 2 said spi frame i)
    (window : InWindow (last_at numbers i) (window_at there i) n)
    (room : length (words.data_in_clear said frame) ≤ length output) where
  abbrev k : Kind
  k = kind_said said

  abbrev r : Held
  r = held_in (association_of there numbers i)

  abbrev S : List ℕ
  S = secured_frame r k spi n frame

  abbrev w : Wanted
  w = checking_wants said S

  abbrev reply : Reply
  reply = checking_reply true there numbers said S (length output)

  kept : Kept k frame S
  kept = wire.kept r (kind_said said) (lawful said.field said.kind) spi n frame clear fits

  small-spi : spi < 2 ^ 16
  small-spi = omega (arith, (rules.spi i serves.entry).1, serves.spis)

  serves-secured : Serves there 2 said (words.spi_on said S) S i
  serves-secured =
      record {
        entry = serves.entry;
        spis = serves.spis ∙ sym (spi_on_lem said S ∙ wire.spi-secured r (kind_said said) (lawful said.field said.kind) spi n frame clear fits small-spi);
        seen = serves.seen;
        state = serves.state;
        directions = serves.directions;
        kinds = serves.kinds;
        spacecraft = serves.spacecraft ∙ (form said).spacecraft frame ∙ sym ((form said).spacecraft S ∙ kept.spacecraft);
        channel = rw ((form said).channel S ∙ kept.channel ∙ sym ((form said).channel frame)) serves.channel;
        map = λ e. serves.map e ∙ (form said).map frame ∙ sym ((form said).map S ∙ kept.map);
      }

  finding : Finds there numbers w i
  finding =
      finds_at there numbers w i
      (found-matching there (valid there (rules-valid there octets rules)) w i serves.entry
      (rw (spi_on_lem said S) at (served there 2 said (words.spi_on said S) S i serves-secured)))

  -- ---- every test passes

  compared : comparison there numbers said S ≡ true
  unfolding comparison seen
  compared = rw finding.association (wire.right-secured r (kind_said said) (lawful said.field said.kind) spi n frame clear fits)

  inside : accepts (association_of there numbers i).number r.window (number_in r k S) ≡ true
  unfolding association_of held
  inside =
      let e = window-at there i in
      let m = wire.number-secured r (kind_said said) (lawful said.field said.kind) spi n frame clear fits (omega (arith, window.most)) in
      rw m
      (ap₂ ◌&&◌
      (ap₂ ◌&&◌ (lt-ltb (last_at numbers i) n window.above) (le-leb n (last_at numbers i + r.window) (omega (arith, window.near))))
      (le-leb n greatest window.most))

  data_long : clear_length r k S ≡ length (words.data_in_clear said frame)
  data_long = wire.length_data r (kind_said said) (lawful said.field said.kind) spi n frame clear fits ∙ ap length (sym (data_in_clear_lem said frame))

  tests : Checks (seen there numbers w) true said S (length output)
  unfolding seen
  tests =
      record {
        front =
            record {
              valid = rules-valid there octets rules;
              agree = agreement_tested there numbers octets agree;
              desk = le-ltb 2 said.desk (desk-known there said.desk i (rules.body i serves.entry) serves.seen);
              rules = wire.obeys-secured r (kind_said said) (lawful said.field said.kind) spi n frame clear fits;
              field = wire.field-right r (kind_said said) (lawful said.field said.kind) spi n frame clear fits;
              found = finding.some;
            };
        under =
            record {
              long = rw finding.association (wire.not_short r (kind_said said) (lawful said.field said.kind) spi n frame clear fits);
              roomy = rw (finding.association, data_long) room;
              mac = refl;
              window = rw finding.association inside;
            };
      }

  zero : reply.answer ≡ 0
  unfolding checking_reply
  zero = checks-zero (seen there numbers w) true said S (length output) tests

  -- ---- and the data is released

  is-done : checked there numbers said S output ≡ done reply there numbers output
  unfolding checked checked_as
  is-done = rw compared (left-done reply there numbers output zero)

  released : Released (words.data_in_clear said frame) (checked there numbers said S output)
  unfolding checking_reply checking seen
  released =
      rw is-done
      (record {
        answer = refl;
        size = rw finding.association data_long;
        result =
            handed-result reply there numbers output
            (checking-size (seen there numbers w) true said S (length output))
            ∙ ap (λ (x : Association). clear_data (held_in x) k S) finding.association
            ∙ wire.data_secured r (kind_said said) (lawful said.field said.kind) spi n frame clear fits
            ∙ sym (data_in_clear_lem said frame);
      })

-- ---- the frame that went out is that frame

pub round_trip : RoundTrip
round_trip = record { released = both_ends }
  where
    both_ends : (here sendNumbers : List ℕ) (said : Said) (spi : ℕ) (frame sendOutput there numbers output : List ℕ) (e i desk : ℕ)
        → Octets there
        → let x = secured here sendNumbers said spi frame sendOutput in
        x.answer ≡ 0
        → e < count_in here
        → spi_at here e ≡ spi
        → OtherEnd said frame here e there numbers i desk
        → InWindow (last_at numbers i) (window_at there i) (words.number_on (shape_in here) (service_at here e) said (handed x))
        → length (words.data_in_clear said frame) ≤ length output
        → Released (words.data_in_clear said frame) (checked there numbers (by desk said) (handed x) output)
    both_ends here sendNumbers said spi frame sendOutput there numbers output e i desk octets done-so below spis other window room =
        let used = sent.used here sendNumbers said spi frame sendOutput e below spis done-so in
        let s = used.serves in
        let n = last_at sendNumbers e + 1 in
        let h = held_in (association_of here sendNumbers e) in
        let g = held_in (association_of there numbers i) in
        let services = same-service here sendNumbers there numbers e i desk said frame other in
        let fits : secured_length g frame ≤ (kind_said said).largest =
        rw services (sent.fits here sendNumbers said spi frame sendOutput e below spis done-so)
        in
        let near : InWindow (last_at numbers i) (window_at there i) n =
        rw (sent.made here sendNumbers said spi frame sendOutput e below spis done-so).number at window
        in
        let out : handed (secured here sendNumbers said spi frame sendOutput) ≡ secured_frame g (kind_said said) spi n frame =
        sent.out here sendNumbers said spi frame sendOutput e below spis done-so
        ∙ wire.alike-frame h g (kind_said said) spi n frame services (same-mask here sendNumbers there numbers e i desk said frame other)
        (same_key here sendNumbers there numbers e i desk said frame other) (same-naming here sendNumbers there numbers e i desk said frame other)
        in
        let serves : Serves there 2 (by desk said) spi frame i =
        record {
          entry = other.entry;
          spis = other.spi ∙ spis;
          seen = other.seen;
          state = other.state;
          directions = other.direction;
          kinds = other.kind ∙ s.kinds;
          spacecraft = other.spacecraft ∙ s.spacecraft;
          channel = other.channel;
          map = λ two. other.map ∙ s.map two;
        }
        in
        rw out
        (released there numbers octets (by desk said) spi n frame output i
        (sent.clear here sendNumbers said spi frame sendOutput e below spis done-so) fits other.valid other.agree serves near room)
