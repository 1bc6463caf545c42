-- A check that answers 0 served the entry that has the SPI on the frame, used the number on the frame, and gave its data in clear.
-- Assumes nothing.
use Prim.Native.Nat.{ℕ, ◌<◌}
use mathlib.Core.Path.{◌≡◌, sym, ap, ◌∙◌, subst}
use mathlib.Core.Bool.{Bool}
use mathlib.Core.List.{List}
use lib.ListN.{length, take}
use Rattle.association.specs.Association.{Association, association_of, held, held_in, the_one, matching}
use Rattle.image.specs.Image.{count_of, spi_of}
use Rattle.numbers.specs.Stores.{after_stores}
use Rattle.marks.specs.declared.plans.Store.{Store}
use Rattle.marks.specs.Stores.{stored}
use Rattle.judging.specs.Wants.{checking_wants}
use Rattle.link.specs.Calls.{handed, done, checking_entry, comparison, checking_reply}
use Rattle.link.specs.Calls.{checked_as, checked, checked_cut_as, checked_cut}
use Rattle.protection.specs.Protection.{field_in, text_in, clear_data}
use Rattle.judging.specs.Replies.{seen, Reply, checking}
use Rattle.judging.specs.Said.{Said, kind_said}
use Rattle.judging.proofs.Answered.{Checks, checks}
use Rattle.link.proofs.Leaving.{left-answer, left-done, handed-result, cut-done}
use Rattle.judging.proofs.Searches.{finds}
use Rattle.promises.specs.Frames.{spi_on, number_on, field_on, text_on, coming_in}
use Rattle.promises.specs.Images.{shape_in, service_at, key_octets_at}
use Rattle.promises.proofs.Fields.{service-at, key-at}
use Rattle.promises.proofs.Readings.{field_on_lem, text_on_lem, coming_in_lem}
use Rattle.promises.proofs.Used.{Used, only_entry, check-number, check_used}

module _ (image numbers : List ℕ) (said : Said) (frame output : List ℕ) (e : ℕ) (below : e < count_of image)
    (spis : spi_of image e ≡ spi_on said frame) (done-so : (checked image numbers said frame output).answer ≡ 0) where
  abbrev right : Bool
  right = comparison image numbers said frame

  abbrev pub reply : Reply
  reply = checking_reply right image numbers said frame (length output)

  pub reply-done : reply.answer ≡ 0
  unfolding checked checked_as
  reply-done = sym (left-answer reply image numbers output) ∙ done-so

  pub entry : checking_entry image said frame ≡ e
  entry =
      only_entry image numbers 2 said (spi_on said frame) frame (checking_entry image said frame) (length output) reply
      (check_used right image numbers said frame output reply-done) e below spis

  pub used : Used image numbers 2 said (spi_on said frame) frame e (length output) reply
  used =
      subst (λ (d : ℕ). Used image numbers 2 said (spi_on said frame) frame d (length output) reply) entry
      (check_used right image numbers said frame output reply-done)

  pub number : reply.number ≡ number_on (shape_in image) (service_at image e) said frame
  number = check-number right image numbers said frame output reply-done ∙ ap (λ (d : ℕ). number_on (shape_in image) (service_at image d) said frame) entry

  pub whole : checked image numbers said frame output ≡ done reply image numbers output
  unfolding checked checked_as
  whole = left-done reply image numbers output reply-done

  pub cut-image : (j : ℕ) → checked_cut image numbers said frame output j ≡ after_stores image e reply.number j
  unfolding checked_cut checked_cut_as after_stores
  cut-image j = cut-done reply image j reply-done ∙ ap (λ (s : List Store). stored image (take j s)) used.plan

  -- ---- the data

  kept-tests : Checks (seen image numbers (checking_wants said frame)) right said frame (length output)
  unfolding checking_reply
  kept-tests = checks (seen image numbers (checking_wants said frame)) right said frame (length output) reply-done

  association : the_one (matching image numbers (checking_wants said frame)) ≡ association_of image numbers e
  unfolding seen
  association = (finds image numbers (checking_wants said frame) kept-tests.front.found).association ∙ ap (association_of image numbers) entry

  pub out : let service = service_at image e in
      handed (checked image numbers said frame output)
      ≡ coming_in service (key_octets_at image e) (field_on service said frame) (text_on service said frame)
  unfolding checking_reply checking seen clear_data association_of held
  out =
      let h = held_in (association_of image numbers e) in
      ap handed whole
      ∙ handed-result reply image numbers output used.sized
      ∙ ap (λ (x : Association). clear_data (held_in x) (kind_said said) frame) association
      ∙ coming_in_lem h.service h.key (field_in h (kind_said said) frame) (text_in h (kind_said said) frame)
      ∙ rw (field_on_lem h said frame, text_on_lem h said frame, service-at image e, key-at image e)
