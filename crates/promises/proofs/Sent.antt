-- A sending that answers 0 under an SPI served the entry with that SPI, and handed out the secured frame of the entry's next number.
-- Assumes nothing.
use Prim.Native.Nat.{ℕ, ◌+◌, ◌^◌, ◌≤◌, ◌<◌}
use mathlib.Core.Path.{◌≡◌, sym, ap, ap₂, ◌∙◌, subst}
use mathlib.Core.Bool.{true, false}
use mathlib.Core.List.{List}
use native.Mathlib.Omega.{arith}
use lib.ListN.{length, take}
use lib.Seq.{get_or-take}
use Rattle.octets.specs.Lists.{octet}
use Rattle.octets.proofs.Parts.{length_part}
use Rattle.octets.proofs.Sameness.{same_eq}
use Rattle.frame.specs.Parts.{header_of}
use Rattle.frame.specs.Rules.{obeys}
use Rattle.kinds.proofs.Kept.{lawful}
use Rattle.frame.proofs.Room.{obeyed}
use Rattle.association.specs.Association.{Association, association_of, held, held_in, the_one, matching}
use Rattle.image.specs.Image.{count_of, spi_of}
use Rattle.numbers.specs.Stores.{after_stores}
use Rattle.marks.specs.declared.plans.Store.{Store}
use Rattle.marks.specs.Stores.{stored}
use Rattle.image.proofs.ValidImages.{valid}
use Rattle.association.specs.declared.held.Held.{Held}
use Rattle.judging.specs.Wants.{securing_wants}
use Rattle.link.specs.Calls.{handed, done, securing_entry, securing_reply, secured, secured_cut}
use Rattle.services.specs.SecurityHeader.{service_in}
use Rattle.protection.specs.Protection.{secured_length, secured_frame, number_in}
use Rattle.judging.specs.Replies.{seen, Reply, securing}
use Rattle.judging.specs.Said.{Said, kind_said}
use Rattle.judging.proofs.Answered.{Secures, secures}
use Rattle.link.proofs.Leaving.{left-answer, left-done, handed-result, cut-done}
use Rattle.judging.proofs.Searches.{finds}
use Rattle.protection.proofs.Wire as wire
use Rattle.promises.specs.Forms.{form_said}
use Rattle.promises.specs.Frames as words
use Rattle.promises.specs.Frames.{SecuredFrom, Opens}
use Rattle.promises.specs.Images.{shape_in, place, service_at, mask_at, key_octets_at, last_at}
use Rattle.promises.proofs.Fields.{service-at, mask_at_lem, key-at}
use Rattle.promises.proofs.Readings.{form, header-size, frame-kept, field-kept, control_on_lem, data_in_clear_lem}
use Rattle.promises.proofs.Readings.{security_size_lem, spi_on_lem, text_on_lem, field_on_lem, mac-right, going_out_lem}
use Rattle.promises.proofs.Used.{Used, only_entry, held_kept, send-number, send_used}

module _ (image numbers : List ℕ) (said : Said) (spi : ℕ) (frame output : List ℕ) (e : ℕ) (below : e < count_of image) (spis : spi_of image e ≡ spi)
    (done-so : (secured image numbers said spi frame output).answer ≡ 0) where
  abbrev pub reply : Reply
  reply = securing_reply image numbers said spi frame (length output)

  abbrev h : Held
  h = held_in (association_of image numbers e)

  pub reply-done : reply.answer ≡ 0
  unfolding secured
  reply-done = sym (left-answer reply image numbers output) ∙ done-so

  pub entry : securing_entry image said spi frame ≡ e
  entry =
      only_entry image numbers 1 said spi frame (securing_entry image said spi frame) (length output) reply
      (send_used image numbers said spi frame output reply-done) e below spis

  pub used : Used image numbers 1 said spi frame e (length output) reply
  used =
      subst (λ (d : ℕ). Used image numbers 1 said spi frame d (length output) reply) entry
      (send_used image numbers said spi frame output reply-done)

  pub number : reply.number ≡ last_at numbers e + 1
  number = send-number image numbers said spi frame output reply-done ∙ ap (λ (d : ℕ). last_at numbers d + 1) entry

  pub whole : secured image numbers said spi frame output ≡ done reply image numbers output
  unfolding secured
  whole = left-done reply image numbers output reply-done

  pub cut-image : (j : ℕ) → secured_cut image numbers said spi frame output j ≡ after_stores image e reply.number j
  unfolding secured_cut after_stores
  cut-image j = cut-done reply image j reply-done ∙ ap (λ (s : List Store). stored image (take j s)) used.plan

  -- ---- the frame

  kept-tests : Secures (seen image numbers (securing_wants said spi frame)) said frame (length output)
  unfolding securing_reply
  kept-tests = secures (seen image numbers (securing_wants said spi frame)) said spi frame (length output) reply-done

  association : the_one (matching image numbers (securing_wants said spi frame)) ≡ association_of image numbers e
  unfolding seen
  association =
      (finds image numbers (securing_wants said spi frame) kept-tests.front.found).association ∙ ap (association_of image numbers) entry

  pub clear : obeys (kind_said said) frame false ≡ true
  clear = kept-tests.front.rules

  pub fits : secured_length h frame ≤ (kind_said said).largest
  unfolding seen
  fits = rw association at kept-tests.under.fits

  pub out : handed (secured image numbers said spi frame output) ≡ secured_frame h (kind_said said) spi (last_at numbers e + 1) frame
  unfolding securing_reply securing seen association_of
  out =
      ap handed whole
      ∙ handed-result reply image numbers output used.sized
      ∙ ap (λ (x : Association). secured_frame (held_in x) (kind_said said) spi (x.number + 1) frame) association

  small : last_at numbers e + 1 < 2 ^ 32
  small = omega (arith, used.fits, number)

  small-spi : spi < 2 ^ 16
  small-spi = omega (arith, ((valid image used.valid).entry e below).spi.1)

  -- what it holds
  abbrev S : List ℕ
  S = secured_frame h (kind_said said) spi (last_at numbers e + 1) frame

  -- an octet of its header is read in the header that securing made
  header-octet : (j : ℕ) → j < (kind_said said).header frame → octet S j ≡ (form_said said).secured_octet (length S) frame j
  unfolding header_of
  header-octet j below-header =
      let k = kind_said said in
      let n = last_at numbers e + 1 in
      let long = wire.length-secured h (kind_said said) (lawful said.field said.kind) spi n frame clear fits in
      let same = (wire.kept h (kind_said said) (lawful said.field said.kind) spi n frame clear fits).header in
      let room = (obeyed k frame false clear).room in
      sym (get_or-take (k.header S) S j 0 (omega arith))
      ∙ ap (λ (s : List ℕ). octet s j) (wire.header_read h (kind_said said) (lawful said.field said.kind) spi n frame clear fits)
      ∙ rw long ((form said).copied (secured_length h frame) frame j fits (omega arith) below-header)

  read_back_lem : number_in h (kind_said said) S ≡ last_at numbers e + 1
  read_back_lem = wire.number-secured h (kind_said said) (lawful said.field said.kind) spi (last_at numbers e + 1) frame clear fits small

  named : Opens (shape_in image) h.service said spi S × (words.number_on (shape_in image) h.service said S ≡ last_at numbers e + 1)
  unfolding association_of held
  named =
      let k = held_kept image numbers e used.valid below said S (omega (arith, read_back_lem)) (omega (arith, read_back_lem, small)) in
      subst (λ (c : ℕ). Opens (shape_in image) c said spi S × (words.number_on (shape_in image) c said S ≡ last_at numbers e + 1))
      (sym (service-at image e)) (rw spis at k.0, k.1 ∙ read_back_lem)

  secured-from : length h.mask ≡ 6 → SecuredFrom (shape_in image) h.service said spi (last_at numbers e + 1) h.mask h.key frame S
  secured-from six =
      let n = last_at numbers e + 1 in
      let long = wire.length-secured h (kind_said said) (lawful said.field said.kind) spi n frame clear fits in
      record {
        size = omega (arith, long, security_size_lem h said S);
        rules = frame-kept said S true (wire.obeys-secured h (kind_said said) (lawful said.field said.kind) spi n frame clear fits);
        header = λ j below-header. header-octet j (omega (arith, header-size said frame));
        spis = spi_on_lem said S ∙ wire.spi-secured h (kind_said said) (lawful said.field said.kind) spi n frame clear fits small-spi;
        opens = named.0;
        number = named.1;
        text =
            sym (text_on_lem h said S)
            ∙ wire.text_read h (kind_said said) (lawful said.field said.kind) spi n frame clear fits
            ∙ ap₂ ((service_in h).going_out h.key) (sym (wire.field_read h (kind_said said) (lawful said.field said.kind) spi n frame clear fits) ∙ field_on_lem h said S)
            (sym (data_in_clear_lem said frame))
            ∙ going_out_lem h.service h.key (words.field_on h.service said S) (words.data_in_clear said frame);
        mac = sym (same_eq _ _ (sym (mac-right h said S six) ∙ wire.right-secured h (kind_said said) (lawful said.field said.kind) spi n frame clear fits));
        control =
            control_on_lem said S
            ∙ wire.control_read h (kind_said said) (lawful said.field said.kind) spi n frame clear fits
            ∙ sym (control_on_lem said frame);
        field = field-kept said S (wire.field-right h (kind_said said) (lawful said.field said.kind) spi n frame clear fits);
      }

  pub made : SecuredFrom (shape_in image) (service_at image e) said spi (last_at numbers e + 1) (mask_at image e) (key_octets_at image e) frame
      (handed (secured image numbers said spi frame output))
  unfolding association_of held
  made =
      rw (out, ← service-at image e, ← mask_at_lem image e, ← key-at image e)
      (secured-from (ap length (mask_at_lem image e) ∙ length_part (place image e 10) 6 image))
