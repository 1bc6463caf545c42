-- No IV goes out twice under one key. The number of a frame and, from version 3 on, its SPI are read in its IV; two frames with the same are
-- of the same entry, and so they are where no two entries have the same key; and the number of an entry only rises.
-- Assumes nothing.
use Prim.Native.Nat.{ℕ, ◌+◌, ◌≤◌, ◌<◌}
use mathlib.Core.Path.{◌≡◌, refl, sym, ap, ap₂, subst, ◌∙◌}
use mathlib.Core.Bool.{Bool, true, false, cond, true≢false}
use mathlib.Core.List.{List, [], ◌∷◌, ◌++◌}
use native.Mathlib.Omega.{arith}
use lib.ListN.{length}
use lib.Seq.{get_or-set_same}
use Rattle.octets.specs.Lists.{octet, part}
use Rattle.octets.specs.Numbers.{number_at}
use Rattle.octets.proofs.Parts.{part_same}
use Rattle.image.specs.Image.{valid_image}
use Rattle.image.proofs.ValidImages.{valid, spi_once}
use Rattle.link.specs.Calls.{handed, loaded, secured}
use Rattle.promises.specs.Frames.{Opens, number_on}
use Rattle.promises.specs.Images.{shape_in, version_in, count_in, spi_at, place, service_at, key_id_at, key_count_in, octets_of_key, key_from, key_octets_at, last_at}
use Rattle.promises.specs.Runs as frames
use Rattle.promises.specs.Runs.{State, kept}
use Rattle.promises.specs.Versions.{Shape, shape_of, names_spi}
use Rattle.promises.proofs.Fields.{shapes}
use Rattle.promises.proofs.Keeps.{Inv, loaded-image, load_inv}
use Rattle.promises.proofs.Leaves.{leaving}
use Rattle.promises.proofs.Readings.{field-number}
use Rattle.promises.proofs.Sent as sending
use Rattle.command_promises.specs.FreshIvs.{GoesOut, OwnKeys, FreshIvs}
use Rattle.command_promises.specs.Runs.{Step, call, command, command_cut, Shown, after, ran, OfOctets}
use Rattle.command_promises.proofs.Effects.{Effect, quiet, loads, sends, frees, raises, raises_cut, effect}
use Rattle.command_promises.proofs.Keeps.{Spoken, Keeps, keeps}
use Rattle.command_promises.proofs.Runs.{first-spoken, rest-spoken, ran-keeps}
use Rattle.command_promises.proofs.Unmanaged.{Same, same_itself, same_then, version-same, count_same, place_same, spi-same, octet-same, in_body}

-- ---- the number of an entry never falls

step_rises : (e : ℕ) (x y : State) (shown : List Shown) → valid_image x.image ≡ true → Effect e x y shown → last_at x.numbers e ≤ last_at y.numbers e
step_rises e x y shown passed (quiet s same) = omega arith
step_rises e x y shown passed (loads s low high) = low passed
step_rises e x y shown passed (sends p one s new) = omega arith
step_rises e x y shown passed (frees n p two s up new) = omega arith
step_rises e x y shown passed (raises s up) = up
step_rises e x y shown passed (raises_cut s up) = up passed

never_falls : (e : ℕ) (vs : List Step) (x : State) → OfOctets vs → Inv x → valid_image x.image ≡ true → e < count_in x.image
    → last_at x.numbers e ≤ last_at (ran x vs).numbers e
unfolding ran
never_falls e [] x o inv passed below = omega arith
never_falls e (v ∷ vs) x o inv passed below =
    let spoken = first-spoken v vs o in
    let k = keeps x v spoken inv in
    let one = step_rises e x (after x v) _ passed (effect e x v spoken inv below) in
    let more =
    never_falls e vs (after x v) (rest-spoken v vs o) k.inv (k.stays ∙ passed)
    (omega (arith, count_same x.image (after x v).image k.same))
    in
    omega (arith, one, more)

-- ---- a run in parts

with_first : (v : Step) (vs : List Step) → Spoken v → OfOctets vs → OfOctets (v ∷ vs)
unfolding OfOctets Spoken
with_first (call v) vs spoken o = o
with_first (command desk c output) vs spoken o = (spoken, o)
with_first (command_cut desk c output j any) vs spoken o = (spoken, o)

front-spoken : (vs ws : List Step) → OfOctets (vs ++ ws) → OfOctets vs
unfolding OfOctets
front-spoken [] ws o = tt
front-spoken (v ∷ vs) ws o = with_first v vs (first-spoken v (vs ++ ws) o) (front-spoken vs ws (rest-spoken v (vs ++ ws) o))

back_spoken : (vs ws : List Step) → OfOctets (vs ++ ws) → OfOctets ws
back_spoken [] ws o = o
back_spoken (v ∷ vs) ws o = back_spoken vs ws (rest-spoken v (vs ++ ws) o)

-- ---- what is known of a frame that goes out

record Known (image : List ℕ) (x : State) (v : Step) (e : ℕ) (key iv : List ℕ) : Type 0 where
  below : e < count_in image
  passed : valid_image x.image ≡ true
  service : service_at image e ≡ 2
  number : last_at x.numbers e + 1 ≡ cond (names_spi (shape_in image) 2) (number_at 8 4 iv) (number_at 0 12 iv)
  spis : names_spi (shape_in image) 2 ≡ true → number_at 0 4 iv ≡ spi_at image e
  next : last_at (after x v).numbers e ≡ last_at x.numbers e + 1
  keys : (shape_in image).key_part ≡ false → key ≡ key_octets_at image e

module _ (image : List ℕ) (x : State) (same : Same image x.image) (inv : Inv x) (v : Step) (e : ℕ) (key iv : List ℕ) (g : GoesOut x v e key iv) where
  abbrev s : List ℕ
  s = x.image

  below_image : e < count_in image
  below_image = omega (arith, g.entry, count_same image s same)

  valid_so : valid_image s ≡ true
  valid_so = (sending.used s x.numbers g.said g.spi g.frame g.output e g.entry g.spis g.done).valid

  shape_is : shape_in s ≡ shape_in image
  shape_is = ap shape_of (version-same image s same)

  service-is : service_at image e ≡ 2
  service-is = sym (octet-same image s same e 0 below_image (omega arith)) ∙ g.service

  key_in_body : (t : List ℕ) → (shape_in t).key_part ≡ false → key_octets_at t e ≡ part (place t e 16) 32 t
  key_in_body t none =
      ap (λ (b : Bool). cond b (octets_of_key t (key_from t (key_id_at t e) 0 (key_count_in t))) (part (place t e 16) 32 t)) none

  -- below version 3 no store reaches a key
  key-is : (shape_in image).key_part ≡ false → key_octets_at s e ≡ key_octets_at image e
  key-is none =
      let r = shapes (version_in image) in
      key_in_body s (ap (λ (h : Shape). h.key_part) shape_is ∙ none)
      ∙ ap (λ (p : ℕ). part p 32 s) (place_same image s same e 16)
      ∙ part_same (place image e 16) 32 s image
      (λ i h.
      let at : place image e 16 + i ≡ place image e (16 + i) = omega arith in
      ap (octet s) at
      ∙ same.elsewhere (place image e (16 + i))
      (in_body image e (16 + i) below_image
      (record {
        inside = omega (arith, r.held none, r.inside);
        state = λ q. omega arith;
        high = λ q. omega arith;
        low = λ q. omega arith;
        key_high = λ t q. true≢false (sym t ∙ none);
        key_low = λ t q. true≢false (sym t ∙ none);
        mark = omega (arith, r.held none);
      }))
      ∙ sym (ap (octet image) at))
      ∙ sym (key_in_body image none)

  known : Known image x v e key iv
  unfolding after frames.after
  known =
      let thirty_two = (inv.good valid_so).thirty_two in
      let l = leaving.sending s x.numbers g.said g.spi g.frame g.output e inv.octets thirty_two g.entry g.spis g.done in
      let out : List ℕ = handed (secured s x.numbers g.said g.spi g.frame g.output) in
      let n = last_at x.numbers e + 1 in
      let number : number_on (shape_in image) 2 g.said out ≡ n =
      subst (λ (c : ℕ). number_on (shape_in image) c g.said out ≡ n) g.service
      (subst (λ (h : Shape). number_on h (service_at s e) g.said out ≡ n) shape_is l.out.number)
      in
      let opens : Opens (shape_in image) 2 g.said g.spi out =
      subst (λ (c : ℕ). Opens (shape_in image) c g.said g.spi out) g.service
      (subst (λ (h : Shape). Opens h (service_at s e) g.said g.spi out) shape_is l.out.opens)
      in
      let inside : e < length x.numbers = omega (arith, thirty_two, (valid s valid_so).laid.count, g.entry) in
      record {
        below = below_image;
        passed = valid_so;
        service = service-is;
        number =
            sym number
            ∙ rw g.ivs
            (ap₂ (cond (names_spi (shape_in image) 2)) (sym (field-number g.said out 8 4 (omega arith))) (sym (field-number g.said out 0 12 (omega arith))));
        spis = λ named.
            rw g.ivs
            (field-number g.said out 0 4 (omega arith) ∙ opens.spis named ∙ sym g.spis ∙ spi-same image s same e below_image);
        next =
            rw g.sending
            (ap (λ (n : List ℕ). last_at n e) l.leaves.lasts ∙ get_or-set_same x.numbers e (last_at x.numbers e + 1) 0 inside);
        keys = λ none. g.keys ∙ key-is none;
      }

-- ---- two of them

two_frames : (image : List ℕ) (x y : State) (v w : Step) (d e : ℕ) (key iv otherKey otherIv : List ℕ) → ((shape_in image).key_part ≡ false → OwnKeys image)
    → Known image x v d key iv → Known image y w e otherKey otherIv → valid_image image ≡ true → key ≡ otherKey → iv ≡ otherIv
    → (d ≡ e) × (last_at x.numbers d ≡ last_at y.numbers e)
two_frames image x y v w d e key iv otherKey otherIv own a b passed keys ivs = (by_part (shape_in image).key_part refl, numbers)
  where
    numbers : last_at x.numbers d ≡ last_at y.numbers e
    numbers =
        let same : last_at x.numbers d + 1 ≡ last_at y.numbers e + 1 =
        a.number ∙ ap (λ (i : List ℕ). cond (names_spi (shape_in image) 2) (number_at 8 4 i) (number_at 0 12 i)) ivs ∙ sym b.number
        in
        omega arith

    by_part : (t : Bool) → (shape_in image).key_part ≡ t → d ≡ e
    by_part true has =
        let named : names_spi (shape_in image) 2 ≡ true = rw has refl in
        spi_once image (valid image passed) d e a.below b.below
        (sym (a.spis named) ∙ ap (number_at 0 4) ivs ∙ b.spis named)
    by_part false none =
        own none d e a.below b.below a.service b.service (sym (a.keys none) ∙ keys ∙ b.keys none)

-- ---- over a run

module _ (image : List ℕ) (start : State) (first : Same image start.image) (stays : valid_image start.image ≡ valid_image image) (inv : Inv start)
    (earlier : List Step) (v : Step) (between : List Step) (w : Step) (spoken : OfOctets (earlier ++ (v ∷ (between ++ (w ∷ []))))) where
  abbrev x : State
  x = ran start earlier

  abbrev y : State
  y = ran (after x v) between

  later : OfOctets (v ∷ (between ++ (w ∷ [])))
  later = back_spoken earlier (v ∷ (between ++ (w ∷ []))) spoken

  meanwhile : OfOctets between
  meanwhile = front-spoken between (w ∷ []) (rest-spoken v (between ++ (w ∷ [])) later)

  to_x : Keeps start x
  to_x = ran-keeps earlier start (front-spoken earlier (v ∷ (between ++ (w ∷ []))) spoken) inv

  over_v : Keeps x (after x v)
  over_v = keeps x v (first-spoken v (between ++ (w ∷ [])) later) to_x.inv

  to_y : Keeps (after x v) y
  to_y = ran-keeps between (after x v) meanwhile over_v.inv

  same_x : Same image x.image
  same_x = same_then image start.image first x.image to_x.same

  same_y : Same image y.image
  same_y =
      same_then image (after x v).image (same_then image x.image same_x (after x v).image over_v.same) y.image to_y.same

  apart : (d e : ℕ) (key iv otherKey otherIv : List ℕ) → ((shape_in image).key_part ≡ false → OwnKeys image)
      → GoesOut x v d key iv → GoesOut y w e otherKey otherIv → key ≡ otherKey → iv ≡ otherIv → ⊥
  apart d e key iv otherKey otherIv own a b keys ivs =
      let k = known image x same_x to_x.inv v d key iv a in
      let m = known image y same_y to_y.inv w e otherKey otherIv b in
      let passed : valid_image image ≡ true = sym stays ∙ sym to_x.stays ∙ k.passed in
      let t = two_frames image x y v w d e key iv otherKey otherIv own k m passed keys ivs in
      let below : d < count_in (after x v).image =
      omega (arith, a.entry, count_same x.image (after x v).image over_v.same)
      in
      let up = never_falls d between (after x v) meanwhile over_v.inv (over_v.stays ∙ k.passed) below in
      let own-last : last_at y.numbers e ≡ last_at y.numbers d = ap (last_at y.numbers) (sym t.0) in
      omega (arith, up, k.next, t.1, own-last)

pub fresh-ivs : FreshIvs
unfolding ran after frames.after
fresh-ivs =
    record {
      fresh = λ image numbers earlier v between w d e key iv otherKey otherIv octets spoken own a b keys ivs.
          apart image (kept (loaded image numbers)) (rw (loaded-image image numbers) (same_itself image)) (ap valid_image (loaded-image image numbers))
          (load_inv image numbers octets) earlier v between w spoken d e key iv otherKey otherIv own a b keys ivs;
    }
