-- Management round trips: stop, expire and start store one octet, the state, and a rekey to the same key stores the ID that is there; so they
-- pass through images that differ in the state alone, and the last store brings the first image back.
-- Assumes nothing.
use Prim.Native.Nat.{ℕ, ◌+◌, ◌*◌, ◌≤◌, ◌<◌}
use mathlib.Core.Path.{◌≡◌, refl, sym, ap, ap₂, subst, ◌∙◌}
use mathlib.Core.Logic.{◌≢◌, inl, inr}
use mathlib.Core.Bool.{Bool, true, false, cond, ◌&&◌}
use mathlib.Core.List.{List, [], ◌∷◌, ◌++◌}
use native.Mathlib.Omega.{arith}
use lib.Dec.{eqb}
use lib.ListN.{length, set, drop, length-set}
use lib.Seq.{take_at, set-set, set-get_or, get_or-drop, get_or-set_same, get_or-set_other}
use Rattle.std.specs.Prelude.{Err}
use Rattle.octets.specs.Lists.{octet, Octets}
use Rattle.octets.specs.Numbers.{number, number_at, bytes}
use Rattle.octets.proofs.Numbers.{number_at-same}
use Rattle.marks.specs.Stores.{stored}
use Rattle.marks.specs.declared.plans.Store.{Store}
use Rattle.bodies.specs.Body.{window_of, window_fits}
use Rattle.bodies.specs.Layout.{state_place}
use Rattle.image.specs.Image.{version_of, body_at, body_of, valid_image}
use Rattle.image.proofs.KeptParts.{kept-version, kept-count, kept-place, kept-spi, kept_in}
use Rattle.image.proofs.ValidImages.{valid, spi_once}
use Rattle.judging.specs.Answers.{Reported, reported}
use Rattle.judging.specs.Said.{Said}
use Rattle.judging.specs.declared.answers.Refusal.{Refusal}
use Rattle.judging.specs.declared.answers.Refusal.TheVariants as answer
use Rattle.link.specs.Calls.{Left, handed, secured, checked}
use Rattle.commands.specs.Commanding.{commanded}
use Rattle.commands.proofs.KeptFields.{FieldsOnly, SameRest, fields_within, kept-rest}
use Rattle.commands.proofs.Managed.{Managed, state_only, state-stored, window-stays, restated_managed, fields-agree}
use Rattle.promises.specs.Answers.{Rules, rule, reporting, report_of, Gives}
use Rattle.promises.specs.Frames.{FrameRules, RightField, spi_on}
use Rattle.promises.specs.Images.{version_in, shape_in, count_in, spi_at, place, kind_at, state_at, spacecraft_at, channel_at, map_at, window_at, key_id_at, last_at, is_set}
use Rattle.promises.specs.Images.{owner_at, ImageRules, Agreeing, Sees, Serves}
use Rattle.promises.specs.Versions.{Shape, shape_of}
use Rattle.promises.proofs.Answers.{answering}
use Rattle.promises.proofs.Fields.{shapes, stands, kind-at, state-at, spacecraft-at, channel-at, map_at_lem, window-at}
use Rattle.promises.proofs.Valids.{between_tested, rules-kept, rules-valid, agreement, agreement_tested, desk-known, key-found}
use Rattle.command_promises.specs.Answers.{row_in, FormRules, About}
use Rattle.command_promises.specs.Leaves.{Leaves, writes, renames, LeavesAt, SetsNumber}
use Rattle.command_promises.specs.Management.{Speaks, Starts, Rekeys, Restored, Stopped, Management}
use Rattle.command_promises.specs.Rows.{Names, NeedsKey, NeedsActive, IsChannel, row_of}
use Rattle.command_promises.proofs.Answers.{command_answers}
use Rattle.command_promises.proofs.Leaves.{command-leaving, octets-after}
use Rattle.command_promises.proofs.NamedKeys.{in_state_lem}
use Rattle.command_promises.proofs.Seats.{not_key}

-- ---- where every rule is kept, the answer is 0

answers_zero : (image numbers : List ℕ) (desk : ℕ) (c output : List ℕ) (e : ℕ) → Octets image → ImageRules image → Agreeing image numbers → FormRules c
    → (row_in c).names ≡ true → Names image desk c e → (row_in c).State (state_at image e) → (row_in c).Value image numbers c e
    → (row_in c).Known image c e → (row_in c).Ready image c e → (row_in c).reply image c ≤ length output
    → (commanded image numbers desk c output).answer ≡ 0
unfolding Gives
answers_zero image numbers desk c output e octets rules agree form named names state value known ready room =
    let v = valid image (rules-valid image octets rules) in
    let under : (P : ℕ → Type 0) → P e → (d : ℕ) → About image desk c d → P d =
    λ P p d about. subst P (spi_once image v e d names.entry (about named).entry (names.spi ∙ sym (about named).spi)) p in
    sym
    ((command_answers.commanding image numbers desk c output octets).alone (reporting 0 0 0)
    (inr (
      rules,
      inr (
        agree,
        inr (
          record { known = desk-known image desk e (rules.body e names.entry) names.seen; office = λ key. absurd (not_key c named key) },
          inr (
            form,
            inr (
              (e, λ so. names),
              inr (
                under (λ (d : ℕ). (row_in c).State (state_at image d)) state,
                inr (
                  under ((row_in c).Value image numbers c) value,
                  inr (under ((row_in c).Known image c) known, inr (under ((row_in c).Ready image c) ready, inr (room, refl))),
                ),
              ),
            ),
          ),
        ),
      ),
    )))

-- what a row asks, by the tag
by_state : (c : List ℕ) (t s : ℕ) → octet c 0 ≡ t → (row_of t).State s → (row_in c).State s
by_state c t s e h = rw e h

by_value : (image numbers c : List ℕ) (e t : ℕ) → octet c 0 ≡ t → (row_of t).Value image numbers c e → (row_in c).Value image numbers c e
by_value image numbers c e t q h = rw q h

by_name : (c : List ℕ) (t : ℕ) → octet c 0 ≡ t → (row_of t).names ≡ true → (row_in c).names ≡ true
by_name c t q h = rw q h

by-known : (image c : List ℕ) (e t : ℕ) → octet c 0 ≡ t → (row_of t).Known image c e → (row_in c).Known image c e
by-known image c e t q h = rw q h

by-ready : (image c : List ℕ) (e t : ℕ) → octet c 0 ≡ t → (row_of t).Ready image c e → (row_in c).Ready image c e
by-ready image c e t q h = rw q h

by-room : (image c : List ℕ) (t n : ℕ) → octet c 0 ≡ t → (row_of t).reply image c ≤ n → (row_in c).reply image c ≤ n
by-room image c t n e h = rw e h

-- a number of two octets is told by them
two-octets : (s : List ℕ) (at : ℕ) → number_at at 2 s ≡ octet s at * 256 + octet s (at + 1)
unfolding number
two-octets s at = let z : at + 0 ≡ at = omega arith in rw (get_or-drop at s 0 0, get_or-drop at s 1 0, z) (omega arith)

-- ---- the images that a state passes through

module _ (image numbers : List ℕ) (e : ℕ) (octets : Octets image) (thirty_two : length numbers ≡ 32) (rules : ImageRules image)
    (agree : Agreeing image numbers) (listed : e < count_in image) (running : state_at image e ≡ 2) where
  passed : valid_image image ≡ true
  passed = rules-valid image octets rules

  abbrev with : ℕ → List ℕ
  with state = set image (body_at image e + state_place) state

  fits : window_fits (window_of (body_of image e)) ≡ true
  fits = between_tested 1 (window_of (body_of image e)) 1024 (rw (window-at image e) ((rules.body e listed).window running))

  only : (state : ℕ) → FieldsOnly image e (with state)
  only state = state_only image e passed listed state

  managed : (state : ℕ) → state ≤ 2 → Managed image e (with state)
  managed state small =
      restated_managed image e passed listed state octets small (λ s. fits)
      (λ s has. ((valid image passed).keyed has).serves e listed (state-at image e ∙ running))

  rules_with : (state : ℕ) → state ≤ 2 → ImageRules (with state)
  rules_with state small = rules-kept (with state) (managed state small).octets (managed state small).valid

  agree_with : (state : ℕ) → state ≤ 2 → Agreeing (with state) numbers
  agree_with state small =
      agreement (with state) numbers (managed state small).octets
      (fields-agree image numbers e (with state) (only state) (agreement_tested image numbers octets agree))

  listed_with : (state : ℕ) → e < count_in (with state)
  listed_with state = rw (kept-count (fields_within (only state))) listed

  spi_with : (state : ℕ) → spi_at (with state) e ≡ spi_at image e
  spi_with state = kept-spi (fields_within (only state)) e listed

  state_with : (state : ℕ) → state_at (with state) e ≡ state
  state_with state = sym (state-at (with state) e) ∙ state-stored image e passed listed state

  window_with : (state : ℕ) → window_at (with state) e ≡ window_at image e
  window_with state = sym (window-at (with state) e) ∙ window-stays image e passed listed state ∙ window-at image e

  rest : (state : ℕ) → SameRest (version_of image) (body_of image e) (body_of (with state) e)
  rest state = kept-rest (only state)

  channel_with : (state name : ℕ) → IsChannel image e name → IsChannel (with state) e name
  channel_with state name r =
      let v : version_in (with state) ≡ version_in image = kept-version (fields_within (only state)) in
      let k : kind_at (with state) e ≡ kind_at image e = sym (kind-at (with state) e) ∙ (rest state).kind ∙ kind-at image e in
      let s : spacecraft_at (with state) e ≡ spacecraft_at image e =
      sym (spacecraft-at (with state) e) ∙ (rest state).spacecraft ∙ spacecraft-at image e in
      let c : channel_at (with state) e ≡ channel_at image e =
      sym (channel-at (with state) e) ∙ (rest state).channel ∙ channel-at image e in
      let m : map_at (with state) e ≡ map_at image e = sym (map_at_lem (with state) e) ∙ (rest state).map ∙ map_at_lem image e in
      let set : is_set (with state) e ≡ is_set image e = ap₂ (λ (a b : ℕ). (shape_of a).sets && eqb b 3) v k in
      record {
        channel = r.channel;
        served =
            record {
              one = λ one. c ∙ r.served.one (sym set ∙ one);
              set = λ is. rw c (r.served.set (sym set ∙ is));
            };
        plain = λ q. rw s (r.plain (sym k ∙ q));
        segmented = λ q. rw (s, m) (r.segmented (sym k ∙ q));
        telemetry = λ q. rw s (r.telemetry (sym k ∙ q));
        aos = λ q. rw s (r.aos (sym k ∙ q));
      }

  -- the key that its body names is active all the while
  place_with : (state j : ℕ) → place (with state) e j ≡ place image e j
  place_with state j =
      ap₂ (λ (v k : ℕ). (shape_of v).front + 4 * k + (shape_of v).body * e + j) (kept-version (fields_within (only state)))
      (kept-count (fields_within (only state)))

  octet_with : (state j : ℕ) → j ≢ 3 → octet (with state) (place image e j) ≡ octet image (place image e j)
  octet_with state j other =
      get_or-set_other image (body_at image e + state_place) (place image e j) state 0
      (λ q. other (omega (arith, q, stands image e 3)))

  -- the ID by its octets
  id_octets : (s : List ℕ) → number_at (place image e 16) 2 s ≡ octet s (place image e 16) * 256 + octet s (place image e 17)
  id_octets s =
      let at : place image e 16 + 1 ≡ place image e 17 = omega arith in
      two-octets s (place image e 16) ∙ ap (λ (p : ℕ). octet s (place image e 16) * 256 + octet s p) at

  id_with : (state : ℕ) → key_id_at (with state) e ≡ key_id_at image e
  id_with state =
      ap (λ (p : ℕ). number_at p 2 (with state)) (place_with state 16)
      ∙ id_octets (with state)
      ∙ ap₂ (λ (a b : ℕ). a * 256 + b) (octet_with state 16 (λ q. omega arith)) (octet_with state 17 (λ q. omega arith))
      ∙ sym (id_octets image)

  shape_with : (state : ℕ) → shape_in (with state) ≡ shape_in image
  shape_with state = ap shape_of (kept-version (fields_within (only state)))

  active_with : (state : ℕ) → NeedsActive (with state) (key_id_at image e)
  active_with state has =
      let k = (rules.keys (rw (shape_with state) at has)).active e listed running in
      key-found (with state) (key_id_at image e) 1
      (kept_in (fields_within (only state)) 1 (key_id_at image e) ∙ in_state_lem image passed (key_id_at image e) 1 k)

  known_with : (state : ℕ) → NeedsKey (with state) (key_id_at image e)
  known_with state has = let k = active_with state has in (k.0, k.1)

  -- one after the other
  with_with : (state next : ℕ) → set (with state) (place (with state) e 3) next ≡ with next
  with_with state next =
      ap (λ (at : ℕ). set (with state) at next) (sym (stands (with state) e 3))
      ∙ ap (λ (at : ℕ). set (with state) (at + state_place) next) (kept-place (fields_within (only state)) e)
      ∙ set-set image (body_at image e + state_place) state next

  -- and back
  with_two : with 2 ≡ image
  with_two =
      ap (λ (at : ℕ). set image at 2) (stands image e 3)
      ∙ ap (set image (place image e 3)) (sym running)
      ∙ set-get_or image (place image e 3) 0

  -- ---- a command that moves the state

  owner_with : (state : ℕ) → owner_at (with state) e ≡ owner_at image e
  owner_with state =
      ap₂ (λ (t : Bool) (p : ℕ). cond t p 1) (ap (λ (x : Shape). x.owners) (shape_with state))
      (ap (octet (with state)) (place_with state 22) ∙ octet_with state 22 (λ q. omega arith))

  seen_with : (state desk : ℕ) → Sees image desk e → Sees (with state) desk e
  seen_with state desk (inl office) = inl office
  seen_with state desk (inr own) = inr (owner_with state ∙ own)

  names_with : (state desk t : ℕ) (c : List ℕ) → Sees image desk e → Speaks image e t c → Names (with state) desk c e
  names_with state desk t c seen s =
      record { entry = listed_with state; spi = spi_with state ∙ sym s.spi; seen = seen_with state desk seen }

  moves : (state next : ℕ) → state ≤ 2 → (desk t : ℕ) (c output : List ℕ) → Sees image desk e → Speaks image e t c → (row_of t).names ≡ true
      → (row_of t).State state → (row_of t).Value (with state) numbers c e → (row_of t).Known (with state) c e → (row_of t).Ready (with state) c e
      → (row_of t).reply (with state) c ≤ 0
      → (stores : List Store) → stored (with state) stores ≡ with next
      → (LeavesAt (with state) numbers desk c output e → Leaves (with state) numbers desk c output stores numbers [])
      → Restored (with next) numbers (commanded (with state) numbers desk c output)
  moves state next small desk t c output seen s named asked allowed known ready none stores made which =
      let names = names_with state desk t c seen s in
      let octets-with = (managed state small).octets in
      let z = answers_zero (with state) numbers desk c output e octets-with (rules_with state small) (agree_with state small) s.form
      (by_name c t s.tag named) names
      (by_state c t _ s.tag (rw (state_with state) asked)) (by_value (with state) numbers c e t s.tag allowed)
      (by-known (with state) c e t s.tag known) (by-ready (with state) c e t s.tag ready)
      (by-room (with state) c t (length output) s.tag (omega arith)) in
      let l = which (command-leaving.named (with state) numbers desk c output e octets-with s.octets thirty_two names z) in
      record { answer = z; images = l.whole ∙ made; lasts = l.lasts }

  one_store : (state next : ℕ) → stored (with state) (writes (place (with state) e 3) next ∷ []) ≡ with next
  unfolding stored
  one_store state next = with_with state next

  starts : (desk : ℕ) (c output : List ℕ) → Sees image desk e → Starts image e c → Restored image numbers (commanded (with 1) numbers desk c output)
  unfolding row_of
  starts desk c output seen s =
      let w = (rules.body e listed).window running in
      rw with_two at
      (moves 1 2 (omega arith) desk 0x1B c output seen s.speaks refl refl
      (record { channels = λ i h. channel_with 1 _ (s.channels i h); window = rw (window_with 1) w })
      (rw (id_with 1) (known_with 1)) (rw (id_with 1) (active_with 1))
      (omega arith) _ (one_store 1 2) (λ l. l.start s.speaks.tag))

  expires : (desk : ℕ) (c output : List ℕ) → Sees image desk e → Speaks image e 0x19 c → Restored (with 0) numbers (commanded (with 1) numbers desk c output)
  unfolding row_of
  expires desk c output seen s = moves 1 0 (omega arith) desk 0x19 c output seen s refl refl tt tt tt (omega arith) _ (one_store 1 0) (λ l. l.expire s.tag)

  -- a rekey stores the ID that is there
  same-octets : (c : List ℕ) → Octets c → number_at 5 2 c ≡ key_id_at image e
      → (octet (with 0) (place image e 16) ≡ octet c 5) × (octet (with 0) (place image e 17) ≡ octet c 6)
  same-octets c spoken is =
      let h : octet c 6 < 256 = spoken 6 in
      let k : octet image (place image e 17) < 256 = octets (place image e 17) in
      let whole : octet c 5 * 256 + octet c 6 ≡ octet image (place image e 16) * 256 + octet image (place image e 17) =
      sym (two-octets c 5) ∙ is ∙ id_octets image
      in (
        octet_with 0 16 (λ q. omega arith) ∙ omega arith,
        octet_with 0 17 (λ q. omega arith) ∙ omega arith,
      )

  rekey-stores : (c : List ℕ) → Rekeys image e c
      → stored (with 0) (renames (with 0) c e ++ (writes (place (with 0) e 3) 1 ∷ [])) ≡ with 1
  unfolding stored
  rekey-stores c s = by_part (shape_in (with 0)).key_part refl
    where
      by_part : (t : Bool) → (shape_in (with 0)).key_part ≡ t
          → stored (with 0)
          (cond t (writes (place (with 0) e 16) (octet c 5) ∷ writes (place (with 0) e 17) (octet c 6) ∷ []) []
          ++ (writes (place (with 0) e 3) 1 ∷ [])) ≡ with 1
      by_part true has =
          let part : (shape_in image).key_part ≡ true = rw (shape_with 0) at has in
          let own : number_at 5 2 c ≡ key_id_at image e = s.key ∙ rw part refl in
          let o = same-octets c s.speaks.octets own in
          let high : set (with 0) (place (with 0) e 16) (octet c 5) ≡ with 0 =
          ap₂ (set (with 0)) (place_with 0 16) (sym o.0) ∙ set-get_or (with 0) (place image e 16) 0
          in
          let low : set (with 0) (place (with 0) e 17) (octet c 6) ≡ with 0 =
          ap₂ (set (with 0)) (place_with 0 17) (sym o.1) ∙ set-get_or (with 0) (place image e 17) 0
          in
          ap (λ (x : List ℕ). set (set x (place (with 0) e 17) (octet c 6)) (place (with 0) e 3) 1) high
          ∙ ap (λ (x : List ℕ). set x (place (with 0) e 3) 1) low
          ∙ with_with 0 1
      by_part false none = with_with 0 1

  rekeys : (desk : ℕ) (c output : List ℕ) → Sees image desk e → Rekeys image e c → Restored (with 1) numbers (commanded (with 0) numbers desk c output)
  unfolding row_of
  rekeys desk c output seen s =
      moves 0 1 (omega arith) desk 0x16 c output seen s.speaks refl refl (named_none, s.number)
      (λ has. rw (named_own has) (known_with 0 has)) (λ has. rw (named_own has) (active_with 0 has))
      (omega arith) _ (rekey-stores c s) (λ l. l.rekey s.speaks.tag)
    where
      part : (shape_in (with 0)).key_part ≡ (shape_in image).key_part
      part = ap (λ (x : Shape). x.key_part) (shape_with 0)

      named_own : (shape_in (with 0)).key_part ≡ true → number_at 5 2 c ≡ key_id_at image e
      named_own has = s.key ∙ ap (λ (t : Bool). cond t (key_id_at image e) 0) (sym part ∙ has)

      named_none : (shape_in (with 0)).key_part ≡ false → number_at 5 2 c ≡ 0
      named_none none = s.key ∙ ap (λ (t : Bool). cond t (key_id_at image e) 0) (sym part ∙ none)

  -- ---- no frame is served meanwhile

  unserved : (direction : ℕ) (said : Said) (frame : List ℕ) → (d : ℕ) × Serves (with 1) direction said (spi_at image e) frame d → ⊥
  unserved direction said frame s =
      let v = valid (with 1) (managed 1 (omega arith)).valid in
      let own : e ≡ s.0 = spi_once (with 1) v e s.0 (listed_with 1) s.1.entry (spi_with 1 ∙ sym s.1.spis) in
      let state : state_at (with 1) e ≡ 2 = ap (state_at (with 1)) own ∙ s.1.state in
      omega (arith, state_with 1)

  no_sending : (said : Said) (frame output : List ℕ) → said.desk ≤ 2 → FrameRules said frame 1 → RightField said frame
      → (secured (with 1) numbers said (spi_at image e) frame output).answer ≡ 4
  unfolding Gives
  no_sending said frame output known f field =
      sym
      ((answering.sending (with 1) numbers said (spi_at image e) frame output (managed 1 (omega arith)).octets).alone (reporting 4 0 0)
      (inr
      (rules_with 1 (omega arith), inr (agree_with 1 (omega arith), inr (known, inr (f, inr (field, inl (unserved 1 said frame, refl))))))))

  no_checking : (said : Said) (frame output : List ℕ) → said.desk ≤ 2 → FrameRules said frame 2 → RightField said frame → spi_on said frame ≡ spi_at image e
      → (checked (with 1) numbers said frame output).answer ≡ 4
  unfolding Gives
  no_checking said frame output known f field spi =
      sym
      ((answering.checking (with 1) numbers said frame output (managed 1 (omega arith)).octets).alone (reporting 4 0 0)
      (inr
      (rules_with 1 (omega arith), inr (agree_with 1 (omega arith), inr (known, inr (f, inr (field, inl (rw spi (unserved 2 said frame), refl))))))))

  stopped_with : Stopped image numbers e (with 1) numbers
  stopped_with =
      record {
        sending = no_sending;
        checking = no_checking;
        started = starts;
        rekeyed = λ desk expire out rekey out2 start out3 seen x r s.
            let a = expires desk expire out seen x in
            let b = rekeys desk rekey out2 seen r in
            rw (a.images, a.lasts, b.images, b.lasts) (starts desk start out3 seen s);
      }

-- ---- what a command that is done says of what it was given

-- a rule that does not give the answer is kept
kept-first : (refusal : Refusal) (kept : Type 0) (behind : Rules) (r : Reported) → r.number ≡ 0 → 0 < (reported (Err refusal)).number
    → Gives (rule refusal kept behind) r → kept × Gives behind r
unfolding Gives
kept-first refusal kept behind r z some (inl x) = absurd (omega (arith, ap (λ (v : Reported). v.number) x.1))
kept-first refusal kept behind r z some (inr x) = x

module _ (image numbers : List ℕ) (desk : ℕ) (c output : List ℕ) (octets : Octets image)
    (z : (commanded image numbers desk c output).answer ≡ 0) where
  abbrev report : Reported
  report = report_of (commanded image numbers desk c output)

  given : ImageRules image × (Agreeing image numbers × ((e : ℕ) → About image desk c e → (row_in c).State (state_at image e)))
  given =
      let g1 = kept-first answer.BadImage _ _ report z (omega arith) (command_answers.commanding image numbers desk c output octets).given in
      let g2 = kept-first answer.BadMarks _ _ report z (omega arith) g1.1 in
      let g19 = kept-first answer.WrongDesk _ _ report z (omega arith) g2.1 in
      let g13 = kept-first answer.BadCommand _ _ report z (omega arith) g19.1 in
      let g14 = kept-first answer.UnknownSpi _ _ report z (omega arith) g13.1 in
      let g15 = kept-first answer.WrongState _ _ report z (omega arith) g14.1 in
      (g1.0, (g2.0, g15.0))

-- a stop finds the entry operational
was_running : (c : List ℕ) (s : ℕ) → octet c 0 ≡ 0x1E → (row_in c).State s → s ≡ 2
unfolding row_of
was_running c s t h = rw t at h

-- ---- a number that is set is read back

module _ (image numbers : List ℕ) (desk reader : ℕ) (c read output room : List ℕ) (e : ℕ) (octets : Octets image) (thirty_two : length numbers ≡ 32)
    (names : Names image desk c e) (sees : Sees image reader e) (spoken : Octets c) (tag : octet c 0 ≡ 0x1A) (s : Speaks image e 0x10 read) (roomy : 17 ≤ length room)
    (z : (commanded image numbers desk c output).answer ≡ 0) where
  abbrev x : Left
  x = commanded image numbers desk c output

  abbrev n : ℕ
  n = number_at 5 12 c

  sets : SetsNumber image numbers desk c output e n
  sets = (command-leaving.named image numbers desk c output e octets spoken thirty_two names z).set_number tag

  rules : ImageRules image
  rules = (given image numbers desk c output octets z).0

  count_kept : count_in x.image ≡ count_in image
  count_kept = sets.whole.elsewhere 1 (inl (omega (arith, (shapes (version_in image)).begins)))

  spi-kept : spi_at x.image e ≡ spi_at image e
  spi-kept =
      number_at-same (2 + 4 * e) 2 x.image image
      (λ i h. sets.whole.elsewhere (2 + 4 * e + i) (inl (omega (arith, names.entry, (shapes (version_in image)).begins))))

  version-kept : version_in x.image ≡ version_in image
  version-kept = sets.whole.elsewhere 0 (inl (omega (arith, (shapes (version_in image)).begins)))

  -- the owner stands behind the mark
  owner-kept : owner_at x.image e ≡ owner_at image e
  owner-kept = by-owners (shape_in image).owners refl
    where
      shape_kept : (shape_in x.image).owners ≡ (shape_in image).owners
      shape_kept = ap (λ (v : ℕ). (shape_of v).owners) version-kept

      at : place x.image e 22 ≡ place image e 22
      at = ap₂ (λ (v k : ℕ). (shape_of v).front + 4 * k + (shape_of v).body * e + 22) version-kept count_kept

      by-owners : (t : Bool) → (shape_in image).owners ≡ t → owner_at x.image e ≡ cond t (octet image (place image e 22)) 1
      by-owners true has =
          let h = (shapes (version_in image)).owner has in
          rw (shape_kept ∙ has) (ap (octet x.image) at ∙ sets.whole.elsewhere (place image e 22) (inr (omega (arith, h.0))))
      by-owners false none = rw (shape_kept ∙ none)

  read_seen : Sees image reader e → Sees x.image reader e
  read_seen (inl office) = inl office
  read_seen (inr own) = inr (owner-kept ∙ own)

  read_names : Names x.image reader read e
  read_names = record { entry = omega (arith, count_kept, names.entry); spi = spi-kept ∙ sym s.spi; seen = read_seen sees }

  after-octets : Octets x.image
  after-octets = octets-after image numbers desk c output z octets spoken thirty_two

  reads : (commanded x.image x.numbers reader read room).answer ≡ 0
  unfolding row_of
  reads =
      let l = command-leaving.always image numbers desk c output octets spoken thirty_two z in
      answers_zero x.image x.numbers reader read room e after-octets (l.valid rules) l.agree s.form (by_name read 0x10 s.tag refl) read_names
      (by_state read 0x10 _ s.tag tt) (by_value x.image x.numbers read e 0x10 s.tag tt)
      (by-known x.image read e 0x10 s.tag tt) (by-ready x.image read e 0x10 s.tag tt)
      (by-room x.image read 0x10 (length room) s.tag roomy)

  last_is : last_at x.numbers e ≡ n
  last_is =
      ap (λ (l : List ℕ). last_at l e) sets.lasts
      ∙ get_or-set_same numbers e n 0 (omega (arith, thirty_two, rules.count, names.entry))

  read_back_lem : handed (commanded x.image x.numbers reader read room) ≡ 0x90 ∷ 0 ∷ 14 ∷ (bytes 2 (spi_at image e) ++ bytes 12 n)
  read_back_lem =
      let two = ap length sets.lasts ∙ length-set numbers e n ∙ thirty_two in
      let l = (command-leaving.named x.image x.numbers reader read room e after-octets s.octets two read_names reads).read_number s.tag in
      let reply : List ℕ = 0x90 ∷ 0 ∷ 14 ∷ (bytes 2 (spi_at x.image e) ++ bytes 12 (last_at x.numbers e)) in
      let same : reply ≡ 0x90 ∷ 0 ∷ 14 ∷ (bytes 2 (spi_at image e) ++ bytes 12 n) = rw (spi-kept, last_is) refl in
      rw l.outputs (take_at reply (drop (length reply) room) _ (sym l.size) ∙ same)

-- ---- all of them

pub management : Management
unfolding stored
management =
    record {
      stopped = λ image numbers desk stop output e octets thirty_two names spoken tag z.
          let l = (command-leaving.named image numbers desk stop output e octets spoken thirty_two names z).stop tag in
          let g = given image numbers desk stop output octets z in
          let running = was_running stop (state_at image e) tag (g.1.1 e (λ so. names)) in
          let whole = l.whole ∙ ap (λ (at : ℕ). set image at 1) (sym (stands image e 3)) in
          rw (whole, l.lasts)
          (stopped_with image numbers e octets thirty_two g.0 g.1.0 names.entry running);
      read_back = λ image numbers desk reader set read output room e octets thirty_two names sees spoken tag s roomy z. (
        reads image numbers desk reader set read output room e octets thirty_two names sees spoken tag s roomy z,
        read_back_lem image numbers desk reader set read output room e octets thirty_two names sees spoken tag s roomy z,
      );
    }
