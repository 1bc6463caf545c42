-- What one step of a run does to the number of an entry, and what it shows: what a step without commands does; or a set number, whole or
-- cut, which lets the number fall in no case.
-- Assumes nothing.
use Prim.Native.Nat.{ℕ, ◌+◌, ◌*◌, ◌≤◌, ◌<◌}
use mathlib.Core.Path.{◌≡◌, refl, sym, ap, ◌∙◌}
use mathlib.Core.Logic.{◌≢◌}
use mathlib.Core.Bool.{Bool, true, false, cond, ◌&&◌}
use mathlib.Core.List.{List, [], ◌∷◌}
use native.Mathlib.Decide.{ℕ_discrete}
use native.Mathlib.Omega.{arith}
use borrow.Author.Tests.{eq-eqb, ne_eqb}
use lib.Dec.{eqb}
use lib.ListN.{length, set, take}
use lib.Seq.{take-nil, get_or-set_same, get_or-set_other}
use Rattle.std.specs.Prelude.{Some}
use Rattle.octets.specs.Lists.{octet, Octets}
use Rattle.octets.specs.Numbers.{number_at}
use Rattle.image.specs.Image.{valid_image, mark_in}
use Rattle.image.proofs.ValidImages.{valid}
use Rattle.marks.specs.Stores.{stored}
use Rattle.marks.specs.declared.plans.Store.{Store}
use Rattle.numbers.proofs.LoadedNumbers.{agreed}
use Rattle.association.proofs.Finding.{has_spi_lem}
use Rattle.judging.specs.Replies.{Reply}
use Rattle.link.specs.Calls.{done, left, cut, loaded}
use Rattle.link.proofs.Leaving.{left-done, left-refused, cut-done, cut-refused}
use Rattle.command_form.specs.Form.{value_of, spi_named}
use Rattle.procedures.specs.Procedures.{key_state_in, procedure_is}
use Rattle.procedures.specs.declared.procedure.Procedure as code
use Rattle.procedures.specs.Procedures.{called}
use Rattle.procedures.proofs.Calling.{called-tag}
use Rattle.commands.specs.Commanding.{command_reply, commanded, commanded_cut}
use Rattle.commands.proofs.Doing.{stores_of, number_for, does}
use Rattle.commands.proofs.Done.{Where, at, nowhere, turning}
use Rattle.commands.proofs.Managed.{first_of_one}
use Rattle.commands.proofs.Turning.{marks_stay, turned_valid}
use Rattle.promises.specs.Images.{count_in, spi_at, direction_at, last_at}
use Rattle.promises.specs.Runs.{State, kept, restart, sent, released}
use Rattle.promises.specs.Runs as frames
use Rattle.promises.proofs.Effects as frame
use Rattle.promises.proofs.Keeps.{Good, Inv, loaded_last}
use Rattle.command_promises.specs.Runs.{Step, call, command, command_cut, after, Shown, saw, numbered, told, sets_number, shows}
use Rattle.command_promises.proofs.Keeps.{Spoken, valid_so, where_done}
use Rattle.command_promises.proofs.NamedKeys.{turned_image, turned_count}

pub data Effect (e : ℕ) (x y : State) (shown : List Shown) : Type 0 where
  quiet : shown ≡ [] → last_at y.numbers e ≡ last_at x.numbers e → Effect e x y shown
  loads : shown ≡ saw restart ∷ []
      → (valid_image x.image ≡ true → last_at x.numbers e ≤ last_at y.numbers e)
      → (valid_image x.image ≡ true → direction_at x.image e ≡ 1 → last_at y.numbers e ≤ last_at x.numbers e + 64)
      → Effect e x y shown
  sends : valid_image x.image ≡ true → direction_at x.image e ≡ 1 → shown ≡ saw (sent (last_at x.numbers e + 1)) ∷ []
      → last_at y.numbers e ≡ last_at x.numbers e + 1 → Effect e x y shown
  frees : (n : ℕ) → valid_image x.image ≡ true → direction_at x.image e ≡ 2 → shown ≡ saw (released n) ∷ []
      → last_at x.numbers e < n → last_at y.numbers e ≡ n → Effect e x y shown
  raises : shown ≡ numbered ∷ [] → last_at x.numbers e ≤ last_at y.numbers e → Effect e x y shown
  raises_cut : shown ≡ numbered ∷ saw restart ∷ [] → (valid_image x.image ≡ true → last_at x.numbers e ≤ last_at y.numbers e)
      → Effect e x y shown

-- ---- a step without commands

from_frames : (e : ℕ) (x y : State) (shown : List frames.Shown) → frame.Effect e x y shown → Effect e x y (told shown)
unfolding told
from_frames e x y shown (frame.quiet is same) = quiet (rw is refl) same
from_frames e x y shown (frame.loads is low high) = loads (rw is refl) low high
from_frames e x y shown (frame.sends passed one is new) = sends passed one (rw is refl) new
from_frames e x y shown (frame.frees n passed two is up new) = frees n passed two (rw is refl) up new

module _ (e : ℕ) (x : State) (inv : Inv x) (below : e < count_in x.image) (desk : ℕ) (c output : List ℕ) (spoken : Octets c) where
  abbrev s : List ℕ
  s = x.image

  abbrev last : List ℕ
  last = x.numbers

  abbrev q : Reply
  q = command_reply s last desk c (length output)

  abbrev after-all : List ℕ
  after-all = set last q.entry q.number

  -- whether it is a set number for the entry's SPI
  abbrev ours : Bool
  ours = eqb (octet c 0) 0x1A && eqb (number_at 3 2 c) (spi_at s e)

  reloads : (any : List ℕ) → Effect e x (kept (loaded s any)) (saw restart ∷ [])
  reloads any =
      loads refl
      (λ passed. omega (arith, loaded_last s any passed e below, agreed s last (inv.good passed).agree e below))
      (λ passed one. omega (arith, loaded_last s any passed e below, agreed s last (inv.good passed).agree e below))

  module _ (z : q.answer ≡ 0) where
    passed : valid_image s ≡ true
    passed = valid_so x inv desk c output spoken z

    good : Good s last
    good = inv.good passed

    -- it is no set number for this entry, but for this entry: so it is no set number
    other_tag : ours ≡ false → (p : code.Procedure) → called c ≡ Some p → number_at 3 2 c ≡ spi_at s e → (procedure_is p).tag ≢ 0x1A
    other_tag not_ours p is own tag =
        let here : octet c 0 ≡ 0x1A = called-tag c p is ∙ tag in
        let yes-ours : ours ≡ true = rw (eq-eqb (octet c 0) 0x1A here, eq-eqb (number_at 3 2 c) (spi_at s e) own) refl in
        let n : ◌≡◌ {A = ℕ} 0 1 = cc in
        omega arith

    -- ---- the number once it is done

    number_up : Where s last desk c q → last_at last e ≤ last_at after-all e
    number_up (at p i calls named listed has ready is) = rw is (by-entry (ℕ_discrete e i))
      where
        by-entry : Dec (e ≡ i) → last_at last e ≤ last_at (set last i (number_for (procedure_is p) last i (value_of c))) e
        by-entry (yes own) =
            let inside : i < length last = omega (arith, good.thirty_two, (valid s passed).laid.count, listed) in
            rw own
            (omega (arith, (does p s last i (value_of c) named ready).above, get_or-set_same last i (number_for (procedure_is p) last i (value_of c)) 0 inside))
        by-entry (no other) = omega (arith, get_or-set_other last i e (number_for (procedure_is p) last i (value_of c)) 0 other)
    number_up (nowhere none same) = rw same (omega arith)
    number_up (turning id state one turns same) = rw same (omega arith)

    number_same : ours ≡ false → Where s last desk c q → last_at after-all e ≡ last_at last e
    number_same not_ours (at p i calls named listed has ready is) = rw is (by-entry (ℕ_discrete e i))
      where
        by-entry : Dec (e ≡ i) → last_at (set last i (number_for (procedure_is p) last i (value_of c))) e ≡ last_at last e
        by-entry (yes own) =
            let inside : i < length last = omega (arith, good.thirty_two, (valid s passed).laid.count, listed) in
            let same = (does p s last i (value_of c) named ready).same (other_tag not_ours p calls (sym (has_spi_lem s desk (spi_named (value_of c)) i has).0 ∙ ap (spi_at s) (sym own))) in
            rw own (get_or-set_same last i (number_for (procedure_is p) last i (value_of c)) 0 inside ∙ same)
        by-entry (no other) = get_or-set_other last i e (number_for (procedure_is p) last i (value_of c)) 0 other
    number_same not_ours (nowhere none same) = rw same refl
    number_same not_ours (turning id state one turns same) = rw same refl

    -- ---- the mark after the first j stores

    abbrev stopped : ℕ → List ℕ
    stopped j = stored s (take j q.stores)

    mark_up : (j : ℕ) → Where s last desk c q → mark_in s e ≤ mark_in (stopped j) e
    unfolding stored
    mark_up j (at p i calls named listed has ready is) = rw is (by-entry (ℕ_discrete e i))
      where
        by-entry : Dec (e ≡ i) → mark_in s e ≤ mark_in (stored s (take j (stores_of (procedure_is p) s last i (value_of c)))) e
        by-entry (yes own) = rw own ((does p s last i (value_of c) named ready).after j).rises
        by-entry (no other) = omega (arith, ((does p s last i (value_of c) named ready).after j).other_mark e other)
    mark_up j (nowhere none same) = rw (none, take-nil {A = Store} j) (omega arith)
    mark_up j (turning id state one turns same) =
        rw one
        (first_of_one (λ (t : List ℕ). mark_in s e ≤ mark_in t e) s (key_state_in s id state) (omega arith)
        (omega (arith, marks_stay s id state turns e below)) j)

    mark-same : (j : ℕ) → ours ≡ false → Where s last desk c q → mark_in (stopped j) e ≡ mark_in s e
    unfolding stored
    mark-same j not_ours (at p i calls named listed has ready is) = rw is (by-entry (ℕ_discrete e i))
      where
        by-entry : Dec (e ≡ i) → mark_in (stored s (take j (stores_of (procedure_is p) s last i (value_of c)))) e ≡ mark_in s e
        by-entry (yes own) = rw own ((does p s last i (value_of c) named ready).stands (other_tag not_ours p calls (sym (has_spi_lem s desk (spi_named (value_of c)) i has).0 ∙ ap (spi_at s) (sym own))) j)
        by-entry (no other) = ((does p s last i (value_of c) named ready).after j).other_mark e other
    mark-same j not_ours (nowhere none same) = rw (none, take-nil {A = Store} j) refl
    mark-same j not_ours (turning id state one turns same) =
        rw one
        (first_of_one (λ (t : List ℕ). mark_in t e ≡ mark_in s e) s (key_state_in s id state) refl (marks_stay s id state turns e below) j)

    reloaded : (j : ℕ) (any : List ℕ) → Where s last desk c q
        → last_at (loaded (stopped j) any).numbers e ≡ 64 * mark_in (stopped j) e + 63
    unfolding stored
    reloaded j any (at p i calls named listed has ready is) =
        let m = (does p s last i (value_of c) named ready).after j in
        rw is (loaded_last (stored s (take j (stores_of (procedure_is p) s last i (value_of c)))) any m.valid e (rw m.count below))
    reloaded j any (nowhere none same) = rw (none, take-nil {A = Store} j) (loaded_last s any passed e below)
    reloaded j any (turning id state one turns same) =
        rw one
        (first_of_one (λ (t : List ℕ). last_at (loaded t any).numbers e ≡ 64 * mark_in t e + 63) s (key_state_in s id state)
        (loaded_last s any passed e below)
        (loaded_last (turned_image s id state) any (turned_valid s id state turns) e (rw (turned_count s id state) below)) j)

  -- ---- a command, whole and cut

  command_effect : Effect e x (kept (commanded s last desk c output)) (cond (sets_number e x desk c output) (numbered ∷ []) [])
  unfolding commanded
  command_effect = by_answer (ℕ_discrete q.answer 0)
    where
      by_ours : (z : q.answer ≡ 0) (t : Bool) → ours ≡ t → Effect e x (kept (done q s last output)) (cond t (numbered ∷ []) [])
      by_ours z true t = raises refl (number_up z (where_done x inv desk c output spoken z))
      by_ours z false t = quiet refl (number_same z t (where_done x inv desk c output spoken z))

      by_answer : Dec (q.answer ≡ 0)
          → Effect e x (kept (left q s last output)) (cond (eqb (left q s last output).answer 0 && ours) (numbered ∷ []) [])
      by_answer (yes z) = rw (left-done q s last output z) (by_ours z ours refl)
      by_answer (no z) = rw (left-refused q s last output z, ne_eqb q.answer 0 z) (quiet refl refl)

  cut_effect : (j : ℕ) (any : List ℕ)
      → Effect e x (kept (loaded (commanded_cut s last desk c output j) any))
      (cond (sets_number e x desk c output) (numbered ∷ saw restart ∷ []) (saw restart ∷ []))
  unfolding commanded commanded_cut
  cut_effect j any = by_answer (ℕ_discrete q.answer 0)
    where
      by_ours : (z : q.answer ≡ 0) (t : Bool) → ours ≡ t
          → Effect e x (kept (loaded (stopped z j) any)) (cond t (numbered ∷ saw restart ∷ []) (saw restart ∷ []))
      by_ours z true t =
          let w = where_done x inv desk c output spoken z in
          let up = mark_up z j w in
          raises_cut refl (λ passed. omega (arith, reloaded z j any w, agreed s last (good z).agree e below))
      by_ours z false t =
          let w = where_done x inv desk c output spoken z in
          let same = mark-same z j t w in
          loads refl (λ passed. omega (arith, reloaded z j any w, agreed s last (good z).agree e below))
          (λ passed one. omega (arith, reloaded z j any w, agreed s last (good z).agree e below))

      by_answer : Dec (q.answer ≡ 0)
          → Effect e x (kept (loaded (cut q s j) any))
          (cond (eqb (left q s last output).answer 0 && ours) (numbered ∷ saw restart ∷ []) (saw restart ∷ []))
      by_answer (yes z) = rw (cut-done q s j z, left-done q s last output z) (by_ours z ours refl)
      by_answer (no z) = rw (cut-refused q s j z, left-refused q s last output z, ne_eqb q.answer 0 z) (reloads any)

-- ---- every step

pub effect : (e : ℕ) (x : State) (v : Step) → Spoken v → Inv x → e < count_in x.image → Effect e x (after x v) (shows e x v)
unfolding after shows Spoken
effect e x (call v) spoken inv below =
    from_frames e x (frames.after x v) (frames.shows e x v) (frame.effect e x v inv below)
effect e x (command desk c output) spoken inv below = command_effect e x inv below desk c output spoken
effect e x (command_cut desk c output j any) spoken inv below = cut_effect e x inv below desk c output spoken j any
