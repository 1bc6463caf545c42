-- What one step of a run does to the number of an entry, and what it shows: nothing; a load, which raises the number, by at most 64 where
-- the entry sends; a frame sent with the next number; or data released with a higher one.
-- Assumes nothing.
use Prim.Native.Nat.{ℕ, ◌+◌, ◌-◌, ◌*◌, ◌/◌, ◌≤◌, ◌<◌, min}
use mathlib.Core.Path.{◌≡◌, refl, sym, ap, ◌∙◌}
use mathlib.Core.Bool.{true, cond, ◌&&◌}
use mathlib.Core.List.{List, [], ◌∷◌}
use native.Mathlib.Decide.{ℕ_discrete}
use native.Mathlib.Omega.{arith}
use borrow.Author.Tests.{eq-eqb, ne_eqb}
use lib.Dec.{eqb}
use lib.ListN.{length, set, take}
use lib.Seq.{get_or-set_same, get_or-set_other}
use Rattle.image.specs.Image.{valid_image, mark_in}
use Rattle.numbers.specs.Stores.{after_stores}
use Rattle.marks.specs.declared.plans.Store.{Store}
use Rattle.marks.specs.Stores.{stored}
use Rattle.numbers.proofs.AfterStores.{Raised}
use Rattle.numbers.proofs.LoadedNumbers.{agreed}
use Rattle.image.proofs.ValidImages.{valid}
use Rattle.link.specs.Calls.{Left, handed, left, cut, loaded, securing_entry, securing_reply, secured, secured_cut}
use Rattle.link.specs.Calls.{comparison, checking_reply, checking_entry, checked_as, checked, checked_cut_as, checked_cut}
use Rattle.judging.specs.Replies.{Reply}
use Rattle.judging.specs.Said.{Said}
use Rattle.link.proofs.Leaving.{left-answer, left-done, left-refused, cut-done, cut-refused}
use Rattle.promises.specs.Frames.{spi_on, number_on}
use Rattle.promises.specs.Images.{shape_in, count_in, spi_at, service_at, direction_at, last_at}
use Rattle.promises.specs.Runs.{Step, load, send, check, send_cut, check_cut, State, kept, after, Shown, restart, sent, released, shows}
use Rattle.promises.proofs.Keeps.{Good, Inv, loaded_last}
use Rattle.promises.proofs.Released as releasing
use Rattle.promises.proofs.Sent as sending
use Rattle.promises.proofs.Stored.{raised_by}
use Rattle.promises.proofs.Used.{Used, send-number, send_used, check_used}

pub data Effect (e : ℕ) (x y : State) (shown : List Shown) : Type 0 where
  quiet : shown ≡ [] → last_at y.numbers e ≡ last_at x.numbers e → Effect e x y shown
  loads : shown ≡ restart ∷ []
      → (valid_image x.image ≡ true → last_at x.numbers e ≤ last_at y.numbers e)
      → (valid_image x.image ≡ true → direction_at x.image e ≡ 1 → last_at y.numbers e ≤ last_at x.numbers e + 64)
      → Effect e x y shown
  sends : valid_image x.image ≡ true → direction_at x.image e ≡ 1 → shown ≡ sent (last_at x.numbers e + 1) ∷ []
      → last_at y.numbers e ≡ last_at x.numbers e + 1 → Effect e x y shown
  frees : (n : ℕ) → valid_image x.image ≡ true → direction_at x.image e ≡ 2 → shown ≡ released n ∷ []
      → last_at x.numbers e < n → last_at y.numbers e ≡ n → Effect e x y shown

module _ (e : ℕ) (x : State) (inv : Inv x) (below : e < count_in x.image) where
  abbrev s : List ℕ
  s = x.image

  abbrev last : List ℕ
  last = x.numbers

  reloads : (any : List ℕ) → Effect e x (kept (loaded s any)) (restart ∷ [])
  reloads any =
      loads refl
      (λ passed. omega (arith, loaded_last s any passed e below, agreed s last (inv.good passed).agree e below))
      (λ passed one. omega (arith, loaded_last s any passed e below, agreed s last (inv.good passed).agree e below))

  -- ---- a call that answers 0, at entry d

  module _ (direction : ℕ) (said : Said) (spi : ℕ) (frame : List ℕ) (d room : ℕ) (q : Reply) (u : Used s last direction said spi frame d room q) where
    abbrev stopped : ℕ → List ℕ
    stopped j = after_stores s d q.number j

    good : Good s last
    good = inv.good u.valid

    listed : d < length last
    listed = omega (arith, good.thirty_two, (valid s u.valid).laid.count, u.serves.entry)

    -- the entry's own, and another
    own_number : d ≡ e → last_at (set last q.entry q.number) e ≡ q.number
    own_number own =
        rw u.entry (ap (last_at (set last d q.number)) (sym own) ∙ get_or-set_same last d q.number 0 listed)

    other-number : (spi ≡ spi_at s e → ⊥) → last_at (set last q.entry q.number) e ≡ last_at last e
    other-number other =
        rw u.entry (get_or-set_other last d e q.number 0 (λ own. other (sym u.serves.spis ∙ ap (spi_at s) (sym own))))

    cut_short : (j : ℕ) → stored s (take j q.stores) ≡ stopped j
    unfolding after_stores
    cut_short j = ap (λ (l : List Store). stored s (take j l)) u.plan

    -- cut and loaded: no mark falls, and that of an entry that sends rises only where its next number needs it
    r : (j : ℕ) → Raised s d (mark_in s d + min j (q.number / 64 - mark_in s d)) (stopped j)
    r j = raised_by s last inv.octets direction said spi frame d room q u j

    rising : (j : ℕ) → mark_in s e ≤ mark_in (stopped j) e
    rising j = by-entry (ℕ_discrete e d)
      where
        by-entry : Dec (e ≡ d) → mark_in s e ≤ mark_in (stopped j) e
        by-entry (yes own) = rw own (omega (arith, (r j).mark))
        by-entry (no other) = omega (arith, (r j).other_mark e other)

    near : (direction ≡ 1 → q.number ≡ last_at last d + 1) → (j : ℕ) → direction_at s e ≡ 1 → 64 * mark_in (stopped j) e ≤ last_at last e + 1
    near next j one = by-entry (ℕ_discrete e d)
      where
        by-entry : Dec (e ≡ d) → 64 * mark_in (stopped j) e ≤ last_at last e + 1
        by-entry (yes own) =
            let old = agreed s last good.agree d u.serves.entry in
            let n = next (sym u.serves.directions ∙ ap (direction_at s) (sym own) ∙ one) in
            rw own (omega (arith, (r j).mark))
        by-entry (no other) = omega (arith, (r j).other_mark e other, agreed s last good.agree e below)

    stops : (j : ℕ) (any : List ℕ) → (direction ≡ 1 → q.number ≡ last_at last d + 1)
        → Effect e x (kept (loaded (stopped j) any)) (restart ∷ [])
    stops j any next =
        let new = loaded_last (stopped j) any (r j).valid e (rw (r j).count below) in
        loads refl
        (λ passed. omega (arith, new, rising j, agreed s last good.agree e below))
        (λ passed one. omega (arith, new, near next j one))

  -- ---- a call, by its answer and its SPI

  calls : (direction : ℕ) (said : Said) (spi : ℕ) (frame output : List ℕ) (d : ℕ) (q : Reply) (y : Left) (shown : List Shown)
      → y ≡ left q s last output
      → (q.answer ≡ 0 → Used s last direction said spi frame d (length output) q)
      → (spi ≡ spi_at s e → y.answer ≡ 0 → Effect e x (kept y) shown)
      → Effect e x (kept y) (cond (eqb y.answer 0 && eqb spi (spi_at s e)) shown [])
  calls direction said spi frame output d q y shown is-left used here =
      by_answer (ℕ_discrete y.answer 0) (ℕ_discrete spi (spi_at s e))
    where
      answer : y.answer ≡ q.answer
      answer = ap (λ (l : Left). l.answer) is-left ∙ left-answer q s last output

      by_answer : Dec (y.answer ≡ 0) → Dec (spi ≡ spi_at s e)
          → Effect e x (kept y) (cond (eqb y.answer 0 && eqb spi (spi_at s e)) shown [])
      by_answer (yes z) (yes own) = rw (eq-eqb y.answer 0 z, eq-eqb spi (spi_at s e) own) (here own z)
      by_answer (yes z) (no other) =
          let done-so = sym answer ∙ z in
          rw (eq-eqb y.answer 0 z, ne_eqb spi (spi_at s e) other, is-left ∙ left-done q s last output done-so)
          (quiet refl (other-number direction said spi frame d (length output) q (used done-so) other))
      by_answer (no z) own =
          rw (ne_eqb y.answer 0 z, is-left ∙ left-refused q s last output (λ done-so. z (answer ∙ done-so))) (quiet refl refl)

  cuts : (direction : ℕ) (said : Said) (spi : ℕ) (frame output : List ℕ) (d : ℕ) (q : Reply) (j : ℕ) (any : List ℕ)
      → (q.answer ≡ 0 → Used s last direction said spi frame d (length output) q)
      → (q.answer ≡ 0 → direction ≡ 1 → q.number ≡ last_at last d + 1)
      → Effect e x (kept (loaded (cut q s j) any)) (restart ∷ [])
  cuts direction said spi frame output d q j any used next = by_answer (ℕ_discrete q.answer 0)
    where
      by_answer : Dec (q.answer ≡ 0) → Effect e x (kept (loaded (cut q s j) any)) (restart ∷ [])
      by_answer (yes z) =
          rw (cut-done q s j z ∙ cut_short direction said spi frame d (length output) q (used z) j)
          (stops direction said spi frame d (length output) q (used z) j any (next z))
      by_answer (no z) = rw (cut-refused q s j z) (reloads any)

  -- ---- under the entry's own SPI

  sent_own : (said : Said) (spi : ℕ) (frame output : List ℕ) → let y = secured s last said spi frame output in
      spi ≡ spi_at s e → y.answer ≡ 0 → Effect e x (kept y) (sent (number_on (shape_in s) (service_at s e) said (handed y)) ∷ [])
  sent_own said spi frame output own done-so =
      let u = sending.used s last said spi frame output e below (sym own) done-so in
      let q = sending.reply s last said spi frame output e below (sym own) done-so in
      rw (
        (sending.made s last said spi frame output e below (sym own) done-so).number,
        sending.whole s last said spi frame output e below (sym own) done-so,
      )
      (sends u.valid u.serves.directions refl
      (own_number 1 said spi frame e (length output) q u refl ∙ sending.number s last said spi frame output e below (sym own) done-so))

  released_own : (said : Said) (frame output : List ℕ) → let y = checked s last said frame output in
      spi_on said frame ≡ spi_at s e → y.answer ≡ 0 → Effect e x (kept y) (released (number_on (shape_in s) (service_at s e) said frame) ∷ [])
  released_own said frame output own done-so =
      let u = releasing.used s last said frame output e below (sym own) done-so in
      let q = releasing.reply s last said frame output e below (sym own) done-so in
      let n = releasing.number s last said frame output e below (sym own) done-so in
      rw (releasing.whole s last said frame output e below (sym own) done-so)
      (frees (number_on (shape_in s) (service_at s e) said frame) u.valid u.serves.directions refl (rw (← n) u.above)
      (own_number 2 said (spi_on said frame) frame e (length output) q u refl ∙ n))

-- ---- every step

pub effect : (e : ℕ) (x : State) (v : Step) → Inv x → e < count_in x.image → Effect e x (after x v) (shows e x v)
unfolding after shows secured secured_cut checked checked_as checked_cut checked_cut_as
effect e x (load any) inv below = reloads e x inv below any
effect e x (send said spi frame output) inv below =
    calls e x inv below 1 said spi frame output (securing_entry x.image said spi frame)
    (securing_reply x.image x.numbers said spi frame (length output)) _ _ refl (send_used x.image x.numbers said spi frame output)
    (sent_own e x inv below said spi frame output)
effect e x (check said frame output) inv below =
    let right = comparison x.image x.numbers said frame in
    calls e x inv below 2 said (spi_on said frame) frame output (checking_entry x.image said frame)
    (checking_reply right x.image x.numbers said frame (length output)) _ _ refl (check_used right x.image x.numbers said frame output)
    (released_own e x inv below said frame output)
effect e x (send_cut said spi frame output j any) inv below =
    cuts e x inv below 1 said spi frame output (securing_entry x.image said spi frame)
    (securing_reply x.image x.numbers said spi frame (length output)) j any (send_used x.image x.numbers said spi frame output)
    (λ z one. send-number x.image x.numbers said spi frame output z)
effect e x (check_cut said frame output j any) inv below =
    let right = comparison x.image x.numbers said frame in
    cuts e x inv below 2 said (spi_on said frame) frame output (checking_entry x.image said frame)
    (checking_reply right x.image x.numbers said frame (length output)) j any (check_used right x.image x.numbers said frame output)
    (λ z one. absurd (omega arith))
