-- Why the cells of a mark are rewritten so seldom. A sending raises the mark only where its entry's last number leaves 63 when divided by 64,
-- so 64 for each store, and what the last number leaves, grow by at most 1 for each frame handed out and by 64 for each load.
-- Assumes nothing.
use Prim.Native.Nat.{ℕ, zero, suc, ◌+◌, ◌-◌, ◌*◌, ◌/◌, ◌%◌, ◌≤◌, ◌<◌}
use mathlib.Core.Path.{◌≡◌, refl, sym, ap, ◌∙◌}
use mathlib.Core.Logic.{◌⊎◌, inl, inr}
use mathlib.Core.Bool.{Bool, true, false, cond, ◌&&◌, true≢false}
use mathlib.Core.List.{List, [], ◌∷◌, ◌++◌}
use native.Mathlib.Decide.{ℕ_discrete}
use native.Mathlib.Omega.{arith}
use borrow.Author.Tests.{eq-eqb, ne_eqb}
use lib.Dec.{eqb}
use lib.ListN.{length, take, length-take}
use Rattle.octets.specs.Lists.{Octets}
use Rattle.image.specs.Image.{valid_image, mark_in}
use Rattle.marks.specs.declared.plans.Store.{Store}
use Rattle.marks.specs.Stores.{stored}
use Rattle.numbers.proofs.LoadedNumbers.{agreed}
use Rattle.link.specs.Calls.{refused, done, left, cut, loaded, securing_entry, securing_reply, secured, secured_cut}
use Rattle.link.specs.Calls.{comparison, checking_reply, checking_entry, checked_as, checked, checked_cut_as, checked_cut}
use Rattle.judging.specs.Replies.{Reply}
use Rattle.judging.specs.Said.{Said}
use Rattle.link.proofs.Leaving.{left-answer}
use Rattle.promises.specs.Frames.{spi_on}
use Rattle.promises.specs.Images.{count_in, spi_at, direction_at, last_at}
use Rattle.promises.specs.Runs.{Step, load, send, check, send_cut, check_cut, State, kept, after, ran}
use Rattle.promises.specs.Runs.{Shown, restart, sent, released, shows, trace, sent_in}
use Rattle.promises.specs.Wear.{made_by, sending_makes, check_makes, makes, makes_under, load_accepted, loads_by, stores_during, loads_during, Counted, Worn, Wear}
use Rattle.promises.proofs.Effects.{Effect, quiet, loads, sends, frees, effect}
use Rattle.promises.proofs.Keeps.{Inv, Keeps, loaded-image, loaded_last, load_inv, keeps}
use Rattle.promises.proofs.Runs.{ran-keeps}
use Rattle.promises.proofs.Unmarked.{count_same, direction-same}
use Rattle.promises.proofs.Used.{Used, only_entry, planned, send-number, send_used, check_used}

-- ---- what is counted is what is stored and reported

module _ (q : Reply) (image last output : List ℕ) where
  left-makes : (left q image last output).image ≡ stored image (made_by q)
  unfolding stored
  left-makes = by_test (eqb q.answer 0)
    where
      by_test : (t : Bool) → (cond t (done q image last output) (refused q.answer image last output)).image ≡ stored image (cond t q.stores [])
      by_test true = refl
      by_test false = refl

  cut-makes : (j : ℕ) → cut q image j ≡ stored image (take j (made_by q))
  unfolding stored
  cut-makes j = by_test (eqb q.answer 0)
    where
      by_test : (t : Bool) → cond t (stored image (take j q.stores)) image ≡ stored image (take j (cond t q.stores []))
      by_test true = refl
      by_test false = by_count j
        where
          by_count : (i : ℕ) → image ≡ stored image (take i [])
          by_count zero = refl
          by_count (suc i) = refl

  left-reports : (left q image last output).stores ≡ length (made_by q)
  left-reports = by_test (eqb q.answer 0)
    where
      by_test : (t : Bool) → (cond t (done q image last output) (refused q.answer image last output)).stores ≡ length (cond t q.stores [])
      by_test true = refl
      by_test false = refl

counted : Counted
unfolding after makes stored secured secured_cut checked checked_as checked_cut checked_cut_as
counted =
    record {
      images = images;
      sending = λ x said spi frame output. left-reports (securing_reply x.image x.numbers said spi frame (length output)) x.image x.numbers output;
      checking = λ x said frame output.
          left-reports (checking_reply (comparison x.image x.numbers said frame) x.image x.numbers said frame (length output)) x.image x.numbers output;
    }
  where
    images : (x : State) (v : Step) → (after x v).image ≡ stored x.image (makes x v)
    images x (load any) = loaded-image x.image any
    images x (send said spi frame output) =
        left-makes (securing_reply x.image x.numbers said spi frame (length output)) x.image x.numbers output
    images x (check said frame output) =
        left-makes (checking_reply (comparison x.image x.numbers said frame) x.image x.numbers said frame (length output)) x.image
        x.numbers output
    images x (send_cut said spi frame output j any) =
        loaded-image (secured_cut x.image x.numbers said spi frame output j) any
        ∙ cut-makes (securing_reply x.image x.numbers said spi frame (length output)) x.image x.numbers output j
    images x (check_cut said frame output j any) =
        loaded-image (checked_cut x.image x.numbers said frame output j) any
        ∙ cut-makes (checking_reply (comparison x.image x.numbers said frame) x.image x.numbers said frame (length output)) x.image
        x.numbers output j

-- ---- one step

-- a cut makes no more
cut_less : (t : Bool) (j : ℕ) (l : List Store) → length (cond t (take j l) []) ≤ length (cond t l [])
cut_less true j l = omega (arith, length-take j l)
cut_less false j l = omega arith

load_accepted_lem : (image any : List ℕ) → valid_image image ≡ true → load_accepted (loaded image any) ≡ 1
unfolding loaded
load_accepted_lem image any passed = rw passed refl

module _ (e : ℕ) (x : State) (inv : Inv x) (below : e < count_in x.image) (one : direction_at x.image e ≡ 1) where
  abbrev s : List ℕ
  s = x.image

  abbrev last : List ℕ
  last = x.numbers

  abbrev n : ℕ
  n = last_at last e

  -- under the entry's SPI a call stores nothing, or one octet where the next number is a multiple of 64
  call_cost : (direction : ℕ) (said : Said) (spi : ℕ) (frame : List ℕ) (d room : ℕ) (q : Reply)
      → (q.answer ≡ 0 → Used s last direction said spi frame d room q)
      → (q.answer ≡ 0 → direction ≡ 1 → q.number ≡ last_at last d + 1)
      → length (cond (eqb spi (spi_at s e)) (made_by q) []) + n / 64 ≤ (n + 1) / 64
  call_cost direction said spi frame d room q used next = by_answer (ℕ_discrete q.answer 0) (ℕ_discrete spi (spi_at s e))
    where
      by_answer : Dec (q.answer ≡ 0) → Dec (spi ≡ spi_at s e) → length (cond (eqb spi (spi_at s e)) (made_by q) []) + n / 64 ≤ (n + 1) / 64
      by_answer (yes z) (yes own) =
          let u = used z in
          let same : d ≡ e = only_entry s last direction said spi frame d room q u e below (sym own) in
          let raised : q.number ≡ last_at last d + 1 = next z (sym u.serves.directions ∙ ap (direction_at s) same ∙ one) in
          let number : last_at last d ≡ n = ap (last_at last) same in
          let mark : last_at last d / 64 ≡ mark_in s d = agreed s last u.agree d u.serves.entry in
          let many : length q.stores ≡ q.number / 64 - mark_in s d = planned s last direction said spi frame d room q u in
          rw (eq-eqb q.answer 0 z, eq-eqb spi (spi_at s e) own) (omega arith)
      by_answer (yes z) (no other) = rw (ne_eqb spi (spi_at s e) other) (omega arith)
      by_answer (no z) (yes own) = rw (ne_eqb q.answer 0 z, eq-eqb spi (spi_at s e) own) (omega arith)
      by_answer (no z) (no other) = rw (ne_eqb spi (spi_at s e) other) (omega arith)

  send_cost : (said : Said) (spi : ℕ) (frame output : List ℕ)
      → length (cond (eqb spi (spi_at s e)) (made_by (securing_reply s last said spi frame (length output))) []) + n / 64 ≤ (n + 1) / 64
  send_cost said spi frame output =
      call_cost 1 said spi frame (securing_entry s said spi frame) (length output) (securing_reply s last said spi frame (length output))
      (send_used s last said spi frame output) (λ z k. send-number s last said spi frame output z)

  -- a check takes no number of an entry that sends
  check_cost : (said : Said) (frame output : List ℕ) → let right = comparison s last said frame in
      length (cond (eqb (spi_on said frame) (spi_at s e)) (made_by (checking_reply right s last said frame (length output))) []) + n / 64 ≤ (n + 1) / 64
  check_cost said frame output =
      let right = comparison s last said frame in
      call_cost 2 said (spi_on said frame) frame (checking_entry s said frame) (length output)
      (checking_reply right s last said frame (length output)) (check_used right s last said frame output) (λ z k. absurd (omega arith))

  never_checked : (said : Said) (frame output : List ℕ) → spi_on said frame ≡ spi_at s e
      → (checking_reply (comparison s last said frame) s last said frame (length output)).answer ≡ 0 → ⊥
  never_checked said frame output own z =
      let right = comparison s last said frame in
      let q = checking_reply right s last said frame (length output) in
      let d = checking_entry s said frame in
      let u = check_used right s last said frame output z in
      let same : d ≡ e = only_entry s last 2 said (spi_on said frame) frame d (length output) q u e below (sym own) in
      let two : direction_at s d ≡ 2 = u.serves.directions in
      omega (arith, ap (direction_at s) same)

  cost : (v : Step) → length (makes_under e x v) + n / 64 ≤ (n + 1) / 64
  unfolding makes_under makes
  cost (load any) = omega arith
  cost (send said spi frame output) = send_cost said spi frame output
  cost (check said frame output) = check_cost said frame output
  cost (send_cut said spi frame output j any) =
      let q = securing_reply s last said spi frame (length output) in
      omega (arith, send_cost said spi frame output, cut_less (eqb spi (spi_at s e)) j (made_by q))
  cost (check_cut said frame output j any) =
      let q = checking_reply (comparison s last said frame) s last said frame (length output) in
      omega (arith, check_cost said frame output, cut_less (eqb (spi_on said frame) (spi_at s e)) j (made_by q))

  -- a step that shows nothing leaves the number, and one that shows a frame sent takes the next
  still : (y : State) (shown : List Shown) → Effect e x y shown → length shown ≡ 0 → last_at y.numbers e ≡ n
  still y shown (quiet is same) none = same
  still y shown (loads is low high) none = absurd (omega (arith, ap length is))
  still y shown (sends passed out is new) none = absurd (omega (arith, ap length is))
  still y shown (frees m passed two is up new) none = absurd (omega (arith, ap length is))

  onward : (y : State) (shown : List Shown) → Effect e x y shown → length (sent_in shown) ≡ 1 → last_at y.numbers e ≡ n + 1
  unfolding sent_in
  onward y shown (quiet is same) some = absurd (omega (arith, ap (λ (l : List Shown). length (sent_in l)) is))
  onward y shown (loads is low high) some = absurd (omega (arith, ap (λ (l : List Shown). length (sent_in l)) is))
  onward y shown (sends passed out is new) some = new
  onward y shown (frees m passed two is up new) some = absurd (omega arith)

  -- 64 for each store, and what the last number leaves
  abbrev Grows : Step → Type 0
  Grows v =
      64 * length (makes_under e x v) + last_at (after x v).numbers e % 64 ≤ length (sent_in (shows e x v)) + 64 * loads_by x v + n % 64

  cut_accepted : valid_image s ≡ true → (v : Step) (t any : List ℕ) → (after x v).image ≡ t → load_accepted (loaded t any) ≡ 1
  cut_accepted passed v t any is = load_accepted_lem t any (ap valid_image (sym is) ∙ (keeps x v inv).stays ∙ passed)

  -- a call shows a frame sent, or shows and stores nothing
  called : (spi : ℕ) (output : List ℕ) (q : Reply) (shown : List Shown) → (spi ≡ spi_at s e → q.answer ≡ 0 → length (sent_in shown) ≡ 1)
      → let there = eqb (left q s last output).answer 0 && eqb spi (spi_at s e) in
      (length (sent_in (cond there shown [])) ≡ 1)
      ⊎ ((length (cond there shown []) ≡ 0) × (length (cond (eqb spi (spi_at s e)) (made_by q) []) ≡ 0))
  called spi output q shown here = rw (left-answer q s last output) (by_answer (ℕ_discrete q.answer 0) (ℕ_discrete spi (spi_at s e)))
    where
      by_answer : Dec (q.answer ≡ 0) → Dec (spi ≡ spi_at s e)
          → (length (sent_in (cond (eqb q.answer 0 && eqb spi (spi_at s e)) shown [])) ≡ 1)
          ⊎ ((length (cond (eqb q.answer 0 && eqb spi (spi_at s e)) shown []) ≡ 0)
          × (length (cond (eqb spi (spi_at s e)) (made_by q) []) ≡ 0))
      by_answer (yes z) (yes own) = rw (eq-eqb q.answer 0 z, eq-eqb spi (spi_at s e) own) (inl (here own z))
      by_answer (yes z) (no other) = rw (eq-eqb q.answer 0 z, ne_eqb spi (spi_at s e) other) (inr (refl, refl))
      by_answer (no z) (yes own) = rw (ne_eqb q.answer 0 z, eq-eqb spi (spi_at s e) own) (inr (refl, refl))
      by_answer (no z) (no other) = rw (ne_eqb q.answer 0 z, ne_eqb spi (spi_at s e) other) (inr (refl, refl))

  call_grows : (y : State) (stores : ℕ) (shown : List Shown) → Effect e x y shown → stores + n / 64 ≤ (n + 1) / 64
      → (length (sent_in shown) ≡ 1) ⊎ ((length shown ≡ 0) × (stores ≡ 0))
      → 64 * stores + last_at y.numbers e % 64 ≤ length (sent_in shown) + 64 * 0 + n % 64
  call_grows y stores shown f few (inl some) = omega (arith, onward y shown f some)
  call_grows y stores shown f few (inr none) = omega (arith, still y shown f none.0)

  step_grows : valid_image s ≡ true → (v : Step) → Grows v
  unfolding after shows makes_under makes loads_by sent_in secured checked checked_as
  step_grows passed (load any) = omega (arith, load_accepted_lem s any passed)
  step_grows passed (send said spi frame output) =
      call_grows _ _ _ (effect e x (send said spi frame output) inv below) (send_cost said spi frame output)
      (called spi output (securing_reply s last said spi frame (length output)) _ (λ own z. refl))
  step_grows passed (check said frame output) =
      let right = comparison s last said frame in
      call_grows _ _ _ (effect e x (check said frame output) inv below) (check_cost said frame output)
      (called (spi_on said frame) output (checking_reply right s last said frame (length output)) _
      (λ own z. absurd (never_checked said frame output own z)))
  step_grows passed (send_cut said spi frame output j any) =
      let t = secured_cut s last said spi frame output j in
      omega (
        arith,
        cost (send_cut said spi frame output j any),
        cut_accepted passed (send_cut said spi frame output j any) t any (loaded-image t any),
      )
  step_grows passed (check_cut said frame output j any) =
      let t = checked_cut s last said frame output j in
      omega (
        arith,
        cost (check_cut said frame output j any),
        cut_accepted passed (check_cut said frame output j any) t any (loaded-image t any),
      )

-- ---- one step of a run of an image that is not valid

module _ (e : ℕ) (x : State) (failed : valid_image x.image ≡ true → ⊥) where
  refused_idle : (t : Bool) (q : Reply) → (q.answer ≡ 0 → ⊥) → length (cond t (made_by q) []) ≡ 0
  refused_idle true q z = rw (ne_eqb q.answer 0 z) refl
  refused_idle false q z = refl

  send_idle : (said : Said) (spi : ℕ) (frame output : List ℕ) →
      length (cond (eqb spi (spi_at x.image e)) (sending_makes x said spi frame output) []) ≡ 0
  send_idle said spi frame output =
      refused_idle (eqb spi (spi_at x.image e)) (securing_reply x.image x.numbers said spi frame (length output))
      (λ z. failed (send_used x.image x.numbers said spi frame output z).valid)

  check_idle : (said : Said) (frame output : List ℕ) →
      length (cond (eqb (spi_on said frame) (spi_at x.image e)) (check_makes x said frame output) []) ≡ 0
  check_idle said frame output =
      let right = comparison x.image x.numbers said frame in
      refused_idle (eqb (spi_on said frame) (spi_at x.image e)) (checking_reply right x.image x.numbers said frame (length output))
      (λ z. failed (check_used right x.image x.numbers said frame output z).valid)

  idle : (v : Step) → length (makes_under e x v) ≡ 0
  unfolding makes_under makes
  idle (load any) = refl
  idle (send said spi frame output) = send_idle said spi frame output
  idle (check said frame output) = check_idle said frame output
  idle (send_cut said spi frame output j any) =
      omega (arith, send_idle said spi frame output, cut_less (eqb spi (spi_at x.image e)) j (sending_makes x said spi frame output))
  idle (check_cut said frame output j any) =
      omega (arith, check_idle said frame output, cut_less (eqb (spi_on said frame) (spi_at x.image e)) j (check_makes x said frame output))

-- ---- a run

sent-append : (r t : List Shown) → length (sent_in (r ++ t)) ≡ length (sent_in r) + length (sent_in t)
unfolding sent_in
sent-append [] t = omega arith
sent-append (restart ∷ r) t = sent-append r t
sent-append (sent n ∷ r) t = omega (arith, sent-append r t)
sent-append (released n ∷ r) t = sent-append r t

module _ (e : ℕ) where
  -- of a valid image
  grows : (vs : List Step) (x : State) → Inv x → e < count_in x.image → direction_at x.image e ≡ 1 → valid_image x.image ≡ true
      → 64 * stores_during e x vs + last_at (ran x vs).numbers e % 64
      ≤ length (sent_in (trace e x vs)) + 64 * loads_during x vs + last_at x.numbers e % 64
  unfolding ran trace stores_during loads_during sent_in
  grows [] x inv below one passed = omega arith
  grows (v ∷ vs) x inv below one passed =
      let k = keeps x v inv in
      let y = after x v in
      let now = step_grows e x inv below one passed v in
      let later =
      grows vs y k.inv (omega (arith, count_same x.image y.image k.same))
      (direction-same x.image y.image k.same e ∙ one) (k.stays ∙ passed)
      in
      omega (arith, now, later, sent-append (shows e x v) (trace e y vs))

  -- of one that is not
  none : (vs : List Step) (x : State) → Inv x → (valid_image x.image ≡ true → ⊥) → stores_during e x vs ≡ 0
  unfolding stores_during
  none [] x inv failed = refl
  none (v ∷ vs) x inv failed =
      let k = keeps x v inv in
      omega (arith, idle e x failed v, none vs (after x v) k.inv (λ passed. failed (sym k.stays ∙ passed)))

  module _ (image numbers : List ℕ) (steps : List Step) (octets : Octets image) (below : e < count_in image) (one : direction_at image e ≡ 1) where
    abbrev x₀ : State
    x₀ = kept (loaded image numbers)

    inv₀ : Inv x₀
    inv₀ = load_inv image numbers octets

    ran₀ : Keeps x₀ (ran x₀ steps)
    ran₀ = ran-keeps steps x₀ inv₀

    worn-by : (t : Bool) → valid_image image ≡ t → Worn e image numbers steps
    unfolding ran after trace shows makes_under loads_by stores_during loads_during sent_in
    worn-by true passed =
        let y = ran x₀ steps in
        let below₀ : e < count_in x₀.image = rw (loaded-image image numbers) below in
        let one₀ : direction_at x₀.image e ≡ 1 = rw (loaded-image image numbers) one in
        let all = grows steps x₀ inv₀ below₀ one₀ (ap valid_image (loaded-image image numbers) ∙ passed) in
        let first = loaded_last image numbers passed e below in
        let more = load_accepted_lem image numbers passed in
        let below₁ : e < count_in y.image = omega (arith, count_same x₀.image y.image ran₀.same) in
        let next = cost e y ran₀.inv below₁ (direction-same x₀.image y.image ran₀.same e ∙ one₀) in
        record { after = omega (arith, all, first, more); during = λ v. omega (arith, all, first, more, next v) }
    worn-by false failed =
        let invalid : valid_image x₀.image ≡ true → ⊥ =
        λ passed. true≢false (sym passed ∙ ap valid_image (loaded-image image numbers) ∙ failed)
        in
        let all = none steps x₀ inv₀ invalid in
        record {
          after = omega (arith, all);
          during = λ v. omega (arith, all, idle e (ran x₀ steps) (λ passed. invalid (sym ran₀.stays ∙ passed)) v);
        }

pub wear : Wear
wear =
    record {
      counted = counted;
      worn = λ image numbers steps octets e below one. worn-by e image numbers steps octets below one (valid_image image) refl;
    }
