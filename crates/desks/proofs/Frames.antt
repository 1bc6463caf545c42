-- A sending or a check in two runs: under an entry that the desk owns it is decided alike, and makes the same stores; and to the desk itself
-- it answers the same.
-- Assumes nothing.
use Prim.Native.Nat.{ℕ, ◌+◌, ◌≤◌, ◌<◌}
use mathlib.Core.Path.{◌≡◌, refl, sym, ap, ◌∙◌}
use mathlib.Core.Logic.{◌⊎◌, inl, inr}
use mathlib.Core.Bool.{Bool, true, false, true≢false}
use mathlib.Core.List.{List}
use native.Mathlib.Omega.{arith}
use lib.ListN.{length, take}
use Rattle.std.specs.Prelude.{Option, Some, None}
use Rattle.octets.specs.Lists.{Octets}
use Rattle.marks.specs.Stores.{stored}
use Rattle.marks.specs.declared.plans.Store.{Store}
use Rattle.image.specs.Image.{valid_image}
use Rattle.numbers.specs.Numbers.{agrees}
use Rattle.numbers.specs.Stores.{after_stores}
use Rattle.association.specs.Association.{held_in, the_one, index_of}
use Rattle.association.specs.Search.{matches, entry_for}
use Rattle.association.specs.declared.held.Held.{Held}
use Rattle.association.specs.declared.search.Wanted.{Wanted}
use Rattle.association.proofs.Finding.{found_at, found_nothing}
use Rattle.protection.specs.Protection.{spi_in, mac_right}
use Rattle.judging.specs.Answers.{first}
use Rattle.judging.specs.Replies.{Reply, Decision, seen, securing, securing_tests, checking, checking_tests}
use Rattle.judging.specs.Said.{Said, kind_said}
use Rattle.judging.specs.Wants.{wanted}
use Rattle.link.specs.Calls.{left, secured, securing_reply, securing_entry, comparison, checked, checked_as, checking_reply, checking_entry}
use Rattle.link.proofs.Leaving.{left-refused}
use Rattle.promises.specs.Frames.{spi_on}
use Rattle.promises.specs.Images.{version_in, shape_in, count_in, place, mark_place, owner_at, Serves}
use Rattle.promises.specs.Isolation.{SameEntry, both, neither, SameAnswer}
use Rattle.promises.specs.Versions.{Shape}
use Rattle.promises.proofs.Isolation.{isolation, same_seen, securing-alike, checking-alike, entry_of}
use Rattle.promises.proofs.Readings.{spi_on_lem}
use Rattle.promises.proofs.Stored.{outside, raised_by}
use Rattle.promises.proofs.Used.{Used, send_used, check_used}
use Rattle.promises.proofs.Valids.{serving, served}
use Rattle.desks.proofs.Both.{Both, frame, back, standing, standing_there}
use Rattle.desks.proofs.Calls.{Acts, at, Twin}
use Rattle.desks.proofs.Reading.{body_same, matches-same, raises_same, key-same}
use Rattle.desks.proofs.Shared.{shape_four, Touches}

-- ---- what it touches

module _ (s l : List ℕ) (octets : Octets s) (four : version_in s ≡ 4) where
  module _ (direction : ℕ) (said : Said) (spi : ℕ) (frame : List ℕ) (e room : ℕ) (q : Reply) (u : Used s l direction said spi frame e room q) where
    made : (j : ℕ) → stored s (take j q.stores) ≡ after_stores s e q.number j
    unfolding after_stores
    made j = ap (λ (stores : List Store). stored s (take j stores)) u.plan

    mark-inside : (p : ℕ) → (p < place s e 0) ⊎ (place s e 22 ≤ p) → (p < mark_place s e) ⊎ (mark_place s e + 4 ≤ p)
    mark-inside p (inl h) = inl (omega arith)
    mark-inside p (inr h) = let m : (shape_in s).mark ≡ 18 = ap (λ (x : Shape). x.mark) (shape_four s four) in inr (omega arith)

    touches : (j : ℕ) → Touches s e (stored s (take j q.stores))
    touches j =
        let r = raised_by s l octets direction said spi frame e room q u j in
        rw (made j) (record { size = r.long; outside = λ p side. r.outside p (outside s e p (mark-inside p side)) })

    acts : Acts s l (Serves s direction said spi frame) q
    acts = at e u.serves.entry u.serves u.entry touches

  pub send_acts : (said : Said) (spi : ℕ) (frame output : List ℕ) → let q = securing_reply s l said spi frame (length output) in
      q.answer ≡ 0 → Acts s l (Serves s 1 said spi frame) q
  send_acts said spi frame output z =
      acts 1 said spi frame (securing_entry s said spi frame) (length output) (securing_reply s l said spi frame (length output))
      (send_used s l said spi frame output z)

  pub check_acts : (said : Said) (frame output : List ℕ) → let q = checking_reply (comparison s l said frame) s l said frame (length output) in
      q.answer ≡ 0 → Acts s l (Serves s 2 said (spi_on said frame) frame) q
  check_acts said frame output z =
      let right = comparison s l said frame in
      acts 2 said (spi_on said frame) frame (checking_entry s said frame) (length output) (checking_reply right s l said frame (length output))
      (check_used right s l said frame output z)

-- ---- the entry that serves is the same

module _ (d : ℕ) (s l t r : List ℕ) (b : Both d s l t r) (direction : ℕ) (said : Said) (spi : ℕ) (clear : List ℕ) where
  abbrev w : Wanted
  w = wanted spi direction said clear

  serves-there : (e : ℕ) → Serves s direction said spi clear e → owner_at s e ≡ d → Serves t direction said spi clear e
  serves-there e serves own =
      serving t direction said spi clear e (rw (frame b).count serves.entry)
      (matches-same d s t b.four b.same e own serves.entry w ∙ served s direction said spi clear e serves)

  same-entry : (e : ℕ) → Serves s direction said spi clear e → owner_at s e ≡ d → SameEntry s l t r direction said spi clear
  same-entry e serves own =
      both e e serves (serves-there e serves own) (body_same d s t b.four b.same e own) (key-same d s t b.four b.same e own)
      (sym (b.numbers e serves.entry own))

  -- of a desk that sees its own alone
  owned : 1 ≤ d → said.desk ≡ d → (e : ℕ) → Serves s direction said spi clear e → owner_at s e ≡ d
  owned some desk e serves = by_sight serves.seen
    where
      by_sight : (said.desk ≡ 0) ⊎ (owner_at s e ≡ said.desk) → owner_at s e ≡ d
      by_sight (inl office) = absurd (omega arith)
      by_sight (inr own) = own ∙ desk

module _ (d : ℕ) (s l t r : List ℕ) (b : Both d s l t r) (direction : ℕ) (said : Said) (spi : ℕ) (clear : List ℕ) (some : 1 ≤ d)
    (desk : said.desk ≡ d) where
  differs : (x : Bool) → x ≡ true → x ≡ false → ⊥
  differs x p q = true≢false (sym p ∙ q)

  found_alike : SameEntry s l t r direction said spi clear
  found_alike = by-found (entry_for s v) refl
    where
      v : Wanted
      v = wanted spi direction said clear

      by-found : (f : Option ℕ) → entry_for s v ≡ f → SameEntry s l t r direction said spi clear
      by-found (Some e) is =
          let f = found_at s v e is in
          let serves = serving s direction said spi clear e (omega (arith, f.to)) f.passes in
          same-entry d s l t r b direction said spi clear e serves (owned d s l t r b direction said spi clear some desk e serves)
      by-found None is =
          neither (λ i serves. differs (matches s v i) (served s direction said spi clear i serves) (found_nothing s v is i serves.entry))
          (λ i serves.
          let own = owned d t r s l (back b) direction said spi clear some desk i serves in
          let there = serves-there d t r s l (back b) direction said spi clear i serves own in
          differs (matches s v i) (served s direction said spi clear i there) (found_nothing s v is i there.entry))

-- ---- decided alike, and with the same stores

module _ (d : ℕ) (s l t r : List ℕ) (b : Both d s l t r) where
  pub send_twin : (said : Said) (spi : ℕ) (clear output : List ℕ) → let q = securing_reply s l said spi clear (length output) in
      q.answer ≡ 0 → (e : ℕ) → e < count_in s → Serves s 1 said spi clear e → owner_at s e ≡ d
      → Twin q (securing_reply t r said spi clear (length output))
  unfolding securing_reply
  send_twin said spi clear output z e below serves own =
      let agree = (send_used s l said spi clear output z).agree in
      let here = standing b agree in
      let there = standing_there b agree in
      let w = wanted spi 1 said clear in
      let room = length output in
      let entry = same-entry d s l t r b 1 said spi clear e serves own in
      let alike = same_seen s l t r here there 1 said spi clear entry in
      let decided : securing (seen s l w) said spi clear room ≡ securing (seen t r w) said spi clear room =
      securing-alike (seen s l w) (seen t r w) said spi clear room alike
      in
      let at-s : index_of (entry_for s w) ≡ e = ap index_of (entry_of s l t r here there 1 said spi clear s l here e serves) in
      let at-t : index_of (entry_for t w) ≡ e =
      ap index_of (entry_of s l t r here there 1 said spi clear t r there e (serves-there d s l t r b 1 said spi clear e serves own))
      in
      let n = (securing (seen s l w) said spi clear room).number in
      let number : (securing (seen t r w) said spi clear room).number ≡ n = ap (λ (x : Decision). x.number) (sym decided) in
      record {
        answer = ap (λ (x : Decision). x.answer) (sym decided);
        entry = at-t ∙ sym at-s;
        number = number;
        stores = rw (at-t, at-s, number) (raises_same d s t b.four b.same e own b.passed b.passed_there n);
      }

  pub check_twin : (said : Said) (clear output : List ℕ) → let q = checking_reply (comparison s l said clear) s l said clear (length output) in
      q.answer ≡ 0 → (e : ℕ) → e < count_in s → Serves s 2 said (spi_on said clear) clear e → owner_at s e ≡ d
      → Twin q (checking_reply (comparison t r said clear) t r said clear (length output))
  unfolding checking_reply comparison
  check_twin said clear output z e below served-so own =
      let agree = (check_used (comparison s l said clear) s l said clear output z).agree in
      let here = standing b agree in
      let there = standing_there b agree in
      let spi = spi_in (kind_said said) clear in
      let serves : Serves s 2 said spi clear e = rw (spi_on_lem said clear) at served-so in
      let w = wanted spi 2 said clear in
      let room = length output in
      let entry = same-entry d s l t r b 2 said spi clear e serves own in
      let alike = same_seen s l t r here there 2 said spi clear entry in
      let right = mac_right (held_in (the_one (seen s l w).found)) (kind_said said) clear in
      let rights : mac_right (held_in (the_one (seen t r w).found)) (kind_said said) clear ≡ right =
      ap (λ (h : Held). mac_right h (kind_said said) clear) (sym alike.held)
      in
      let decided : checking (seen s l w) right said clear room ≡ checking (seen t r w) right said clear room =
      checking-alike (seen s l w) (seen t r w) right said clear room alike
      in
      let at-s : index_of (entry_for s w) ≡ e = ap index_of (entry_of s l t r here there 2 said spi clear s l here e serves) in
      let at-t : index_of (entry_for t w) ≡ e =
      ap index_of (entry_of s l t r here there 2 said spi clear t r there e (serves-there d s l t r b 2 said spi clear e serves own))
      in
      let n = (checking (seen s l w) right said clear room).number in
      let number : (checking (seen t r w) right said clear room).number ≡ n = ap (λ (x : Decision). x.number) (sym decided) in
      record {
        answer = rw rights (ap (λ (x : Decision). x.answer) (sym decided));
        entry = at-t ∙ sym at-s;
        number = rw rights number;
        stores = rw (at-t, at-s, rights, number) (raises_same d s t b.four b.same e own b.passed b.passed_there n);
      }

-- ---- the answers to the desk

-- two refusals by the same number
pub refused-alike : (q u : Reply) (n : ℕ) (s l t r o : List ℕ) → 1 ≤ n → q.answer ≡ n → u.answer ≡ n
    → SameAnswer (left q s l o) (left u t r o)
refused-alike q u n s l t r o some a b =
    rw (left-refused q s l o (λ z. omega arith), left-refused u t r o (λ z. omega arith))
    (record { answer = a ∙ sym b; size = refl; stores = refl; result = refl })

module _ (s l : List ℕ) (passed : valid_image s ≡ true) (disagrees : agrees s l ≡ false) (said : Said) where
  send-two : (spi : ℕ) (clear : List ℕ) (room : ℕ) → (securing_reply s l said spi clear room).answer ≡ 2
  unfolding securing_reply securing securing_tests seen first
  send-two spi clear room = rw (passed, disagrees)

  check-two : (right : Bool) (clear : List ℕ) (room : ℕ) → (checking_reply right s l said clear room).answer ≡ 2
  unfolding checking_reply checking checking_tests seen first
  check-two right clear room = rw (passed, disagrees)

module _ (d : ℕ) (s l t r : List ℕ) (b : Both d s l t r) (said : Said) (some : 1 ≤ d) (desk : said.desk ≡ d) where
  send-refused : (spi : ℕ) (clear output : List ℕ) → agrees s l ≡ false
      → SameAnswer (secured s l said spi clear output) (secured t r said spi clear output)
  unfolding secured
  send-refused spi clear output e =
      refused-alike (securing_reply s l said spi clear (length output)) (securing_reply t r said spi clear (length output)) 2 s l t r output
      (omega arith) (send-two s l b.passed e said spi clear (length output))
      (send-two t r b.passed_there (b.agree ∙ e) said spi clear (length output))

  check-refused : (clear output : List ℕ) → agrees s l ≡ false → SameAnswer (checked s l said clear output) (checked t r said clear output)
  unfolding checked checked_as
  check-refused clear output e =
      refused-alike (checking_reply (comparison s l said clear) s l said clear (length output))
      (checking_reply (comparison t r said clear) t r said clear (length output)) 2 s l t r output (omega arith)
      (check-two s l b.passed e said (comparison s l said clear) clear (length output))
      (check-two t r b.passed_there (b.agree ∙ e) said (comparison t r said clear) clear (length output))

  pub send-answered : (spi : ℕ) (clear output : List ℕ) → SameAnswer (secured s l said spi clear output) (secured t r said spi clear output)
  send-answered spi clear output = by_agreement (agrees s l) refl
    where
      by_agreement : (a : Bool) → agrees s l ≡ a → SameAnswer (secured s l said spi clear output) (secured t r said spi clear output)
      by_agreement true e =
          isolation.sending s l t r said spi clear output output (standing b e) (standing_there b e) refl
          (found_alike d s l t r b 1 said spi clear some desk)
      by_agreement false e = send-refused spi clear output e

  pub check-answered : (clear output : List ℕ) → SameAnswer (checked s l said clear output) (checked t r said clear output)
  check-answered clear output = by_agreement (agrees s l) refl
    where
      by_agreement : (a : Bool) → agrees s l ≡ a → SameAnswer (checked s l said clear output) (checked t r said clear output)
      by_agreement true e =
          isolation.checking s l t r said clear output output (standing b e) (standing_there b e) refl
          (found_alike d s l t r b 2 said (spi_on said clear) clear some desk)
      by_agreement false e = check-refused clear output e
