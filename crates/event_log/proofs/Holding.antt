-- A log that is lent holds, after an event, what it held with the event entered, where its list has room for 256 events.
-- Assumes nothing.
use mathlib.Core.Path.{◌≡◌, ◌∙◌, refl, sym, ap}
use mathlib.Core.Bool.{cond}
use mathlib.Core.List.{List, [], ◌∷◌, ◌++◌}
use Prim.Native.Nat.{ℕ, zero, suc, ◌+◌, ◌*◌, ◌/◌, ◌≤◌, ◌<◌}
use native.Mathlib.Decide.{dec_lt}
use native.Mathlib.Omega.{arith}
use borrow.Author.Tests.{lt-ltb, le-ltb}
use lib.Dec.{ltb}
use lib.ListN.{length, set, length-set}
use lib.Seq.{get_or-set_same, get_or-set_other}
use Rattle.octets.specs.Lists.{octet}
use Rattle.event_log.specs.Events.{Event, Running, entering}
use Rattle.event_log.specs.Held.{LentLog, lent_log, events_in, room_for, kept_count, held, event_put, entered_in}
use Rattle.event_log.proofs.Bounds.{below, above}
use Rattle.event_log.proofs.Lines.{length-events, events_more}

-- ---- the three octets of an event

module _ (s : List ℕ) (at : ℕ) (e : Event) where
  before_put : (j : ℕ) → j < at → octet (event_put s at e) j ≡ octet s j
  before_put j h =
      get_or-set_other (set (set s at e.desk) (at + 1) e.tag) (at + 2) j e.answer 0 (λ p. omega arith)
      ∙ get_or-set_other (set s at e.desk) (at + 1) j e.tag 0 (λ p. omega arith)
      ∙ get_or-set_other s at j e.desk 0 (λ p. omega arith)

  long_put : length (event_put s at e) ≡ length s
  long_put = simp (length-set)

  desk_put : at + 2 < length s → octet (event_put s at e) at ≡ e.desk
  desk_put h =
      get_or-set_other (set (set s at e.desk) (at + 1) e.tag) (at + 2) at e.answer 0 (λ p. omega arith)
      ∙ get_or-set_other (set s at e.desk) (at + 1) at e.tag 0 (λ p. omega arith)
      ∙ get_or-set_same s at e.desk 0 (omega arith)

  tag_put : at + 2 < length s → octet (event_put s at e) (at + 1) ≡ e.tag
  tag_put h =
      get_or-set_other (set (set s at e.desk) (at + 1) e.tag) (at + 2) (at + 1) e.answer 0 (λ p. omega arith)
      ∙ get_or-set_same (set s at e.desk) (at + 1) e.tag 0 (simp (length-set) (omega arith))

  answer_put : at + 2 < length s → octet (event_put s at e) (at + 2) ≡ e.answer
  answer_put h = get_or-set_same (set (set s at e.desk) (at + 1) e.tag) (at + 2) e.answer 0 (simp (length-set) (omega arith))

-- ---- the events of a record that has one more

same-events : (n : ℕ) (s r : List ℕ) → ((j : ℕ) → j < 3 * n → octet s j ≡ octet r j) → events_in n s ≡ events_in n r
unfolding events_in
same-events zero s r h = refl
same-events (suc n) s r h =
    let before = same-events n s r (λ j k. h j (omega arith)) in
    λ i.
    before i
    ++ (record {
      desk = h (3 * n) (omega arith) i;
      tag = h (3 * n + 1) (omega arith) i;
      answer = h (3 * n + 2) (omega arith) i;
    }
    ∷ [])

events_put : (s : List ℕ) (n : ℕ) (e : Event) → 3 * n + 2 < length s → events_in (n + 1) (event_put s (3 * n) e) ≡ events_in n s ++ (e ∷ [])
events_put s n e h =
    sym (events_more n (event_put s (3 * n) e))
    ∙ (λ i.
    same-events n (event_put s (3 * n) e) s (before_put s (3 * n) e) i
    ++ (record { desk = desk_put s (3 * n) e h i; tag = tag_put s (3 * n) e h i; answer = answer_put s (3 * n) e h i } ∷ []))

-- ---- one event, by the tests

module _ (l : LentLog) (e : Event) where
  abbrev kept : ℕ
  kept = l.counts.kept

  abbrev dropped : ℕ
  dropped = l.counts.dropped

  abbrev room : ℕ
  room = room_for l.events

  pub enters_kept : (s : List ℕ) → kept < room → s ≡ event_put l.events (3 * kept) e
      → lent_log (record { kept = kept + 1; dropped = dropped }) s ≡ entered_in l e
  unfolding entered_in
  enters_kept s h p = rw (lt-ltb kept room h) (ap (lent_log (record { kept = kept + 1; dropped = dropped })) p)

  pub enters_dropped : room ≤ kept → dropped < 4294967295 → lent_log (record { kept = kept; dropped = dropped + 1 }) l.events ≡ entered_in l e
  unfolding entered_in
  enters_dropped g k = rw (le-ltb kept room g, lt-ltb dropped 4294967295 k)

  pub enters_nothing : room ≤ kept → 4294967295 ≤ dropped → l ≡ entered_in l e
  unfolding entered_in
  enters_nothing g k = rw (le-ltb kept room g, le-ltb dropped 4294967295 k)

-- ---- with room for 256

pub room_whole : (s : List ℕ) → 768 ≤ length s → room_for s ≡ 256
unfolding room_for
room_whole s h = above 256 (length s / 3) (omega arith)

many : (n : ℕ) (s : List ℕ) → room_for s ≡ 256 → 256 ≤ n → kept_count n s ≡ 256
many n s r h = rw r (above 256 n h)

few : (n : ℕ) (s : List ℕ) → room_for s ≡ 256 → n ≤ 256 → kept_count n s ≡ n
few n s r h = few-by (dec_lt n 256)
  where
    few-by : Dec (n < 256) → kept_count n s ≡ n
    few-by (yes k) = rw r (below 256 n k)
    few-by (no g) = let e : 256 ≡ n = omega arith in rw r (above 256 n (omega arith) ∙ e)

entering-room : (r : Running) (e : Event) → length r.kept < 256 → entering r e ≡ record { kept = r.kept ++ (e ∷ []); dropped = r.dropped }
unfolding entering
entering-room r e h = rw (lt-ltb (length r.kept) 256 h)

entering_full : (r : Running) (e : Event) → length r.kept ≡ 256
    → entering r e ≡ record { kept = r.kept; dropped = cond (ltb r.dropped 4294967295) (r.dropped + 1) r.dropped }
unfolding entering
entering_full r e full = rw full

module _ (l : LentLog) (e : Event) (long : 768 ≤ length l.events) where
  most : room l e ≡ 256
  most = room_whole l.events long

  full : 256 ≤ kept l e → length (held l).kept ≡ 256
  full g = length-events (kept_count (kept l e) l.events) l.events ∙ many (kept l e) l.events most g

  held_by : Dec (kept l e < 256) → Dec (dropped l e < 4294967295) → held (entered_in l e) ≡ entering (held l) e
  held_by (yes h) d =
      let n = kept l e in
      let put = event_put l.events (3 * n) e in
      let still : room_for put ≡ 256 = room_whole put (omega (arith, long_put l.events (3 * n) e)) in
      let count : kept_count n l.events ≡ n = few n l.events most (omega arith) in
      let one : events_in (kept_count (n + 1) put) put ≡ (held l).kept ++ (e ∷ []) =
      ap (λ (k : ℕ). events_in k put) (few (n + 1) put still (omega arith))
      ∙ events_put l.events n e (omega arith)
      ∙ ap (λ (k : ℕ). events_in k l.events ++ (e ∷ [])) (sym count) in
      ap held (sym (enters_kept l e put (omega (arith, most)) refl))
      ∙ (λ i. record { kept = one i; dropped = dropped l e })
      ∙ sym (entering-room (held l) e (omega (arith, length-events (kept_count n l.events) l.events)))
  held_by (no g) (yes k) =
      ap held (sym (enters_dropped l e (omega (arith, most)) k))
      ∙ sym (entering_full (held l) e (full (omega arith)) ∙ rw (lt-ltb (dropped l e) 4294967295 k))
  held_by (no g) (no k) =
      ap held (sym (enters_nothing l e (omega (arith, most)) (omega arith)))
      ∙ sym (entering_full (held l) e (full (omega arith)) ∙ rw (le-ltb (dropped l e) 4294967295 (omega arith)))

  pub held-entered : held (entered_in l e) ≡ entering (held l) e
  held-entered = held_by (dec_lt (kept l e) 256) (dec_lt (dropped l e) 4294967295)
