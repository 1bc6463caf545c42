-- In every run the log counts the calls: each step enters its event, or erases, or leaves the log as it was, and the log after some events
-- and one more is the log after all of them. Beside the notes a step does what it does without them.
-- Assumes nothing.
use Prim.Native.Nat.{ℕ, suc, ◌+◌, ◌-◌, ◌*◌, ◌≤◌, ◌<◌, min}
use mathlib.Core.Path.{◌≡◌, refl, sym, ap, ◌∙◌}
use mathlib.Core.Logic.{inl, inr}
use mathlib.Core.Bool.{Bool, true, false, cond, ◌&&◌, ◌||◌}
use mathlib.Core.List.{List, [], ◌∷◌, ◌++◌}
use native.Mathlib.Decide.{dec_lt}
use native.Mathlib.Omega.{arith}
use borrow.Author.Tests.{lt-ltb, le-ltb}
use lib.Dec.{eqb}
use lib.ListN.{length, take, drop, length-append}
use lib.Seq.{sets, sets-eq, length-sets, take_at, take_all, take-append-le, drop-append-add, drop-drop, length-take-le}
use Rattle.std.specs.Prelude.{Some, None}
use Rattle.octets.specs.Lists.{octet}
use Rattle.event_log.specs.Held.{lent_log, room_for, event, entered_in, erased_in}
use Rattle.event_log.proofs.Holding.{room_whole}
use Rattle.notes.specs.Noting.{LentNotes, log_in, holding, noted_command}
use Rattle.link.proofs.Leaving.{left-answer}
use Rattle.command_form.specs.Form.{tag_of}
use Rattle.procedures.specs.Procedures.{procedures, with_tag}
use Rattle.procedures.proofs.Calling.{called-none}
use Rattle.commands.specs.Commanding.{command_reply, commanded}
use Rattle.commands.proofs.Done.{done}
use Rattle.note_commands.proofs.Unstored.{unstored}
use Rattle.noting.specs.Noted.{check_noted, command_noted}
use Rattle.promises.specs.Runs.{State, kept, load, send, check, send_cut, check_cut}
use Rattle.promises.specs.Runs as frames
use Rattle.command_promises.specs.Runs as plain
use Rattle.command_promises.specs.Runs.{Step, call, command, command_cut}
use Rattle.command_promises.proofs.Refusals.{command_refusals}
use Rattle.noted_promises.specs.Refusals.{ForNotes}
use Rattle.noted_promises.specs.Reports.{three_reports}
use Rattle.noted_promises.proofs.Refusals.{for_notes_lem, command-same, command-notes}
use Rattle.noted_promises.proofs.Judged.{left_is}
use Rattle.noted_promises.specs.Runs.{NotedState, after, ran, Event, events_of, counted, events_in, octets_of, Counted, Fresh, NotedRuns}

-- ---- three octets stored one behind the other

module _ (s : List ℕ) (at : ℕ) (e : Event) where
  abbrev put : List ℕ
  put = sets s at (e.0 ∷ e.1 ∷ e.2 ∷ [])

  put_parts : at + 3 ≤ length s → put ≡ (take at s ++ (e.0 ∷ e.1 ∷ e.2 ∷ [])) ++ drop (at + 3) s
  put_parts h = sets-eq (e.0 ∷ e.1 ∷ e.2 ∷ []) s at h

  front_long : at + 3 ≤ length s → length (take at s ++ (e.0 ∷ e.1 ∷ e.2 ∷ [])) ≡ at + 3
  front_long h = length-append (take at s) (e.0 ∷ e.1 ∷ e.2 ∷ []) ∙ ap (λ (n : ℕ). n + 3) (length-take-le at s (omega arith))

  take_put : at + 3 ≤ length s → take (at + 3) put ≡ take at s ++ (e.0 ∷ e.1 ∷ e.2 ∷ [])
  take_put h = ap (take (at + 3)) (put_parts h) ∙ take_at (take at s ++ (e.0 ∷ e.1 ∷ e.2 ∷ [])) (drop (at + 3) s) (at + 3) (front_long h)

  drop_put : (m : ℕ) → at + 3 ≤ m → at + 3 ≤ length s → drop m put ≡ drop m s
  drop_put m low h =
      let split : length (take at s ++ (e.0 ∷ e.1 ∷ e.2 ∷ [])) + (m - (at + 3)) ≡ m = omega (arith, front_long h) in
      let whole : at + 3 + (m - (at + 3)) ≡ m = omega arith in
      ap (drop m) (put_parts h)
      ∙ ap (λ (k : ℕ). drop k ((take at s ++ (e.0 ∷ e.1 ∷ e.2 ∷ [])) ++ drop (at + 3) s)) (sym split)
      ∙ drop-append-add (take at s ++ (e.0 ∷ e.1 ∷ e.2 ∷ [])) (drop (at + 3) s) (m - (at + 3))
      ∙ drop-drop (m - (at + 3)) (at + 3) s
      ∙ ap (λ (k : ℕ). drop k s) whole

octets_more : (es : List Event) (e : Event) → octets_of (es ++ (e ∷ [])) ≡ octets_of es ++ (e.0 ∷ e.1 ∷ e.2 ∷ [])
unfolding octets_of
octets_more [] e = refl
octets_more (d ∷ es) e = ap (λ (s : List ℕ). d.0 ∷ d.1 ∷ d.2 ∷ s) (octets_more es e)

-- ---- one event more

abbrev with_log : List ℕ → ℕ → ℕ → List ℕ → LentNotes
with_log reports keeps drops events = holding reports (lent_log (record { kept = keeps; dropped = drops }) events)

counts_so : (lent : List ℕ) (es : List Event) (reports : List ℕ) (keeps drops : ℕ) (events : List ℕ) → keeps ≡ min (length es) 256
    → drops ≡ min (length es - 256) 4294967295 → take (3 * keeps) events ≡ octets_of (take 256 es) → length events ≡ length lent
    → drop 768 events ≡ drop 768 lent → Counted lent es (with_log reports keeps drops events)
counts_so lent es reports keeps drops events first others front size behind =
    record {
      first = first;
      events = front;
      others = others;
      all = λ few. omega arith;
      size = size;
      behind = behind;
    }

module _ (lent : List ℕ) (room : 768 ≤ length lent) (es : List Event) (n : LentNotes) (c : Counted lent es n) (reports : List ℕ) (e : Event) where
  abbrev keeps : ℕ
  keeps = n.notes.log.kept

  abbrev drops : ℕ
  drops = n.notes.log.dropped

  one : length (es ++ (e ∷ [])) ≡ length es + 1
  one = length-append es (e ∷ [])

  room-is : room_for n.events ≡ 256
  room-is = room_whole n.events (omega (arith, c.size))

  entered_so : Dec (keeps < 256) → Dec (drops < 4294967295)
      → Counted lent (es ++ (e ∷ [])) (holding reports (entered_in (log_in n) (event e.0 e.1 e.2)))
  unfolding entered_in
  entered_so (yes h) d =
      let at : ℕ = 3 * keeps in
      let first = c.first in
      let fits : at + 3 ≤ length n.events = omega (arith, c.size) in
      let two : at + 1 ≡ suc at = omega arith in
      let three : at + 2 ≡ suc (suc at) = omega arith in
      let next : 3 * (keeps + 1) ≡ at + 3 = omega arith in
      let all : take 256 es ≡ es = take_all 256 es (omega arith) in
      let more : take 256 (es ++ (e ∷ [])) ≡ es ++ (e ∷ []) = take_all 256 (es ++ (e ∷ [])) (omega (arith, one)) in
      rw (room-is, lt-ltb keeps 256 h, two, three)
      (counts_so lent (es ++ (e ∷ [])) reports (keeps + 1) drops (put n.events at e) (omega (arith, one)) (omega (arith, one, c.others))
      (ap (λ (k : ℕ). take k (put n.events at e)) next
      ∙ take_put n.events at e fits
      ∙ ap (λ (s : List ℕ). s ++ (e.0 ∷ e.1 ∷ e.2 ∷ [])) (c.events ∙ ap octets_of all)
      ∙ sym (ap octets_of more ∙ octets_more es e))
      (length-sets n.events at (e.0 ∷ e.1 ∷ e.2 ∷ []) ∙ c.size)
      (drop_put n.events at e 768 (omega arith) fits ∙ c.behind))
  entered_so (no g) (yes k) =
      let first = c.first in
      let same : take 256 (es ++ (e ∷ [])) ≡ take 256 es = take-append-le 256 es (e ∷ []) (omega arith) in
      rw (room-is, le-ltb keeps 256 (omega arith), lt-ltb drops 4294967295 k)
      (counts_so lent (es ++ (e ∷ [])) reports keeps (drops + 1) n.events (omega (arith, one)) (omega (arith, one, c.others))
      (c.events ∙ sym (ap octets_of same)) c.size c.behind)
  entered_so (no g) (no k) =
      let first = c.first in
      let same : take 256 (es ++ (e ∷ [])) ≡ take 256 es = take-append-le 256 es (e ∷ []) (omega arith) in
      rw (room-is, le-ltb keeps 256 (omega arith), le-ltb drops 4294967295 (omega arith))
      (counts_so lent (es ++ (e ∷ [])) reports keeps drops n.events (omega (arith, one)) (omega (arith, one, c.others))
      (c.events ∙ sym (ap octets_of same)) c.size c.behind)

  entered : Counted lent (es ++ (e ∷ [])) (holding reports (entered_in (log_in n) (event e.0 e.1 e.2)))
  entered = entered_so (dec_lt keeps 256) (dec_lt drops 4294967295)

-- ---- a command

module _ (lent : List ℕ) (room : 768 ≤ length lent) (es : List Event) (n : LentNotes) (c : Counted lent es n) (desk tag answer : ℕ) where
  -- other reports change nothing of the log
  still : (reports : List ℕ) → Counted lent es (holding reports (log_in n))
  still reports = record { first = c.first; events = c.events; others = c.others; all = c.all; size = c.size; behind = c.behind }

  abbrev reset : List ℕ
  reset = three_reports (noted_command n desk tag answer)

  command-counts : Counted lent (events_of es desk tag answer) (noted_command n desk tag answer)
  unfolding octets_of
  command-counts = by-tag (eqb tag 0x33) (eqb tag 0x34) (eqb answer 0)
    where
      by-tag : (dump erase carried : Bool)
          → Counted lent (cond erase (cond carried [] es) (cond dump es (es ++ ((desk, tag, answer) ∷ []))))
          (holding reset (cond (dump || erase) (cond (erase && carried) (erased_in (log_in n)) (log_in n)) (entered_in (log_in n) (event desk tag answer))))
      by-tag true true true = counts_so lent [] reset 0 0 n.events refl refl refl c.size c.behind
      by-tag true true false = still reset
      by-tag true false carried = still reset
      by-tag false true true = counts_so lent [] reset 0 0 n.events refl refl refl c.size c.behind
      by-tag false true false = still reset
      by-tag false false carried = entered lent room es n c reset (desk, tag, answer)

-- ---- a run

module _ (lent : List ℕ) (room : 768 ≤ length lent) where
  step_counts : (x : NotedState) (es : List Event) (v : Step) → Counted lent es x.notes → Counted lent (counted x es v) (after x v).notes
  unfolding counted after check_noted
  step_counts x es (call (load any)) c = c
  step_counts x es (call (send said spi frame output)) c = c
  step_counts x es (call (check said frame output)) c =
      let y = check_noted x.notes x.state.image x.state.numbers said frame output in
      entered lent room es x.notes c (three_reports y.notes) (said.desk, 0, y.left.answer)
  step_counts x es (call (send_cut said spi frame output j any)) c = c
  step_counts x es (call (check_cut said frame output j any)) c = c
  step_counts x es (command desk d output) c =
      rw (command-notes x.notes x.state.image x.state.numbers desk d output)
      (command-counts lent room es x.notes c desk (octet d 0)
      (command_noted x.notes x.state.image x.state.numbers desk d output).left.answer)
  step_counts x es (command_cut desk d output j any) c = c

  run_counts : (x : NotedState) (es : List Event) (steps : List Step) → Counted lent es x.notes
      → Counted lent (events_in x es steps) (ran x steps).notes
  unfolding events_in ran
  run_counts x es [] c = c
  run_counts x es (v ∷ vs) c = run_counts (after x v) (counted x es v) vs (step_counts x es v c)

fresh-counts : (n : LentNotes) → Fresh n → Counted n.events [] n
unfolding octets_of
fresh-counts n f =
    record {
      first = f.kept;
      events = rw f.kept;
      others = f.dropped;
      all = λ few. omega arith;
      size = refl;
      behind = refl;
    }

-- ---- beside the notes

-- a command to the notes is no procedure's, so without notes it is refused
no_procedure_lem : (c : List ℕ) → ForNotes c → with_tag (tag_of c) procedures ≡ None
unfolding with_tag
no_procedure_lem c (inl (inl e)) = rw e
no_procedure_lem c (inl (inr e)) = rw e
no_procedure_lem c (inr e) = rw e

module _ (n : LentNotes) (image numbers : List ℕ) (desk : ℕ) (c output : List ℕ) where
  refused_plainly : ForNotes c → (commanded image numbers desk c output).answer ≡ 0 → ⊥
  unfolding commanded
  refused_plainly own z =
      let d = done image numbers desk c (length output) (sym (left-answer (command_reply image numbers desk c (length output)) image numbers output) ∙ z) in
      let none : None ≡ Some d.procedure = sym (called-none c (no_procedure_lem c own)) ∙ d.calls in
      let z : ◌≡◌ {A = ℕ} 0 1 = cc in
      omega arith

  command-beside : Dec (ForNotes c) → kept (command_noted n image numbers desk c output).left ≡ kept (commanded image numbers desk c output)
  command-beside (yes own) =
      let plainly = command_refusals.whole image numbers desk c output (refused_plainly own) in
      let noted = unstored (log_in n) image numbers desk c output in
      ap kept (left_is n image numbers desk c output own)
      ∙ (λ i. record { image = noted.0 i; numbers = noted.1 i })
      ∙ sym (λ i. record { image = plainly.images i; numbers = plainly.lasts i })
  command-beside (no other) = ap kept (command-same n image numbers desk c output other)

pub step_beside : (x : NotedState) (v : Step) → (after x v).state ≡ plain.after x.state v
unfolding after plain.after frames.after check_noted
step_beside x (call (load any)) = refl
step_beside x (call (send said spi frame output)) = refl
step_beside x (call (check said frame output)) = refl
step_beside x (call (send_cut said spi frame output j any)) = refl
step_beside x (call (check_cut said frame output j any)) = refl
step_beside x (command desk c output) = command-beside x.notes x.state.image x.state.numbers desk c output (for_notes_lem c)
step_beside x (command_cut desk c output j any) = refl

pub run_beside : (x : NotedState) (steps : List Step) → (ran x steps).state ≡ plain.ran x.state steps
unfolding ran plain.ran
run_beside x [] = refl
run_beside x (v ∷ vs) = run_beside (after x v) vs ∙ ap (λ (s : State). plain.ran s vs) (step_beside x v)

pub noted_runs : NotedRuns
noted_runs =
    record {
      log = λ x steps fresh. run_counts x.notes.events fresh.room x [] steps (fresh-counts x.notes fresh);
      beside = run_beside;
    }
