-- What one desk does shows neither in an answer to the other nor in the other's report: side by side, after every step, the two images are the
-- same in what the desk sees, so its checks have the same answers and tell the same numbers; and no other call writes into its report.
-- Assumes nothing.
use Prim.Native.Nat.{ℕ, ◌+◌, ◌*◌, ◌/◌, ◌%◌, ◌≤◌, ◌<◌}
use mathlib.Core.Path.{◌≡◌, refl, sym, ap, ◌∙◌, subst}
use mathlib.Core.Logic.{◌⊎◌, ◌≢◌, inl, inr}
use mathlib.Core.Bool.{Bool, true, false, cond, not, or-true, true≢false}
use mathlib.Core.List.{List, [], ◌∷◌}
use native.Mathlib.Decide.{ℕ_discrete}
use native.Mathlib.Nat.{add-zero}
use native.Mathlib.Omega.{arith}
use borrow.Author.Tests.{ne_eqb}
use lib.Dec.{ltb}
use lib.ListN.{length, take}
use Rattle.octets.specs.Lists.{octet, part}
use Rattle.octets.specs.Numbers.{number_at}
use Rattle.octets.proofs.Numbers.{number_at-same}
use Rattle.octets.proofs.Parts.{octet-part}
use Rattle.image.proofs.ValidImages.{valid, spi_once}
use Rattle.judging.specs.Answers.{first}
use Rattle.judging.specs.Said.{Said, kind_said, no_desk}
use Rattle.protection.specs.Protection.{spi_in}
use Rattle.link.specs.Calls.{Left, matched_number, checked_as, checked}
use Rattle.reports.specs.Desks.{desk_report, with_report, after_check, after_reset}
use Rattle.reports.specs.Report.{renewing, resetting, laid, odd}
use Rattle.reports.specs.declared.report.Report.{Report}
use Rattle.reports.proofs.Placing.{changed}
use Rattle.reports.proofs.Renewing.{laid-there}
use Rattle.note_commands.specs.NoteCommands.{wrong_desk, note_reply, note_tests}
use Rattle.note_commands.proofs.Answering.{replies_nothing}
use Rattle.notes.specs.Noting.{LentNotes, log_in, alarm_reset_tag, is_done, reset_by}
use Rattle.notes.proofs.Apart.{check-apart, command-apart}
use Rattle.noting.specs.Noted.{check_noted, command_noted}
use Rattle.promises.specs.Frames.{spi_on}
use Rattle.promises.specs.Images.{count_in, owner_at, last_at, Serves}
use Rattle.promises.specs.Isolation.{SameAnswer}
use Rattle.promises.specs.Runs.{load, send, check, send_cut, check_cut}
use Rattle.command_promises.specs.Runs.{Step, call, command, command_cut}
use Rattle.desks.specs.Desks.{By, is_load, Own, OwnOrOffice, Other, Pair, same, apart, apart_cut, here, there, AllOther, Allowed, AllAllowed}
use Rattle.desks.specs.Desks.{KeyPartSame}
use Rattle.desks.proofs.Both.{frame}
use Rattle.desks.proofs.Desks.{Abreast, checks, same-both, apart-both, cut-both, spoken_of, abreast}
use Rattle.desks.proofs.Commands.{command-answered}
use Rattle.desks.proofs.Frames.{send-answered, check-answered}
use Rattle.desks.proofs.Reading.{spi-same}
use Rattle.noted_promises.specs.Refusals.{ForNotes}
use Rattle.noted_promises.specs.Reports.{three_reports, report_in}
use Rattle.noted_promises.specs.Runs.{NotedState, after, ran}
use Rattle.noted_promises.proofs.Dumps.{dumped_told}
use Rattle.noted_promises.proofs.Judged.{log_tested, answer-is, done_seat}
use Rattle.noted_promises.proofs.Refusals.{for_notes_lem, command-same, command-notes, noted_refusals}
use Rattle.noted_promises.proofs.Reports.{before_entry, matched, unmatched}
use Rattle.noted_promises.proofs.Runs.{step_beside, run_beside}
use Rattle.noted_desks.specs.NotedDesks.{SameReport, ReportsAlike, NotedAnswered, ToldTo, NotedDesks}

-- ---- a desk's report, from its four octets

module _ (s t : List ℕ) (d : ℕ) (alike : part (4 * d) 4 s ≡ part (4 * d) 4 t) where
  octet-alike : (j : ℕ) → j < 4 → octet s (4 * d + j) ≡ octet t (4 * d + j)
  octet-alike j h = sym (octet-part (4 * d) 4 s j h) ∙ ap (λ (p : List ℕ). octet p j) alike ∙ octet-part (4 * d) 4 t j h

  report-alike : desk_report s d ≡ desk_report t d
  unfolding desk_report
  report-alike =
      let first : octet s (4 * d) ≡ octet t (4 * d) =
      ap (octet s) (sym (add-zero (4 * d))) ∙ octet-alike 0 (omega arith) ∙ ap (octet t) (add-zero (4 * d)) in
      let spis : number_at (4 * d + 1) 2 s ≡ number_at (4 * d + 1) 2 t = number_at-same (4 * d + 1) 2 s t behind in
      let last = octet-alike 3 (omega arith) in
      λ i.
      record {
        alarm = odd (first i / 8);
        bad = record { number = odd (first i / 4); mac = odd (first i / 2); association = odd (first i) };
        spi = spis i;
        number = last i;
      }
    where
      behind : (i : ℕ) → i < 2 → octet s (4 * d + 1 + i) ≡ octet t (4 * d + 1 + i)
      behind i h =
          let place : 4 * d + 1 + i ≡ 4 * d + (1 + i) = omega arith in
          ap (octet s) place ∙ octet-alike (1 + i) (omega arith) ∙ ap (octet t) (sym place)

  -- a report that is laid out in place of it
  laid-alike : d < 3 → length s ≡ 12 → length t ≡ 12 → (f : Report → Report)
      → part (4 * d) 4 (with_report s d (f (desk_report s d))) ≡ part (4 * d) 4 (with_report t d (f (desk_report t d)))
  laid-alike low l m f =
      laid-there s d low l (f (desk_report s d)) ∙ ap (λ (r : Report). laid (f r)) report-alike ∙ sym (laid-there t d low m (f (desk_report t d)))

-- ---- the calls of other desks

module _ (d : ℕ) (P : ℕ → Type 0) (others : (e : ℕ) → P e → e ≢ d) (x : NotedState) (twelve : length (three_reports x.notes) ≡ 12) where
  stays : (v : Step) → By P v → report_in (after x v).notes d ≡ report_in x.notes d
  unfolding By after check_noted
  stays (call (load any)) by = refl
  stays (call (send said spi clear output)) by = refl
  stays (call (check said clear output)) by =
      let left = checked x.state.image x.state.numbers said clear output in
      check-apart x.notes said.desk d twelve (others said.desk by) left.answer (spi_in (kind_said said) clear)
      (matched_number x.state.image x.state.numbers said clear left.numbers % 256)
  stays (call (send_cut said spi clear output j any)) by = refl
  stays (call (check_cut said clear output j any)) by = refl
  stays (command desk c output) by =
      let y = command_noted x.notes x.state.image x.state.numbers desk c output in
      ap (λ (m : LentNotes). report_in m d) (command-notes x.notes x.state.image x.state.numbers desk c output)
      ∙ command-apart x.notes desk d twelve (others desk by.0) (octet c 0) y.left.answer
  stays (command_cut desk c output j any) by = refl

-- three reports stay three
reset-twelve : (reports : List ℕ) (desk : ℕ) (done : Bool) → length reports ≡ 12 → length (cond done (after_reset reports desk) reports) ≡ 12
reset-twelve reports desk true twelve = (changed reports desk (resetting (desk_report reports desk)) twelve).long ∙ twelve
reset-twelve reports desk false twelve = twelve

twelve-next : (x : NotedState) (v : Step) → length (three_reports x.notes) ≡ 12 → length (three_reports (after x v).notes) ≡ 12
unfolding after check_noted
twelve-next x (call (load any)) twelve = twelve
twelve-next x (call (send said spi clear output)) twelve = twelve
twelve-next x (call (check said clear output)) twelve = (changed (three_reports x.notes) said.desk _ twelve).long ∙ twelve
twelve-next x (call (send_cut said spi clear output j any)) twelve = twelve
twelve-next x (call (check_cut said clear output j any)) twelve = twelve
twelve-next x (command desk c output) twelve =
    let y = command_noted x.notes x.state.image x.state.numbers desk c output in
    ap (λ (m : LentNotes). length (three_reports m)) (command-notes x.notes x.state.image x.state.numbers desk c output)
    ∙ reset-twelve (three_reports x.notes) desk (is_done alarm_reset_tag (octet c 0) y.left.answer) twelve
twelve-next x (command_cut desk c output j any) twelve = twelve

twelve-ran : (x : NotedState) (vs : List Step) → length (three_reports x.notes) ≡ 12 → length (three_reports (ran x vs).notes) ≡ 12
unfolding ran
twelve-ran x [] twelve = twelve
twelve-ran x (v ∷ vs) twelve = twelve-ran (after x v) vs (twelve-next x v twelve)

stays-ran : (d : ℕ) (x : NotedState) (vs : List Step) → length (three_reports x.notes) ≡ 12 → AllOther d vs
    → report_in (ran x vs).notes d ≡ report_in x.notes d
unfolding ran AllOther
stays-ran d x [] twelve all = refl
stays-ran d x (v ∷ vs) twelve all =
    stays-ran d (after x v) vs (twelve-next x v twelve) all.2 ∙ stays d (Other d) (λ e o. o.1) x twelve v all.0

-- ---- the answer of a command to the notes: the reply's length does not count where the desk is wrong

tests-alike : (v w a c wrong form z u : Bool) → v ≡ w → a ≡ c → (wrong ≡ true) ⊎ (z ≡ u)
    → first ((1, v) ∷ (2, a) ∷ (19, wrong) ∷ (13, form) ∷ (6, z) ∷ []) ≡ first ((1, w) ∷ (2, c) ∷ (19, wrong) ∷ (13, form) ∷ (6, u) ∷ [])
unfolding first
tests-alike v w a c wrong form z u p q (inl e) = rw (p, q, e)
tests-alike v w a c wrong form z u p q (inr e) = rw (p, q, e)

-- ---- the number that a check of the desk tells

module _ (d : ℕ) (some : 1 ≤ d) (x y : NotedState) (b : Abreast d x.state y.state) where
  abbrev s : List ℕ
  s = x.state.image

  abbrev l : List ℕ
  l = x.state.numbers

  abbrev t : List ℕ
  t = y.state.image

  abbrev r : List ℕ
  r = y.state.numbers

  own_entry : (said : Said) (spi : ℕ) (clear : List ℕ) (e : ℕ) → said.desk ≡ d → Serves s 2 said spi clear e → owner_at s e ≡ d
  own_entry said spi clear e own serves = by_seat serves.seen
    where
      by_seat : (said.desk ≡ 0) ⊎ (owner_at s e ≡ said.desk) → owner_at s e ≡ d
      by_seat (inl office) = absurd (omega arith)
      by_seat (inr mine) = mine ∙ own

  lasts-alike : (said : Said) (clear output : List ℕ) (e : ℕ) → e < count_in s → owner_at s e ≡ d
      → last_at (checked t r said clear output).numbers e ≡ last_at (checked s l said clear output).numbers e
  unfolding checked checked_as
  lasts-alike said clear output e below mine = (checks d x.state y.state b said clear output).numbers output e below mine

  numbers-alike : (said : Said) (clear output : List ℕ) → said.desk ≡ d
      → let here-left = checked s l said clear output in
      let there-left = checked t r said clear output in
      here-left.answer ≡ there-left.answer
      → matched_number s l said clear here-left.numbers ≡ matched_number t r said clear there-left.numbers
  numbers-alike said clear output own answers = by_answer (before_entry (checked s l said clear output).answer) refl
    where
      by_answer : (before : Bool) → before_entry (checked s l said clear output).answer ≡ before
          → matched_number s l said clear (checked s l said clear output).numbers ≡ matched_number t r said clear (checked t r said clear output).numbers
      by_answer true e = unmatched s l said clear output e ∙ sym (unmatched t r said clear output (ap before_entry (sym answers) ∙ e))
      by_answer false e =
          let m = matched s l said clear output e in
          let k = matched t r said clear output (ap before_entry (sym answers) ∙ e) in
          let below : m.0 < count_in t = rw (frame b).count m.1.entry in
          let spis = spi-same d s t b.four b.same m.0 m.1.entry ∙ m.1.spis ∙ sym k.1.spis in
          let one : m.0 ≡ k.0 = spi_once t (valid t b.passed_there) m.0 k.0 below k.1.entry spis in
          let lasts = lasts-alike said clear output m.0 m.1.entry (own_entry said (spi_on said clear) clear m.0 own m.1) in
          m.2 ∙ sym lasts ∙ ap (last_at (checked t r said clear output).numbers) one ∙ sym k.2

  -- ---- the report after a check of the desk

  check-report : d ≤ 2 → ReportsAlike d x y → (said : Said) (clear output : List ℕ) → said.desk ≡ d
      → SameReport d (after x (call (check said clear output))) (after y (call (check said clear output)))
  unfolding after check_noted
  check-report low known said clear output own =
      let one = three_reports x.notes in
      let other = three_reports y.notes in
      let spi = spi_in (kind_said said) clear in
      let answers = (check-answered d s l t r b said some own clear output).answer in
      let numbers = numbers-alike said clear output own answers in
      let told = matched_number s l said clear (checked s l said clear output).numbers in
      let told-there = matched_number t r said clear (checked t r said clear output).numbers in
      (λ i. part (4 * d) 4 (after_check one (own i) (checked s l said clear output).answer spi (told % 256)))
      ∙ laid-alike one other d known.report (omega arith) known.one known.other
      (renewing (checked s l said clear output).answer spi (told % 256))
      ∙ (λ i. part (4 * d) 4 (after_check other d (answers i) spi (numbers i % 256)))
      ∙ sym (λ i. part (4 * d) 4 (after_check other (own i) (checked t r said clear output).answer spi (told-there % 256)))

  -- ---- and after a command of the desk

  reset-report : d ≤ 2 → ReportsAlike d x y → (tag answer : ℕ)
      → part (4 * d) 4 (reset_by (three_reports x.notes) d tag answer) ≡ part (4 * d) 4 (reset_by (three_reports y.notes) d tag answer)
  reset-report low known tag answer = by_test (is_done alarm_reset_tag tag answer)
    where
      by_test : (t : Bool)
          → part (4 * d) 4 (cond t (after_reset (three_reports x.notes) d) (three_reports x.notes))
          ≡ part (4 * d) 4 (cond t (after_reset (three_reports y.notes) d) (three_reports y.notes))
      by_test true = laid-alike (three_reports x.notes) (three_reports y.notes) d known.report (omega arith) known.one known.other resetting
      by_test false = known.report

  -- ---- a command of the desk to the notes: no answer tells the log

  silent : (z : NotedState) (c output : List ℕ) → ForNotes c
      → let left = (command_noted z.notes z.state.image z.state.numbers d c output).left in (left.length ≡ 0) × (left.stores ≡ 0)
  silent z c output own = by_answer own (ℕ_discrete (command_noted z.notes z.state.image z.state.numbers d c output).left.answer 0)
    where
      by_answer : ForNotes c → Dec ((command_noted z.notes z.state.image z.state.numbers d c output).left.answer ≡ 0)
          → let left = (command_noted z.notes z.state.image z.state.numbers d c output).left in (left.length ≡ 0) × (left.stores ≡ 0)
      by_answer o (no refuse) =
          let u = noted_refusals.commanding z.notes z.state.image z.state.numbers d c output refuse in
          (u.length, u.stores)
      by_answer (inl log) (yes done) =
          let office = (done_seat z.notes z.state.image z.state.numbers d c output (inl log) done).office log in
          absurd (omega arith)
      by_answer (inr reset) (yes done) =
          let replies = dumped_told.reset z.notes z.state.image z.state.numbers d c output reset done in
          (replies.size, replies.stores)

  note_answer : (c output : List ℕ) → ForNotes c
      → (command_noted x.notes s l d c output).left.answer ≡ (command_noted y.notes t r d c output).left.answer
  note_answer c output own =
      answer-is x.notes s l d c output own ∙ by_tests own ∙ sym (answer-is y.notes t r d c output own)
    where
      empty : (n : LentNotes) → octet c 0 ≡ 0x37 → note_reply (log_in n) (octet c 0) ≡ []
      empty n e = replies_nothing (log_in n) (octet c 0) (λ z. omega arith) (λ z. omega arith)

      unseen : ForNotes c
          → (wrong_desk d (octet c 0) ≡ true)
          ⊎ (ltb (length output) (length (note_reply (log_in x.notes) (octet c 0))) ≡ ltb (length output) (length (note_reply (log_in y.notes) (octet c 0))))
      unseen (inl log) = inl (rw (log_tested c log, ne_eqb d 0 (λ z. omega arith), or-true (no_desk d)))
      unseen (inr reset) = inr (ap (λ (q : List ℕ). ltb (length output) (length q)) (empty x.notes reset ∙ sym (empty y.notes reset)))

      by_tests : ForNotes c
          → first (note_tests (log_in x.notes) s l d c (length output)) ≡ first (note_tests (log_in y.notes) t r d c (length output))
      by_tests o = tests-alike _ _ _ _ _ _ _ _ (ap not (b.passed ∙ sym b.passed_there)) (ap not (sym b.agree)) (unseen o)

  -- ---- every answer to the desk

  quiet : (one other : Left) → one.answer ≡ other.answer → (one.length ≡ 0) × (one.stores ≡ 0) → (other.length ≡ 0) × (other.stores ≡ 0)
      → SameAnswer one other
  quiet one other answers z u =
      record {
        answer = answers;
        size = z.0 ∙ sym u.0;
        stores = z.1 ∙ sym u.1;
        result = ap (λ (n : ℕ). take n one.output) z.0 ∙ sym (ap (λ (n : ℕ). take n other.output) u.0);
      }

  command-told : (c output : List ℕ) → Dec (ForNotes c)
      → SameAnswer (command_noted x.notes s l d c output).left (command_noted y.notes t r d c output).left
  command-told c output (yes own) = quiet _ _ (note_answer c output own) (silent x c output own) (silent y c output own)
  command-told c output (no other) =
      rw (command-same x.notes s l d c output other, command-same y.notes t r d c output other)
      (command-answered d s l t r b d c output some refl)

  own_told : (v : Step) → By (Own d) v → NotedAnswered x y v
  unfolding By NotedAnswered check_noted
  own_told (call (load any)) own = tt
  own_told (call (send said spi clear output)) own = send-answered d s l t r b said some own spi clear output
  own_told (call (check said clear output)) own = check-answered d s l t r b said some own clear output
  own_told (call (send_cut said spi clear output j any)) own = tt
  own_told (call (check_cut said clear output j any)) own = tt
  own_told (command desk c output) own =
      subst (λ (e : ℕ). SameAnswer (command_noted x.notes s l e c output).left (command_noted y.notes t r e c output).left) (sym own.0)
      (command-told c output (for_notes_lem c))
  own_told (command_cut desk c output j any) own = tt

  -- ---- the report after a step of both

  command-report : d ≤ 2 → ReportsAlike d x y → (c output : List ℕ)
      → SameReport d (after x (command d c output)) (after y (command d c output))
  unfolding after
  command-report low known c output =
      let answers = (command-told c output (for_notes_lem c)).answer in
      ap (λ (m : LentNotes). report_in m d) (command-notes x.notes s l d c output)
      ∙ reset-report low known (octet c 0) (command_noted x.notes s l d c output).left.answer
      ∙ (λ i. part (4 * d) 4 (reset_by (three_reports y.notes) d (octet c 0) (answers i)))
      ∙ sym (ap (λ (m : LentNotes). report_in m d) (command-notes y.notes t r d c output))

  -- of the key office
  aside : ReportsAlike d x y → (v : Step) → By (Own 0) v → SameReport d (after x v) (after y v)
  aside known v by =
      let others : (e : ℕ) → e ≡ 0 → e ≢ d = λ e o z. omega arith in
      stays d (Own 0) others x known.one v by ∙ known.report ∙ sym (stays d (Own 0) others y known.other v by)

  same-report : d ≤ 2 → ReportsAlike d x y → (v : Step) → (is_load v ≡ true) ⊎ By (OwnOrOffice d) v → SameReport d (after x v) (after y v)
  unfolding is_load By after
  same-report low known (call (load any)) allowed = known.report
  same-report low known (call (send said spi clear output)) allowed = known.report
  same-report low known (call (check said clear output)) (inl is) = absurd (true≢false (sym is))
  same-report low known (call (check said clear output)) (inr (inl office)) = aside known (call (check said clear output)) office
  same-report low known (call (check said clear output)) (inr (inr own)) = check-report low known said clear output own
  same-report low known (call (send_cut said spi clear output j any)) allowed = known.report
  same-report low known (call (check_cut said clear output j any)) allowed = known.report
  same-report low known (command desk c output) (inl is) = absurd (true≢false (sym is))
  same-report low known (command desk c output) (inr (inl office, spoken)) = aside known (command desk c output) (office, spoken)
  same-report low known (command desk c output) (inr (inr own, spoken)) =
      subst (λ (e : ℕ). SameReport d (after x (command e c output)) (after y (command e c output))) (sym own) (command-report low known c output)
  same-report low known (command_cut desk c output j any) allowed = known.report

-- ---- over the whole of both runs

all_told : (d : ℕ) → (1 ≤ d) × (d ≤ 2) → (pairs : List Pair) (x y : NotedState) → Abreast d x.state y.state → ReportsAlike d x y
    → AllAllowed d pairs → KeyPartSame x.state y.state pairs → ToldTo d x y pairs
unfolding Allowed AllAllowed KeyPartSame ToldTo here there
all_told d range [] x y b known allowed keys = tt
all_told d range (same v ∷ pairs) x y b known allowed keys =
    let report = same-report d range.0 x y b range.1 known v allowed.0 in (
      own_told d range.0 x y b v,
      report,
      all_told d range pairs (after x v) (after y v)
          (rw (step_beside x v, step_beside y v) (same-both d x.state y.state b v (spoken_of d v allowed.0) keys.0))
          (record { one = twelve-next x v known.one; other = twelve-next y v known.other; report = report }) allowed.1
          (rw (step_beside x v, step_beside y v) keys.1),
    )
all_told d range (apart vs ws ∷ pairs) x y b known allowed keys =
    let report : SameReport d (ran x vs) (ran y ws) =
    stays-ran d x vs known.one allowed.0.0 ∙ known.report ∙ sym (stays-ran d y ws known.other allowed.0.1) in (
      report,
      all_told d range pairs (ran x vs) (ran y ws)
          (rw (run_beside x vs, run_beside y ws)
          (apart-both d x.state y.state b vs ws allowed.0.0 allowed.0.1 keys.0))
          (record { one = twelve-ran x vs known.one; other = twelve-ran y ws known.other; report = report }) allowed.1
          (rw (run_beside x vs, run_beside y ws) keys.1),
    )
all_told d range (apart_cut v w ∷ pairs) x y b known allowed keys =
    let report : SameReport d (after x v) (after y w) =
    stays d (Other d) (λ e o. o.1) x known.one v allowed.0.0
    ∙ known.report
    ∙ sym (stays d (Other d) (λ e o. o.1) y known.other w allowed.0.2) in (
      report,
      all_told d range pairs (after x v) (after y w)
          (rw (step_beside x v, step_beside y w)
          (cut-both d x.state y.state b v w allowed.0.0 allowed.0.1 allowed.0.2 allowed.0.3 keys.0))
          (record { one = twelve-next x v known.one; other = twelve-next y w known.other; report = report }) allowed.1
          (rw (step_beside x v, step_beside y w) keys.1),
    )

pub noted-desks : NotedDesks
noted-desks d range x y pairs start known allowed keys = all_told d range pairs x y (abreast d x.state y.state start) known allowed keys
