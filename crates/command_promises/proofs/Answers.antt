-- A command answers the first rule that is broken: each test of the definitions is a rule of the promise, and they come in the same order.
-- Assumes nothing.
use Prim.Native.Nat.{ℕ, ◌+◌, ◌≤◌}
use mathlib.Core.Path.{◌≡◌, refl, sym, ap, subst, ◌∙◌}
use mathlib.Core.Logic.{◌⊎◌, inl, inr}
use mathlib.Core.Bool.{Bool, true, false, cond, not, ◌&&◌}
use mathlib.Core.List.{List, [], ◌∷◌}
use native.Mathlib.Omega.{arith}
use borrow.Author.Tests.{eqb-true, eq-eqb, le-leb, ltb-true, ltb-false, not-true, not-false}
use lib.Dec.{leb, ltb}
use lib.ListN.{length, length-drop}
use Rattle.std.specs.Prelude.{Option, Some, None}
use Rattle.octets.specs.Lists.{Octets}
use Rattle.octets.specs.Numbers.{number_at}
use Rattle.octets.proofs.Alls.{and_right}
use Rattle.bodies.specs.Body.{state_of}
use Rattle.image.specs.Image.{version_of, body_of, valid_image}
use Rattle.image.proofs.ValidImages.{valid, spi_once}
use Rattle.association.specs.Association.{index_of}
use Rattle.numbers.specs.Numbers.{agrees}
use Rattle.association.specs.Search.{with_spi}
use Rattle.judging.specs.Answers.{first}
use Rattle.judging.specs.declared.answers.Refusal.TheVariants as answer
use Rattle.link.proofs.Leaving.{left-answer}
use Rattle.command_form.specs.Form.{front_length, tag_of, value_of, spi_named, measured}
use Rattle.procedures.specs.Procedures.{procedure_is, procedure_behind, procedures, with_tag, called}
use Rattle.procedures.specs.declared.procedure.Procedure as code
use Rattle.procedures.specs.declared.procedure.Procedure.TheVariants as procedure
use Rattle.procedures.proofs.Calling.{called_so, called_parts, called-measured, called-sized, called-long}
use Rattle.addressing.specs.Addressing.{wrong_desk, calls_none, entry_named, is_nothing}
use Rattle.commands.specs.Commanding.{tests_at, command_reply, commanded}
use Rattle.commands.proofs.Done.{spi-found, spi_missing}
use Rattle.promises.specs.Answers.{Rules, rule, no_more}
use Rattle.promises.specs.Images.{state_at, last_at, BodyRules, ImageRules}
use Rattle.promises.proofs.Answers.{Numbered, exactly, step, next-rule, last_done, differ}
use Rattle.promises.proofs.Fields.{state-at}
use Rattle.promises.proofs.Valids.{rules-kept, rules-valid, agreement, agreement_tested, named-kept, named_tested}
use Rattle.command_promises.specs.Answers.{row_in, FormRules, About, command_rules, CommandAnswers}
use Rattle.command_promises.specs.Rows.{Names}
use Rattle.command_promises.proofs.Refusals.{command_refusals}
use Rattle.command_promises.proofs.Rows.{Fits, row_fits, no_size}
use Rattle.command_promises.proofs.Seats.{seat_kept, seat_tested}
use Rattle.command_promises.proofs.Shifted.{shifted}

-- ---- 13: the form

module _ (command : List ℕ) where
  abbrev size : ℕ
  size = length (value_of command)

  whole : front_length ≤ length command → length command ≡ 3 + size
  whole h = omega (arith, length-drop front_length command)

  field-measured : FormRules command → measured command ≡ true
  field-measured f =
      let long : front_length ≤ length command = omega (arith, f.field) in
      ap₂_and (le-leb front_length (length command) long)
      (eq-eqb (number_at 1 2 command) size (omega (arith, f.field, length-drop front_length command)))
    where
      ap₂_and : {a b : Bool} → a ≡ true → b ≡ true → (a && b) ≡ true
      ap₂_and p q = rw (p, q)

  formed : (p : code.Procedure) → called command ≡ Some p → FormRules command
  formed p c =
      let long = called-long command p c in
      let counts = eqb-true (number_at 1 2 command) size (and_right (leb front_length (length command)) _ (called-measured command p c)) in
      record {
        field = whole long ∙ ap (λ (n : ℕ). 3 + n) (sym counts);
        size = rw (whole long) ((row_fits (tag_of command) p (called_parts command p c).0).sized size (called-sized command p c));
      }

  -- a command of that form calls one
  calls_some : FormRules command → called command ≡ None → ⊥
  calls_some f none = by-tag (with_tag (tag_of command) procedures) refl
    where
      long : front_length ≤ length command
      long = omega (arith, f.field)

      by-tag : (x : Option code.Procedure) → with_tag (tag_of command) procedures ≡ x → ⊥
      by-tag (Some p) e =
          let sized = (row_fits (tag_of command) p e).sizes size (rw (whole long) at f.size) in
          let so = called_so command p e (rw (field-measured f, sized)) in
          let z : ◌≡◌ {A = ℕ} 0 1 = cc in
          omega arith
      by-tag None e = no_size (tag_of command) (length command) e f.size

-- ---- 14: the entry

-- a procedure that names none asks nothing of state and value
silent : (p : code.Procedure) → (procedure_is p).names ≡ false → (state version : ℕ) (body : List ℕ) (last : ℕ) (value : List ℕ)
    → ((procedure_is p).asks state ≡ true) × ((procedure_is p).allows version body last value ≡ true)
silent procedure.Start e state version body last value = let z : ◌≡◌ {A = ℕ} 0 1 = cc in absurd (omega arith)
silent procedure.Stop e state version body last value = let z : ◌≡◌ {A = ℕ} 0 1 = cc in absurd (omega arith)
silent procedure.Rekey e state version body last value = let z : ◌≡◌ {A = ℕ} 0 1 = cc in absurd (omega arith)
silent procedure.Expire e state version body last value = let z : ◌≡◌ {A = ℕ} 0 1 = cc in absurd (omega arith)
silent procedure.SetNumber e state version body last value = let z : ◌≡◌ {A = ℕ} 0 1 = cc in absurd (omega arith)
silent procedure.SetWindow e state version body last value = let z : ◌≡◌ {A = ℕ} 0 1 = cc in absurd (omega arith)
silent procedure.Status e state version body last value = let z : ◌≡◌ {A = ℕ} 0 1 = cc in absurd (omega arith)
silent procedure.ReadNumber e state version body last value = let z : ◌≡◌ {A = ℕ} 0 1 = cc in absurd (omega arith)
silent procedure.Ping e state version body last value = (refl, refl)
silent procedure.Activation e state version body last value = (refl, refl)
silent procedure.Deactivation e state version body last value = (refl, refl)
silent procedure.Inventory e state version body last value = (refl, refl)

-- and its key does not depend on an entry
entryless : (p : code.Procedure) → (procedure_is p).names ≡ false → (image value : List ℕ) (d e : ℕ)
    → ((procedure_is p).knows image d value ≡ (procedure_is p).knows image e value) × ((procedure_is p).ready image d value ≡ (procedure_is p).ready image e value)
entryless procedure.Start n image value d e = let z : ◌≡◌ {A = ℕ} 0 1 = cc in absurd (omega arith)
entryless procedure.Stop n image value d e = (refl, refl)
entryless procedure.Rekey n image value d e = (refl, refl)
entryless procedure.Expire n image value d e = (refl, refl)
entryless procedure.SetNumber n image value d e = (refl, refl)
entryless procedure.SetWindow n image value d e = (refl, refl)
entryless procedure.Status n image value d e = (refl, refl)
entryless procedure.ReadNumber n image value d e = (refl, refl)
entryless procedure.Ping n image value d e = (refl, refl)
entryless procedure.Activation n image value d e = (refl, refl)
entryless procedure.Deactivation n image value d e = (refl, refl)
entryless procedure.Inventory n image value d e = (refl, refl)

-- ---- the rules behind the entry

abbrev under : List ℕ → ℕ → List ℕ → (ℕ → Type 0) → Type 0
under image desk command kept = (e : ℕ) → About image desk command e → kept e

abbrev behind : List ℕ → List ℕ → ℕ → List ℕ → List ℕ → Rules
behind image numbers desk command output =
    rule answer.WrongState (under image desk command (λ e. (row_in command).State (state_at image e)))
    (rule answer.BadValue (under image desk command ((row_in command).Value image numbers command))
    (rule answer.UnknownKey (under image desk command ((row_in command).Known image command))
    (rule answer.WrongKeyState (under image desk command ((row_in command).Ready image command))
    (rule answer.NoRoom ((row_in command).reply image command ≤ length output) no_more))))

module _ (image numbers : List ℕ) (desk : ℕ) (command output : List ℕ) (octets : Octets image) (rules : ImageRules image) (p : code.Procedure)
    (c : called command ≡ Some p) where
  abbrev value : List ℕ
  value = value_of command

  row : Fits (procedure_is p) (row_in command)
  row = row_fits (tag_of command) p (called_parts command p c).0

  passed : valid_image image ≡ true
  passed = rules-valid image octets rules

  spi-shifted : spi_named value ≡ number_at 3 2 command
  spi-shifted = shifted command 0 2

  -- in a valid image one entry has the SPI
  once : (d e : ℕ) → Names image desk command d → Names image desk command e → d ≡ e
  once d e a b = spi_once image (valid image passed) d e a.entry b.entry (a.spi ∙ sym b.spi)

  abbrev room : ℕ
  room = length output

  abbrev replied : ℕ → ℕ
  replied d = length ((procedure_is p).reply image d (last_at numbers d) value)

  long : front_length ≤ length command
  long = called-long command p c

  roomy : (d : ℕ) → Numbered (rule answer.NoRoom ((row_in command).reply image command ≤ room) no_more) (first ((6, ltb room (replied d)) ∷ []))
  roomy d =
      let same = row.replies image command d (last_at numbers d) in
      next-rule answer.NoRoom (ltb room (replied d)) _ _ _
      (λ t r. omega (arith, ltb-true room (replied d) t))
      (λ t. omega (arith, ltb-false room (replied d) t))
      last_done

  -- what is asked at an entry that the command is about, if what holds of it holds of each
  rest : (d : ℕ) → ((procedure_is p).names ≡ true → BodyRules image d) → About image desk command d
      → ((e : ℕ) → About image desk command e → (e ≡ d) ⊎ ((procedure_is p).names ≡ false))
      → Numbered (behind image numbers desk command output) (first (tests_at (procedure_is p) image numbers d value room))
  rest d body about all =
      let asked : Bool = (procedure_is p).asks (state_of (body_of image d)) in
      next-rule answer.WrongState (not asked) _ _ _
      (λ t r. differ asked (ap (procedure_is p).asks (state-at image d) ∙ row.asks (state_at image d) (r d about)) (not-true asked t))
      (λ t e m. states t e (all e m))
      (let allowed : Bool = (procedure_is p).allows (version_of image) (body_of image d) (last_at numbers d) value in
      next-rule answer.BadValue (not allowed) _ _ _
      (λ t r. differ allowed (row.allows image numbers command d body long (r d about)) (not-true allowed t))
      (λ t e m. values t e (all e m))
      (let known : Bool = (procedure_is p).knows image d value in
      next-rule answer.UnknownKey (not known) _ _ _
      (λ t r. differ known (row.knows image command d passed (r d about)) (not-true known t))
      (λ t e m. row.known image command e passed ((keys-same e (all e m)).0 ∙ not-false known t))
      (let ready : Bool = (procedure_is p).ready image d value in
      next-rule answer.WrongKeyState (not ready) _ _ _
      (λ t r. differ ready (row.readies image command d passed (r d about)) (not-true ready t))
      (λ t e m. row.readied image command e passed ((keys-same e (all e m)).1 ∙ not-false ready t))
      (roomy d))))
    where
      states : not ((procedure_is p).asks (state_of (body_of image d))) ≡ false → (e : ℕ) → (e ≡ d) ⊎ ((procedure_is p).names ≡ false)
          → (row_in command).State (state_at image e)
      states t e (inl own) =
          rw own
          (subst (row_in command).State (state-at image d)
          (row.asked (state_of (body_of image d)) (not-false ((procedure_is p).asks (state_of (body_of image d))) t)))
      states t e (inr none) = row.asked (state_at image e) (silent p none (state_at image e) 0 [] 0 []).0

      values : not ((procedure_is p).allows (version_of image) (body_of image d) (last_at numbers d) value) ≡ false
          → (e : ℕ) → (e ≡ d) ⊎ ((procedure_is p).names ≡ false) → (row_in command).Value image numbers command e
      values t e (inl own) =
          rw own
          (row.allowed image numbers command d body long
          (not-false ((procedure_is p).allows (version_of image) (body_of image d) (last_at numbers d) value) t))
      values t e (inr none) =
          row.allowed image numbers command e (λ named. absurd (differ (procedure_is p).names named none)) long
          (silent p none 0 (version_of image) (body_of image e) (last_at numbers e) value).1

      keys-same : (e : ℕ) → (e ≡ d) ⊎ ((procedure_is p).names ≡ false)
          → ((procedure_is p).knows image e value ≡ (procedure_is p).knows image d value) × ((procedure_is p).ready image e value ≡ (procedure_is p).ready image d value)
      keys-same e (inl own) = rw own (refl, refl)
      keys-same e (inr none) = entryless p none image value e d

  abbrev Entry : Type 0
  Entry = (e : ℕ) × About image desk command e

  abbrev after-form : Option ℕ → ℕ
  after-form x = first ((14, is_nothing x) ∷ tests_at (procedure_is p) image numbers (index_of x) value room)

  by-found : (procedure_is p).names ≡ true → (x : Option ℕ) → with_spi image desk (spi_named value) ≡ x
      → Numbered (rule answer.UnknownSpi Entry (behind image numbers desk command output)) (after-form x)
  by-found n (Some d) e =
      let f = spi-found image desk (spi_named value) d e in
      let has = named-kept image desk (spi_named value) d f.1 in
      let names : Names image desk command d = record { entry = f.0; spi = has.0 ∙ spi-shifted; seen = has.1 } in
      next-rule answer.UnknownSpi false _ Entry _ (λ t k. differ false t refl) (λ t. (d, λ so. names))
      (rest d (λ named. rules.body d f.0) (λ so. names) (λ k m. inl (once k d (m (sym row.named ∙ n)) names)))
  by-found n None e =
      step answer.UnknownSpi true _ Entry _ (λ t. missing) (λ t. absurd (differ true refl t))
    where
      missing : Entry → ⊥
      missing (d, about) =
          let names = about (sym row.named ∙ n) in
          differ _ (named_tested image desk (spi_named value) d (names.spi ∙ sym spi-shifted) names.seen)
          (spi_missing image desk (spi_named value) e d names.entry)

  entry-rules : Numbered (rule answer.UnknownSpi Entry (behind image numbers desk command output)) (after-form (entry_named (procedure_is p) image desk value))
  unfolding entry_named
  entry-rules = by_names (procedure_is p).names refl
    where
      by_names : (t : Bool) → (procedure_is p).names ≡ t
          → Numbered (rule answer.UnknownSpi Entry (behind image numbers desk command output))
          (after-form (cond t (with_spi image desk (spi_named value)) (Some 0)))
      by_names true n = by-found n (with_spi image desk (spi_named value)) refl
      by_names false n =
          let about : About image desk command 0 = λ so. absurd (differ (procedure_is p).names (row.named ∙ so) n) in
          next-rule answer.UnknownSpi false _ Entry _ (λ t k. differ false t refl) (λ t. (0, about)) (rest 0 (λ named. absurd (differ (procedure_is p).names named n)) about (λ e m. inr n))

-- ---- all of them, in their order

module _ (image numbers : List ℕ) (desk : ℕ) (command output : List ℕ) (octets : Octets image) where
  command-rules : Numbered (command_rules image numbers desk command output) (command_reply image numbers desk command (length output)).answer
  unfolding command_reply
  command-rules =
      step answer.BadImage (not (valid_image image)) _ _ _
      (λ t k. differ _ (rules-valid image octets k) (not-true (valid_image image) t))
      (λ t1.
      let rules = rules-kept image octets (not-false (valid_image image) t1) in (
        rules,
        next-rule answer.BadMarks (not (agrees image numbers)) _ _ _
            (λ t k. differ _ (agreement_tested image numbers octets k) (not-true (agrees image numbers) t))
            (λ t. agreement image numbers octets (not-false (agrees image numbers) t))
            (next-rule answer.WrongDesk (wrong_desk desk command) _ _ _
            (λ t k. differ (wrong_desk desk command) t (seat_tested desk command k))
            (λ t. seat_kept desk command t)
            (by-called rules (called command) refl)),
      ))
    where
      by-called : ImageRules image → (x : Option code.Procedure) → called command ≡ x
          → Numbered
          (rule answer.BadCommand (FormRules command)
          (rule answer.UnknownSpi ((e : ℕ) × About image desk command e) (behind image numbers desk command output)))
          (first
          ((13, calls_none x)
          ∷ (14, is_nothing (entry_named (procedure_behind x) image desk (value_of command)))
          ∷ tests_at (procedure_behind x) image numbers (index_of (entry_named (procedure_behind x) image desk (value_of command))) (value_of command) (length output)))
      by-called rules (Some p) c =
          next-rule answer.BadCommand false _ (FormRules command) _ (λ t k. differ false t refl) (λ t. formed command p c)
          (entry-rules image numbers desk command output octets rules p c)
      by-called rules None c =
          step answer.BadCommand true _ (FormRules command) _ (λ t f. calls_some command f c) (λ t. absurd (differ true refl t))

pub command_answers : CommandAnswers
unfolding commanded
command_answers =
    record {
      commanding = λ image numbers desk command output octets.
          exactly (command_rules image numbers desk command output) (commanded image numbers desk command output)
          (λ refuse. let u = command_refusals.whole image numbers desk command output refuse in (u.length, u.stores)) refl
          (rw (left-answer (command_reply image numbers desk command (length output)) image numbers output)
          (command-rules image numbers desk command output octets));
    }
