-- A command in two runs: for an entry that the desk owns it is decided alike, and makes the same stores; and to the desk itself it answers
-- the same.
-- Assumes nothing.
use Prim.Native.Nat.{ℕ, ◌≤◌, ◌<◌}
use mathlib.Core.Path.{◌≡◌, refl, sym, ap, ◌∙◌}
use mathlib.Core.Logic.{◌⊎◌, inl, inr}
use mathlib.Core.Bool.{Bool, true, false, true≢false}
use mathlib.Core.List.{List}
use native.Mathlib.Omega.{arith}
use lib.ListN.{length}
use lib.Seq.{take-nil, get_or-set_other}
use Rattle.std.specs.Prelude.{Option, Some, None}
use Rattle.octets.specs.Lists.{octet, Octets}
use Rattle.octets.specs.Numbers.{number_at}
use Rattle.marks.specs.Stores.{stored}
use Rattle.marks.specs.declared.plans.Store.{Store}
use Rattle.keys.specs.Keys.{key_state_place}
use Rattle.image.specs.Image.{version_of, body_at, part_at, key_with, valid_image}
use Rattle.numbers.specs.Numbers.{agrees}
use Rattle.numbers.specs.Stores.{stores_for}
use Rattle.association.specs.Search.{has_spi, with_spi}
use Rattle.judging.specs.Answers.{first}
use Rattle.judging.specs.Replies.{Reply}
use Rattle.command_form.specs.Form.{value_of, spi_named}
use Rattle.procedures.specs.Procedures.{key_state_in, procedure_is, called}
use Rattle.procedures.specs.declared.procedure.Procedure as code
use Rattle.procedures.specs.declared.procedure.Procedure.TheVariants as procedure
use Rattle.procedures.proofs.Calling.{called_parts}
use Rattle.command_form.specs.Form.{tag_of}
use Rattle.commands.specs.Commanding.{command_reply, commanded}
use Rattle.commands.specs.Steps.{reply_under}
use Rattle.commands.proofs.Doing.{does}
use Rattle.commands.proofs.Done as deciding
use Rattle.commands.proofs.Done.{Where, nowhere, turning, spi-found, spi_missing}
use Rattle.commands.proofs.Managed.{Managed, first_of_one}
use Rattle.promises.specs.Images.{version_in, shape_in, count_in, place, owner_at, last_at, Sees}
use Rattle.promises.specs.Isolation.{SameAnswer}
use Rattle.promises.specs.Versions.{Shape}
use Rattle.promises.proofs.Fields.{shapes, stands, part-place}
use Rattle.promises.proofs.Stored.{outside}
use Rattle.promises.proofs.Valids.{named-kept, named_tested}
use Rattle.command_promises.specs.Answers.{row_in}
use Rattle.command_promises.specs.Isolation.{SameNamed, both, neither, none, SameKeys}
use Rattle.command_promises.specs.Rows.{Names}
use Rattle.command_promises.proofs.Isolation.{command_isolation, reply-at, named-at, at_both}
use Rattle.command_promises.proofs.Rows.{Fits, row_fits}
use Rattle.command_promises.proofs.Seats.{not_key}
use Rattle.command_promises.proofs.Shifted.{shifted}
use Rattle.desks.proofs.Both.{Both, frame, back, standing, standing_there}
use Rattle.desks.proofs.Calls.{Acts, at, aside, Twin}
use Rattle.desks.proofs.Frames.{refused-alike}
use Rattle.desks.proofs.Reading.{spi-same, body_same, at_same, raises_same, keys-same, id_same, state-same}
use Rattle.desks.proofs.Shared.{shape_four, Touches}

-- ---- what it touches

-- the entry that a command names, and the procedure that it calls
pub record Calling (s : List ℕ) (desk : ℕ) (c : List ℕ) (e : ℕ) : Type 0 where
  pub procedure : code.Procedure
  pub calls : called c ≡ Some procedure
  pub naming : (procedure_is procedure).names ≡ true
  pub names : Names s desk c e

module _ (s : List ℕ) (four : version_in s ≡ 4) where
  managed_touches : (e : ℕ) (t : List ℕ) → Managed s e t → Touches s e t
  managed_touches e t m = record { size = m.long; outside = λ p side. by_side p side }
    where
      base : body_at s e ≡ place s e 0
      base = omega (arith, stands s e 0)

      by_side : (p : ℕ) → (p < place s e 0) ⊎ (place s e 22 ≤ p) → octet t p ≡ octet s p
      by_side p (inl h) =
          let k = (shapes (version_in s)).key in
          m.fixed p
          (record {
            state = λ q. omega (arith, base);
            high = λ q. omega (arith, base);
            low = λ q. omega (arith, base);
            id = λ has. (λ q. omega (arith, base), λ q. omega (arith, base));
            mark = outside s e p (inl (omega arith));
          })
      by_side p (inr h) =
          let k = (shapes (version_in s)).key in
          let mark : (shape_in s).mark ≡ 18 = ap (λ (x : Shape). x.mark) (shape_four s four) in
          m.fixed p
          (record {
            state = λ q. omega (arith, base);
            high = λ q. omega (arith, base);
            low = λ q. omega (arith, base);
            id = λ has. (λ q. omega (arith, base), λ q. omega (arith, base));
            mark = outside s e p (inr (omega arith));
          })

  module _ (l : List ℕ) (octets : Octets s) (thirty_two : length l ≡ 32) (desk : ℕ) (c output : List ℕ) (spoken : Octets c) where
    abbrev q : Reply
    q = command_reply s l desk c (length output)

    by_where : Where s l desk c q → Acts s l (Calling s desk c) q
    unfolding stored
    by_where (deciding.at p i calls named listed has ready is) =
        let n = named-kept s desk (spi_named (value_of c)) i has in
        at i listed
        (record { procedure = p; calls = calls; naming = named; names = record { entry = listed; spi = n.0 ∙ shifted c 0 2; seen = n.1 } })
        (ap (λ (x : Reply). x.entry) is)
        (λ j. rw is (managed_touches i _ ((does p s l i (value_of c) named ready).after j)))
    by_where (nowhere empty stays) = aside (λ j p h. rw (empty, take-nil {A = Store} j) refl) stays
    by_where (turning id state one turns stays) =
        aside
        (λ j p h.
        rw one
        (first_of_one (λ (t : List ℕ). octet t p ≡ octet s p) s (key_state_in s id state) refl
        (get_or-set_other s (key_state_place (part_at s) (key_with s id)) p state 0 (λ e. omega (arith, part-place s))) j))
        stays

    pub command_acts : q.answer ≡ 0 → Acts s l (Calling s desk c) q
    command_acts z =
        by_where (deciding.place s l desk c (length output) octets spoken thirty_two (deciding.done s l desk c (length output) z))

-- ---- the same entry, and the same keys

module _ (d : ℕ) (s l t r : List ℕ) (b : Both d s l t r) (desk : ℕ) (c : List ℕ) where
  names-there : (e : ℕ) → Names s desk c e → Names t desk c e
  names-there e n =
      record {
        entry = rw (frame b).count n.entry;
        spi = spi-same d s t b.four b.same e n.entry ∙ n.spi;
        seen = by_sight n.seen;
      }
    where
      by_sight : Sees s desk e → Sees t desk e
      by_sight (inl office) = inl office
      by_sight (inr own) = inr ((frame b).owner e n.entry ∙ own)

  same_keys : (desk ≡ 0 → octet c 0 ≡ 0x03 → ⊥) → SameKeys s t desk c
  same_keys free =
      record {
        count = sym (keys-same d s t b.four b.same);
        ids = λ k h. sym (id_same d s t b.four b.same k);
        states = λ k h. sym (state-same d s t b.four b.same k);
        here = λ office tag. absurd (free office tag);
        there = λ office tag. absurd (free office tag);
      }

  owned : 1 ≤ d → desk ≡ d → (e : ℕ) → Names s desk c e → owner_at s e ≡ d
  owned some is e n = by_sight n.seen
    where
      by_sight : Sees s desk e → owner_at s e ≡ d
      by_sight (inl office) = absurd (omega arith)
      by_sight (inr own) = own ∙ is

-- ---- decided alike, and with the same stores

-- of a procedure that names an association
plan_same : (p : code.Procedure) → (procedure_is p).names ≡ true → (s t : List ℕ) (e n : ℕ) (value : List ℕ) → version_of t ≡ version_of s
    → body_at t e ≡ body_at s e → stores_for t e n ≡ stores_for s e n → (procedure_is p).stores t e n value ≡ (procedure_is p).stores s e n value
plan_same procedure.Start named s t e n value version place raises = rw place refl
plan_same procedure.Stop named s t e n value version place raises = rw place refl
plan_same procedure.Rekey named s t e n value version place raises = rw (version, place) refl
plan_same procedure.Expire named s t e n value version place raises = rw place refl
plan_same procedure.SetNumber named s t e n value version place raises = raises
plan_same procedure.SetWindow named s t e n value version place raises = rw place refl
plan_same procedure.Status named s t e n value version place raises = refl
plan_same procedure.ReadNumber named s t e n value version place raises = refl
plan_same procedure.Ping named s t e n value version place raises = refl
plan_same procedure.Activation named s t e n value version place raises = absurd (true≢false (sym named))
plan_same procedure.Deactivation named s t e n value version place raises = absurd (true≢false (sym named))
plan_same procedure.Inventory named s t e n value version place raises = refl

module _ (d : ℕ) (s l t r : List ℕ) (b : Both d s l t r) (desk : ℕ) (c output : List ℕ) where
  pub command_twin : (command_reply s l desk c (length output)).answer ≡ 0 → (e : ℕ) → e < count_in s → Calling s desk c e → owner_at s e ≡ d
      → Twin (command_reply s l desk c (length output)) (command_reply t r desk c (length output))
  command_twin z e below ev own =
      let done = deciding.done s l desk c (length output) z in
      let here = standing b done.agree in
      let there = standing_there b done.agree in
      let room = length output in
      let p = ev.procedure in
      let value = value_of c in
      let names = ev.names in
      let others = names-there d s l t r b desk c e names in
      let row : Fits (procedure_is p) (row_in c) = row_fits (tag_of c) p (called_parts c p ev.calls).0 in
      let keys = same_keys d s l t r b desk c (λ office tag. not_key c (sym row.named ∙ ev.naming) (inr (inl tag))) in
      let one : command_reply s l desk c room ≡ reply_under p s l e value room =
      reply-at s l desk c room here done.seated p ev.calls e (named-at s l desk c room here done.seated p ev.calls ev.naming e names)
      in
      let two : command_reply t r desk c room ≡ reply_under p t r e value room =
      reply-at t r desk c room there done.seated p ev.calls e (named-at t r desk c room there done.seated p ev.calls ev.naming e others)
      in
      let number : last_at r e ≡ last_at l e = b.numbers e below own in
      let alike =
      at_both s l t r desk c room here there p ev.naming keys e e below others.entry (sym (frame b).version)
      (body_same d s t b.four b.same e own) (sym number)
      in
      let n : ℕ = (procedure_is p).number (last_at l e) value in
      let plan : (procedure_is p).stores t e n value ≡ (procedure_is p).stores s e n value =
      plan_same p ev.naming s t e n value (frame b).version (at_same d s t b.four b.same e own)
      (raises_same d s t b.four b.same e own b.passed b.passed_there n)
      in
      let twin : Twin (reply_under p s l e value room) (reply_under p t r e value room) =
      record {
        answer = sym alike.answer;
        entry = refl;
        number = ap (λ (k : ℕ). (procedure_is p).number k value) number;
        stores = ap (λ (k : ℕ). (procedure_is p).stores t e ((procedure_is p).number k value) value) number ∙ plan;
      }
      in
      rw (one, two) twin

-- ---- the answers to the desk

command-two : (s l : List ℕ) (desk : ℕ) (c : List ℕ) (room : ℕ) → valid_image s ≡ true → agrees s l ≡ false
    → (command_reply s l desk c room).answer ≡ 2
unfolding command_reply first
command-two s l desk c room passed disagrees = rw (passed, disagrees)

module _ (d : ℕ) (s l t r : List ℕ) (b : Both d s l t r) (desk : ℕ) (c output : List ℕ) (some : 1 ≤ d) (is : desk ≡ d) where
  abbrev spi : ℕ
  spi = number_at 3 2 c

  differs : (x : Bool) → x ≡ true → x ≡ false → ⊥
  differs x p q = true≢false (sym p ∙ q)

  found_alike : SameNamed s l t r desk c
  found_alike = by_row (row_in c).names refl
    where
      by-found : (f : Option ℕ) → with_spi s desk spi ≡ f → SameNamed s l t r desk c
      by-found (Some i) e =
          let f = spi-found s desk spi i e in
          let n = named-kept s desk spi i f.1 in
          let names : Names s desk c i = record { entry = f.0; spi = n.0; seen = n.1 } in
          let own = owned d s l t r b desk c some is i names in
          both i i names (names-there d s l t r b desk c i names) (sym (frame b).version) (body_same d s t b.four b.same i own)
          (sym (b.numbers i f.0 own))
      by-found None e =
          neither
          (λ i n. differs (has_spi s desk spi i) (named_tested s desk spi i n.spi n.seen) (spi_missing s desk spi e i n.entry))
          (λ j m.
          let n = names-there d t r s l (back b) desk c j m in
          differs (has_spi s desk spi j) (named_tested s desk spi j n.spi n.seen) (spi_missing s desk spi e j n.entry))

      by_row : (named : Bool) → (row_in c).names ≡ named → SameNamed s l t r desk c
      by_row true e = by-found (with_spi s desk spi) refl
      by_row false e = none e

  command-refused : agrees s l ≡ false → SameAnswer (commanded s l desk c output) (commanded t r desk c output)
  unfolding commanded
  command-refused e =
      refused-alike (command_reply s l desk c (length output)) (command_reply t r desk c (length output)) 2 s l t r output (omega arith)
      (command-two s l desk c (length output) b.passed e)
      (command-two t r desk c (length output) b.passed_there (b.agree ∙ e))

  pub command-answered : SameAnswer (commanded s l desk c output) (commanded t r desk c output)
  command-answered = by_agreement (agrees s l) refl
    where
      by_agreement : (a : Bool) → agrees s l ≡ a → SameAnswer (commanded s l desk c output) (commanded t r desk c output)
      by_agreement true e =
          command_isolation.commanding s l t r desk c output output (standing b e) (standing_there b e) refl found_alike
          (same_keys d s l t r b desk c (λ office tag. omega arith))
      by_agreement false e = command-refused e
