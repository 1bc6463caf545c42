-- What a command that answers 0 leaves: its stores are those of its procedure's record, at the entry that it names.
-- Assumes nothing.
use Prim.Native.Nat.{ℕ, ◌+◌, ◌-◌, ◌/◌, ◌≤◌, min}
use mathlib.Core.Path.{◌≡◌, refl, sym, ap, ap₂, subst, ◌∙◌}
use mathlib.Core.Bool.{Bool, true, false, cond}
use mathlib.Core.List.{List, [], ◌∷◌, ◌++◌}
use native.Mathlib.Omega.{arith}
use lib.ListN.{length, set, take}
use lib.Seq.{take-length, take-nil, get_or-drop, set-get_or}
use Rattle.std.specs.Prelude.{Some}
use Rattle.octets.specs.Lists.{octet, Octets}
use Rattle.octets.specs.Numbers.{bytes}
use Rattle.marks.specs.Gray.{gray}
use Rattle.marks.specs.Stores.{stored}
use Rattle.marks.specs.declared.plans.Store.{Store}
use Rattle.keys.specs.Keys.{key_state_place}
use Rattle.image.specs.Image.{version_of, body_at, mark_in, part_at, key_with, valid_image}
use Rattle.image.proofs.ValidImages.{valid}
use Rattle.numbers.specs.Stores.{stores_for, after_stores}
use Rattle.association.specs.Search.{with_spi}
use Rattle.numbers.proofs.AfterStores.{Raised, raised, after-all}
use Rattle.numbers.proofs.LoadedNumbers.{agreed}
use Rattle.judging.specs.Replies.{Reply}
use Rattle.link.specs.Calls as link
use Rattle.link.proofs.Leaving.{left-answer, left-done, cut-done}
use Rattle.command_form.specs.Form as asked
use Rattle.command_form.specs.Form.{front_length, value_of, spi_named, number_asked}
use Rattle.procedures.specs.Procedures.{key_state_in, procedure_is, procedures, with_tag, set_number}
use Rattle.procedures.specs.declared.procedure.Procedure as code
use Rattle.procedures.specs.declared.procedure.Procedure.TheVariants as procedure
use Rattle.procedures.proofs.Calling.{called_parts}
use Rattle.addressing.specs.Addressing.{entry_named}
use Rattle.commands.specs.Commanding.{reply_at, command_reply, commanded, commanded_cut}
use Rattle.commands.proofs.Accepting.{Accepts}
use Rattle.commands.proofs.Doing.{Ready, stores_of, number_for, does, accepted_number, raises_count}
use Rattle.commands.proofs.Done.{Done, done, Where, at, nowhere, turning, spi-at}
use Rattle.commands.proofs.Done as deciding
use Rattle.commands.proofs.Managed.{Managed, first_of_one}
use Rattle.commands.proofs.Turning.{turned_valid, turned_octets}
use Rattle.promises.specs.Images.{shape_in, place, spi_at, key_at, HasId, last_at, Agreeing}
use Rattle.promises.specs.Leaves.{MarkAlone}
use Rattle.promises.proofs.Fields.{shapes, stands, state-at, key-place}
use Rattle.promises.proofs.Stored.{outside}
use Rattle.promises.proofs.Valids.{code_of_mark, rules-kept, agreement, named_tested}
use Rattle.command_promises.specs.Leaves.{Lawfully, Leaves, SetsNumber, LeavesAt, CommandLeaving, writes, renames, inventory_reply}
use Rattle.command_promises.proofs.Inventories.{inventory-is}
use Rattle.command_promises.specs.Rows.{Names, key_named}
use Rattle.command_promises.proofs.NamedKeys.{index_is, turned_image, turned_agrees}
use Rattle.command_promises.proofs.Shifted.{shifted}

-- ---- from what is decided to what is left

module _ (image numbers : List ℕ) (desk : ℕ) (c output : List ℕ) (z : (commanded image numbers desk c output).answer ≡ 0) where
  abbrev q : Reply
  q = command_reply image numbers desk c (length output)

  pub decided_so : q.answer ≡ 0
  unfolding commanded
  decided_so = sym (left-answer q image numbers output) ∙ z

  pub is-done : Done image numbers desk c (length output)
  is-done = done image numbers desk c (length output) decided_so

  pub passed : valid_image image ≡ true
  passed = is-done.valid

  pub carried : commanded image numbers desk c output ≡ link.done q image numbers output
  unfolding commanded
  carried = left-done q image numbers output decided_so

  pub carried_cut : (j : ℕ) → commanded_cut image numbers desk c output j ≡ stored image (take j q.stores)
  unfolding commanded_cut
  carried_cut j = cut-done q image j decided_so

  leaves : (stores : List Store) (last reply : List ℕ) → q.stores ≡ stores → set numbers q.entry q.number ≡ last → q.result ≡ reply
      → Leaves image numbers desk c output stores last reply
  leaves stores last reply s l r =
      let sized : q.size ≡ length q.result = rw is-done.reply refl in
      record {
        whole = rw (carried, s) refl;
        cut = λ j. rw (carried_cut j, s) refl;
        count = rw (carried, s) refl;
        lasts = rw (carried, l) refl;
        size = rw (carried, sized, r) refl;
        outputs = rw (carried, sized, r) refl;
      }

  -- the procedure by its tag
  procedure-is : (r : code.Procedure) → with_tag (procedure_is r).tag procedures ≡ Some r → octet c 0 ≡ (procedure_is r).tag
      → is-done.procedure ≡ r
  procedure-is r w t =
      let a = (called_parts c is-done.procedure is-done.calls).0 in
      let b : Some is-done.procedure ≡ Some r =
      sym a ∙ ap (λ (n : ℕ). with_tag n procedures) t ∙ w in
      cc

  -- ---- whatever the command

  module _ (octets : Octets image) (spoken : Octets c) (thirty_two : length numbers ≡ 32) where
    pub where_done : Where image numbers desk c q
    where_done = deciding.place image numbers desk c (length output) octets spoken thirty_two is-done

    pub cut_managed : (j : ℕ) → Where image numbers desk c q
        → (valid_image (stored image (take j q.stores)) ≡ true) × Octets (stored image (take j q.stores))
    unfolding stored
    cut_managed j (at p i calls named listed spi ready is) =
        let m = (does p image numbers i (value_of c) named ready).after j in
        rw is (m.valid, m.octets)
    cut_managed j (nowhere none same) = rw (none, take-nil {A = Store} j) (passed, octets)
    cut_managed j (turning id state one turns same) =
        rw one
        (first_of_one (λ (t : List ℕ). (valid_image t ≡ true) × Octets t) image (key_state_in image id state) (passed, octets)
        (turned_valid image id state turns, turned_octets image id state turns octets) j)

    whole_managed : (valid_image (stored image q.stores) ≡ true) × Octets (stored image q.stores)
    whole_managed = rw (take-length q.stores) at (cut_managed (length q.stores) where_done)

    whole-agrees : Where image numbers desk c q → Agreeing (stored image q.stores) (set numbers q.entry q.number)
    unfolding stored
    whole-agrees (at p i calls named listed spi ready is) =
        let w = does p image numbers i (value_of c) named ready in
        let stores : List Store = stores_of (procedure_is p) image numbers i (value_of c) in
        let m : Managed image i (stored image stores) = rw (take-length stores) at (w.after (length stores)) in
        rw is (agreement (stored image stores) (set numbers i (number_for (procedure_is p) numbers i (value_of c))) m.octets w.agree)
    whole-agrees (nowhere none same) = rw (none, same) (agreement image numbers octets is-done.agree)
    whole-agrees (turning id state one turns same) =
        rw (one, same)
        (agreement (turned_image image id state) numbers (turned_octets image id state turns octets)
        (turned_agrees image numbers id state turns is-done.agree))

    few : Where image numbers desk c q → length q.stores ≤ 16
    few (at p i calls named listed spi ready is) = rw is (does p image numbers i (value_of c) named ready).few
    few (nowhere none same) = rw none (omega arith)
    few (turning id state one turns same) = rw one (omega arith)

    pub octets-after : Octets (commanded image numbers desk c output).image
    octets-after = rw carried whole_managed.1

    lawfully : Lawfully image numbers desk c output
    lawfully =
        record {
          valid = λ rules. rw carried (rules-kept (stored image q.stores) whole_managed.1 whole_managed.0);
          cut_valid = λ j rules.
              let m = cut_managed j where_done in rw (carried_cut j) (rules-kept (stored image (take j q.stores)) m.1 m.0);
          agree = rw carried (whole-agrees where_done);
          few = rw carried (few where_done);
        }

    -- ---- under entry e

    module _ (e : ℕ) (names : Names image desk c e) where
      spi-is : spi_at image e ≡ spi_named (value_of c)
      spi-is = names.spi ∙ sym (shifted c 0 2)

      -- the entry and the reply, of a procedure that names an association
      module _ (r : code.Procedure) (is : is-done.procedure ≡ r) (n : (procedure_is r).names ≡ true) where
        entry-is : is-done.entry ≡ e
        unfolding entry_named
        entry-is =
            let named : with_spi image desk (spi_named (value_of c)) ≡ Some is-done.entry = rw (is, n) at is-done.named in
            let here = spi-at image (valid image passed) desk (spi_named (value_of c)) e names.entry
            (named_tested image desk (spi_named (value_of c)) e spi-is names.seen)
            in
            let same : Some is-done.entry ≡ Some e = sym named ∙ here in
            cc

        pub settled : q ≡ reply_at 0 (procedure_is r) image numbers e (value_of c)
        settled =
            is-done.reply
            ∙ ap₂ (λ (x : code.Procedure) (i : ℕ). reply_at 0 (procedure_is x) image numbers i (value_of c)) is entry-is

        pub ready_at : Ready (procedure_is r) image numbers e (value_of c)
        ready_at =
            let u : Accepts (procedure_is r) image e (last_at numbers e) (value_of c) (length output) =
            subst (λ (i : ℕ). Accepts (procedure_is r) image i (last_at numbers i) (value_of c) (length output)) entry-is
            (subst
            (λ (x : code.Procedure). Accepts (procedure_is x) image is-done.entry (last_at numbers is-done.entry) (value_of c) (length output))
            is is-done.under)
            in
            record {
              valid = passed;
              octets = octets;
              thirty_two = thirty_two;
              agree = is-done.agree;
              listed = names.entry;
              octets_in = λ i. rw (get_or-drop front_length c i 0) (spoken (front_length + i));
              asked = u.asked;
              allowed = u.allowed;
              ready = u.ready;
            }

        by : (stores : List Store) (last reply : List ℕ)
            → stores_of (procedure_is r) image numbers e (value_of c) ≡ stores
            → set numbers e (number_for (procedure_is r) numbers e (value_of c)) ≡ last
            → (procedure_is r).reply image e (last_at numbers e) (value_of c) ≡ reply
            → Leaves image numbers desk c output stores last reply
        by stores last reply s l p =
            leaves stores last reply (ap (λ (x : Reply). x.stores) settled ∙ s)
            (ap (λ (x : Reply). set numbers x.entry x.number) settled ∙ l) (ap (λ (x : Reply). x.result) settled ∙ p)

      value-octet : (i : ℕ) → octet (value_of c) i ≡ octet c (3 + i)
      value-octet i = get_or-drop front_length c i 0

      -- one store of the state
      moved : (r : code.Procedure) → with_tag (procedure_is r).tag procedures ≡ Some r → (procedure_is r).names ≡ true → (state : ℕ)
          → stores_of (procedure_is r) image numbers e (value_of c) ≡ writes (body_at image e + 3) state ∷ []
          → number_for (procedure_is r) numbers e (value_of c) ≡ last_at numbers e
          → (procedure_is r).reply image e (last_at numbers e) (value_of c) ≡ []
          → octet c 0 ≡ (procedure_is r).tag → Leaves image numbers desk c output (writes (place image e 3) state ∷ []) numbers []
      moved r w n state s l p t =
          by r (procedure-is r w t) n _ _ _ (s ∙ ap (λ (a : ℕ). writes a state ∷ []) (stands image e 3))
          (ap (set numbers e) l ∙ set-get_or numbers e 0) p

      -- a rekey stores the ID of the key first, where the image has a key part
      rekey-stores : stores_of (procedure_is procedure.Rekey) image numbers e (value_of c) ≡ renames image c e ++ (writes (place image e 3) 1 ∷ [])
      rekey-stores =
          let r = shapes (version_of image) in
          rw (r.key_part, r.key, value-octet 2, value-octet 3, stands image e 3) (by_part (shape_in image).key_part)
        where
          by_part : (t : Bool)
              → cond t
              (writes (body_at image e + 16) (octet c 5) ∷ writes (body_at image e + 17) (octet c 6) ∷ writes (place image e 3) 1 ∷ [])
              (writes (place image e 3) 1 ∷ [])
              ≡ cond t (writes (place image e 16) (octet c 5) ∷ writes (place image e 17) (octet c 6) ∷ []) [] ++ (writes (place image e 3) 1 ∷ [])
          by_part true = rw (stands image e 16, stands image e 17) refl
          by_part false = refl

      -- set number
      module _ (t : octet c 0 ≡ 0x1A) (w : with_tag 0x1A procedures ≡ Some procedure.SetNumber) where
        abbrev n : ℕ
        n = number_asked (value_of c)

        so : is-done.procedure ≡ procedure.SetNumber
        so = procedure-is procedure.SetNumber w t

        ready : Ready set_number image numbers e (value_of c)
        ready = ready_at procedure.SetNumber so refl

        old : last_at numbers e / 64 ≡ mark_in image e
        old = agreed image numbers is-done.agree e names.entry

        mark-alone : (j : ℕ) → MarkAlone image e (last_at numbers e / 64 + min j (n / 64 - last_at numbers e / 64)) (after_stores image e n j)
        mark-alone j =
            let r : Raised image e (mark_in image e + min j (n / 64 - mark_in image e)) (after_stores image e n j) =
            raised image e n j passed octets names.entry (accepted_number image numbers e (value_of c) ready).fits in
            let reached : mark_in (after_stores image e n j) e ≡ last_at numbers e / 64 + min j (n / 64 - last_at numbers e / 64) =
            omega (arith, r.mark, old) in
            record {
              valid = rules-kept (after_stores image e n j) r.octets r.valid;
              size = r.long;
              elsewhere = λ p side. r.outside p (outside image e p side);
              mark = code_of_mark (after_stores image e n j) r.octets e ∙ ap gray reached;
            }

        raised_so : Leaves image numbers desk c output (stores_for image e n) (set numbers e n) []
        raised_so = by procedure.SetNumber so refl _ _ _ refl refl refl

        sets : SetsNumber image numbers desk c output e n
        unfolding after_stores
        sets =
            let m = n / 64 - last_at numbers e / 64 in
            let all : last_at numbers e / 64 + min m m ≡ n / 64 =
            omega (arith, (accepted_number image numbers e (value_of c) ready).above) in
            record {
              cut = λ j. rw (raised_so.cut j) (mark-alone j);
              whole =
                  rw (raised_so.whole, ← after-all image e n m (omega (arith, raises_count image numbers e (value_of c) ready, old)))
                  (rw all at (mark-alone m));
              count = raised_so.count ∙ omega (arith, raises_count image numbers e (value_of c) ready, old);
              lasts = raised_so.lasts;
              size = raised_so.size;
              outputs = raised_so.outputs;
            }

      at_entry : LeavesAt image numbers desk c output e
      unfolding with_tag bytes
      at_entry =
          record {
            start = moved procedure.Start refl refl 2 refl refl refl;
            stop = moved procedure.Stop refl refl 1 refl refl refl;
            rekey = λ t. by procedure.Rekey (procedure-is procedure.Rekey refl t) refl _ _ _ rekey-stores (set-get_or numbers e 0) refl;
            expire = moved procedure.Expire refl refl 0 refl refl refl;
            set_window = λ t.
                by procedure.SetWindow (procedure-is procedure.SetWindow refl t) refl _ _ _
                (rw (value-octet 2, value-octet 3, stands image e 8, stands image e 9) refl) (set-get_or numbers e 0) refl;
            status = λ t.
                by procedure.Status (procedure-is procedure.Status refl t) refl _ _ _ refl (set-get_or numbers e 0)
                (rw (← spi-is, state-at image e) refl);
            read_number = λ t.
                by procedure.ReadNumber (procedure-is procedure.ReadNumber refl t) refl _ _ _ refl (set-get_or numbers e 0)
                (rw (← spi-is) refl);
            set_number = λ t. rw (shifted c 2 12) at (sets t refl);
          }

-- ---- a question that names no association

told : (image numbers : List ℕ) (desk : ℕ) (c output : List ℕ) (z : (commanded image numbers desk c output).answer ≡ 0) (r : code.Procedure)
    → with_tag (procedure_is r).tag procedures ≡ Some r → octet c 0 ≡ (procedure_is r).tag → (reply : List ℕ)
    → ((e : ℕ) → stores_of (procedure_is r) image numbers e (value_of c) ≡ [])
    → ((e : ℕ) → number_for (procedure_is r) numbers e (value_of c) ≡ last_at numbers e)
    → ((e : ℕ) → (procedure_is r).reply image e (last_at numbers e) (value_of c) ≡ reply)
    → Leaves image numbers desk c output [] numbers reply
told image numbers desk c output z r w t reply stores number replies =
    let d = is-done image numbers desk c output z in
    let so = procedure-is image numbers desk c output z r w t in
    let e = d.entry in
    let settled = d.reply ∙ ap (λ (x : code.Procedure). reply_at 0 (procedure_is x) image numbers e (value_of c)) so in
    leaves image numbers desk c output z [] numbers reply (ap (λ (x : Reply). x.stores) settled ∙ stores e)
    (ap (λ (x : Reply). set numbers x.entry x.number) settled ∙ ap (set numbers e) (number e) ∙ set-get_or numbers e 0)
    (ap (λ (x : Reply). x.result) settled ∙ replies e)

-- ---- the state of a key

module _ (image numbers : List ℕ) (desk : ℕ) (c output : List ℕ) (k : ℕ) (has : HasId image (key_named c) k) (z : (commanded image numbers desk c output).answer ≡ 0) where
  abbrev id : ℕ
  id = asked.key_named (value_of c)

  turned : (r : code.Procedure) → with_tag (procedure_is r).tag procedures ≡ Some r → octet c 0 ≡ (procedure_is r).tag → (state : ℕ)
      → ((e : ℕ) → stores_of (procedure_is r) image numbers e (value_of c) ≡ key_state_in image id state ∷ [])
      → ((e : ℕ) → number_for (procedure_is r) numbers e (value_of c) ≡ last_at numbers e)
      → ((e l : ℕ) → (procedure_is r).reply image e l (value_of c) ≡ [])
      → Leaves image numbers desk c output (writes (key_at image k + 2) state ∷ []) numbers []
  turned r w t state stores number reply =
      let d = is-done image numbers desk c output z in
      let so = procedure-is image numbers desk c output z r w t in
      let e = d.entry in
      let settled = d.reply ∙ ap (λ (x : code.Procedure). reply_at 0 (procedure_is x) image numbers e (value_of c)) so in
      let index : key_with image id ≡ k = index_is image (passed image numbers desk c output z) id k (rw (← shifted c 0 2) at has) in
      let at : key_state_place (part_at image) (key_with image id) ≡ key_at image k + 2 =
      ap (key_state_place (part_at image)) index ∙ ap (λ (p : ℕ). p + 2) (key-place image k)
      in
      leaves image numbers desk c output z _ numbers []
      (ap (λ (x : Reply). x.stores) settled ∙ stores e ∙ ap (λ (p : ℕ). writes p state ∷ []) at)
      (ap (λ (x : Reply). set numbers x.entry x.number) settled ∙ ap (set numbers e) (number e) ∙ set-get_or numbers e 0)
      (ap (λ (x : Reply). x.result) settled ∙ reply e (last_at numbers e))

-- ---- all of them

pub command-leaving : CommandLeaving
unfolding with_tag bytes
command-leaving =
    record {
      always = λ image numbers desk c output octets spoken thirty_two z. lawfully image numbers desk c output z octets spoken thirty_two;
      named = λ image numbers desk c output e octets spoken thirty_two names z. at_entry image numbers desk c output z octets spoken thirty_two e names;
      activation = λ image numbers desk c output k has t z.
          turned image numbers desk c output k has z procedure.Activation refl t 1 (λ e. refl) (λ e. refl) (λ e l. refl);
      deactivation = λ image numbers desk c output k has t z.
          turned image numbers desk c output k has z procedure.Deactivation refl t 2 (λ e. refl) (λ e. refl) (λ e l. refl);
      ping = λ image numbers desk c output t z.
          told image numbers desk c output z procedure.Ping refl t _ (λ e. refl) (λ e. refl) (λ e. refl);
      inventory = λ image numbers desk c output t z.
          told image numbers desk c output z procedure.Inventory refl t _ (λ e. refl) (λ e. refl)
          (λ e.
          inventory-is image (asked.first_named (value_of c)) (asked.last_named (value_of c))
          ∙ ap₂ (inventory_reply image) (shifted c 0 2) (shifted c 2 2));
    }
