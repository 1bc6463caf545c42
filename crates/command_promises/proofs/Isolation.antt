-- A command reads of an image whether it is valid and agrees, and body, version and number of the entry that it names; so two images that
-- agree in these give the same answer. How many stores it makes does not depend on where the body stands.
-- Assumes nothing.
use Prim.Native.Nat.{ℕ, zero, suc, ◌+◌, ◌-◌, ◌/◌, ◌≤◌, ◌<◌}
use mathlib.Core.Logic.{inl, inr}
use mathlib.Core.Path.{◌≡◌, refl, sym, ap, ap₂, ◌∙◌}
use mathlib.Core.Bool.{Bool, true, false, cond, not, ◌&&◌, ◌||◌, true≢false}
use mathlib.Core.List.{List, [], ◌∷◌}
use native.Mathlib.Decide.{ℕ_discrete}
use native.Mathlib.Omega.{arith}
use borrow.Author.Tests.{ltb-true}
use lib.Dec.{eqb, ltb}
use lib.ListN.{length}
use Rattle.std.specs.Prelude.{Option, Some, None}
use Rattle.octets.specs.Lists.{octet}
use Rattle.bodies.specs.Body.{key_id_of, mark_of}
use Rattle.bodies.specs.Layout.{layout_of}
use Rattle.keys.specs.Keys.{key_state_at, key_in_state}
use Rattle.marks.specs.declared.plans.Store.{Store}
use Rattle.image.specs.Image.{count_of, layout, body_of, mark_in, part_at, key_count, key_with, key_in, key_id_in, valid_image}
use Rattle.image.proofs.ValidImages.{valid}
use Rattle.numbers.specs.Numbers.{agrees}
use Rattle.numbers.specs.Stores.{stores_for}
use Rattle.association.specs.Search.{with_spi}
use Rattle.judging.specs.Answers.{first}
use Rattle.judging.specs.Replies.{Reply}
use Rattle.judging.proofs.First.{stops}
use Rattle.link.specs.Calls.{left}
use Rattle.link.proofs.Carried.{counted}
use Rattle.link.proofs.Leaving.{left-done, left-refused, handed-result}
use Rattle.command_form.specs.Form as asked
use Rattle.command_form.specs.Form.{tag_of, value_of, spi_named, key_asked}
use Rattle.named_keys.specs.NamedKeys.{has_key, key_there, key_active, unserved, freed}
use Rattle.procedures.specs.Procedures.{procedure_is, called}
use Rattle.procedures.specs.declared.procedure.Procedure as code
use Rattle.procedures.specs.declared.procedure.Procedure.TheVariants as procedure
use Rattle.procedures.proofs.Calling.{called_parts, called-tag}
use Rattle.addressing.specs.Addressing.{wrong_desk, entry_named, address_tests}
use Rattle.commands.specs.Commanding.{command_reply, commanded}
use Rattle.commands.specs.Steps.{reply_under}
use Rattle.addressing.proofs.Passing.{by_19, by_13, by_14, addresses}
use Rattle.commands.proofs.Addressing.{command_under}
use Rattle.commands.proofs.Done.{spi-found, spi-at}
use Rattle.promises.specs.Images.{version_in, whole_body_at, last_at, key_count_in, key_from}
use Rattle.promises.specs.Isolation.{Standing, SameAnswer}
use Rattle.promises.proofs.Fields.{body_is, key-count, key_index_lem, key-state}
use Rattle.promises.proofs.Valids.{rules-valid, agreement_tested, named-kept, named_tested}
use Rattle.command_promises.specs.Answers.{row_in}
use Rattle.command_promises.specs.Isolation.{SameNamed, both, neither, none, SameKeys, CommandIsolation}
use Rattle.command_promises.specs.Rows.{Names, key_named}
use Rattle.command_promises.proofs.Inventories.{inventory-is, same-inventory}
use Rattle.command_promises.proofs.NamedKeys.{unserved_so, so_unserved}
use Rattle.command_promises.proofs.Rows.{Fits, row_fits}
use Rattle.command_promises.proofs.Seats.{seat_kept}
use Rattle.command_promises.proofs.Shifted.{shifted}

-- ---- two replies that report and hand out the same

pub record Given (q r : Reply) : Type 0 where
  pub stores : length q.stores ≡ length r.stores
  pub size : q.size ≡ r.size
  pub result : q.result ≡ r.result
  pub long : length q.result ≡ q.size

pub record Alike (q r : Reply) : Type 0 where
  pub answer : q.answer ≡ r.answer
  pub given : q.answer ≡ 0 → Given q r

same_left : (q r : Reply) (s l o t k p : List ℕ) → Alike q r → SameAnswer (left q s l o) (left r t k p)
same_left q r s l o t k p a = by_answer (ℕ_discrete q.answer 0)
  where
    by_answer : Dec (q.answer ≡ 0) → SameAnswer (left q s l o) (left r t k p)
    by_answer (yes z) =
        let g = a.given z in
        rw (left-done q s l o z, left-done r t k p (sym a.answer ∙ z))
        (record {
          answer = refl;
          size = g.size;
          stores = g.stores;
          result =
              handed-result q s l o g.long
              ∙ g.result
              ∙ sym (handed-result r t k p (ap length (sym g.result) ∙ g.long ∙ g.size));
        })
    by_answer (no z) =
        rw (left-refused q s l o z, left-refused r t k p (λ y. z (a.answer ∙ y)))
        (record { answer = a.answer; size = refl; stores = refl; result = refl })

both-refused : (q r : Reply) (n : ℕ) → 0 < n → q.answer ≡ n → r.answer ≡ n → Alike q r
both-refused q r n some a b = record { answer = a ∙ sym b; given = λ z. absurd (omega arith) }

-- ---- the count of stores: that of set number from the mark, that of rekey from the version, that of the others from the procedure alone

three-or-one : (t : Bool) (a b x y : Store) → length (cond t (a ∷ b ∷ x ∷ []) (y ∷ [])) ≡ cond t 3 1
three-or-one true a b x y = refl
three-or-one false a b x y = refl

count : (p : code.Procedure) (image other : List ℕ) (i j n : ℕ) (value : List ℕ) → (layout image).keys ≡ (layout other).keys
    → length (stores_for image i n) ≡ length (stores_for other j n)
    → length ((procedure_is p).stores image i n value) ≡ length ((procedure_is p).stores other j n value)
count procedure.Start image other i j n value same raises = refl
count procedure.Stop image other i j n value same raises = refl
count procedure.Rekey image other i j n value same raises =
    three-or-one (layout image).keys _ _ _ _ ∙ ap (λ (t : Bool). cond t 3 1) same ∙ sym (three-or-one (layout other).keys _ _ _ _)
count procedure.Expire image other i j n value same raises = refl
count procedure.SetNumber image other i j n value same raises = raises
count procedure.SetWindow image other i j n value same raises = refl
count procedure.Status image other i j n value same raises = refl
count procedure.ReadNumber image other i j n value same raises = refl
count procedure.Ping image other i j n value same raises = refl
count procedure.Activation image other i j n value same raises = refl
count procedure.Deactivation image other i j n value same raises = refl
count procedure.Inventory image other i j n value same raises = refl

-- ---- the reply: that of a status tells the state, and no other reads the body

replied : (p : code.Procedure) → (procedure_is p).names ≡ true → (image other : List ℕ) (i j last : ℕ) (value : List ℕ) → body_of image i ≡ body_of other j
    → (procedure_is p).reply image i last value ≡ (procedure_is p).reply other j last value
replied procedure.Start n image other i j last value body = refl
replied procedure.Stop n image other i j last value body = refl
replied procedure.Rekey n image other i j last value body = refl
replied procedure.Expire n image other i j last value body = refl
replied procedure.SetNumber n image other i j last value body = refl
replied procedure.SetWindow n image other i j last value body = refl
replied procedure.Status n image other i j last value body = rw body refl
replied procedure.ReadNumber n image other i j last value body = refl
replied procedure.Ping n image other i j last value body = refl
replied procedure.Activation n image other i j last value body = refl
replied procedure.Deactivation n image other i j last value body = refl
replied procedure.Inventory n image other i j last value body = let z : ◌≡◌ {A = ℕ} 0 1 = cc in absurd (omega arith)

-- ---- what is asked of a key is the same, where the IDs and states of the keys are

equal : (a b : Bool) → (a ≡ true → b ≡ true) → (b ≡ true → a ≡ true) → a ≡ b
equal true b f g = sym (f refl)
equal false true f g = g refl
equal false false f g = refl

module _ (s t : List ℕ) (desk : ℕ) (c : List ℕ) (same : SameKeys s t desk c) where
  from-same : (id k n : ℕ) → k + n ≤ key_count_in s → key_from s id k n ≡ key_from t id k n
  unfolding key_from
  from-same id k zero h = refl
  from-same id k (suc n) h = cc (same.ids k (omega arith), from-same id (k + 1) n (omega arith))

  count_same : key_count s ≡ key_count t
  count_same = key-count s ∙ same.count ∙ sym (key-count t)

  index_same : (id : ℕ) → key_with s id ≡ key_with t id
  index_same id =
      key_index_lem s id
      ∙ from-same id 0 (key_count_in s) (omega arith)
      ∙ ap (key_from t id 0) same.count
      ∙ sym (key_index_lem t id)

  has_same : (id : ℕ) → has_key s id ≡ has_key t id
  has_same id = ap₂ ltb (index_same id) count_same

  in_same : (state id : ℕ) → key_in s state id ≡ key_in t state id
  unfolding key_in_state
  in_same state id = by-known (has_key s id) refl
    where
      by-known : (b : Bool) → has_key s id ≡ b
          → (has_key s id && eqb (key_state_at s (part_at s) (key_with s id)) state) ≡ (has_key t id && eqb (key_state_at t (part_at t) (key_with t id)) state)
      by-known true e =
          let known : key_with s id < key_count s = ltb-true (key_with s id) (key_count s) e in
          let states : key_state_at s (part_at s) (key_with s id) ≡ key_state_at t (part_at t) (key_with t id) =
          key-state s (key_with s id)
          ∙ same.states (key_with s id) (omega (arith, key-count s))
          ∙ sym (key-state t (key_with s id))
          ∙ ap (key_state_at t (part_at t)) (index_same id)
          in
          ap₂ (λ (a : Bool) (x : ℕ). a && eqb x state) (has_same id) states
      by-known false e = rw (e, ← has_same id, e) refl

  there-same : (layout s).keys ≡ (layout t).keys → (id : ℕ) → key_there s id ≡ key_there t id
  there-same parts id = ap₂ (λ (a b : Bool). not a || b) parts (has_same id)

  active-same : (layout s).keys ≡ (layout t).keys → (id : ℕ) → key_active s id ≡ key_active t id
  active-same parts id = ap₂ (λ (a b : Bool). not a || b) parts (in_same 1 id)

  freed-same : valid_image s ≡ true → valid_image t ≡ true → desk ≡ 0 → octet c 0 ≡ 0x03 → (id : ℕ) → id ≡ key_named c → freed s id ≡ freed t id
  freed-same here there office tag id is =
      ap₂ ◌&&◌ (in_same 1 id)
      (equal (unserved s id) (unserved t id)
      (λ e. so_unserved t there id (λ j serving. let x = same.there office tag j (rw is at serving) in unserved_so s here id e x.0 (rw is x.1)))
      (λ e. so_unserved s here id (λ i serving. let x = same.here office tag i (rw is at serving) in unserved_so t there id e x.0 (rw is x.1))))

  -- of a procedure that names an association
  module _ (parts : (layout s).keys ≡ (layout t).keys) (i j : ℕ) (ids : key_id_in s i ≡ key_id_in t j) (value : List ℕ) where
    abbrev SameKey : code.Procedure → Type 0
    SameKey p = ((procedure_is p).knows s i value ≡ (procedure_is p).knows t j value) × ((procedure_is p).ready s i value ≡ (procedure_is p).ready t j value)

    same_key : (p : code.Procedure) → (procedure_is p).names ≡ true → SameKey p
    same_key procedure.Start n = (
      there-same parts (key_id_in s i) ∙ ap (key_there t) ids,
      active-same parts (key_id_in s i) ∙ ap (key_active t) ids,
    )
    same_key procedure.Stop n = (refl, refl)
    same_key procedure.Rekey n = (there-same parts (key_asked value), active-same parts (key_asked value))
    same_key procedure.Expire n = (refl, refl)
    same_key procedure.SetNumber n = (refl, refl)
    same_key procedure.SetWindow n = (refl, refl)
    same_key procedure.Status n = (refl, refl)
    same_key procedure.ReadNumber n = (refl, refl)
    same_key procedure.Ping n = (refl, refl)
    same_key procedure.Activation n = let z : ◌≡◌ {A = ℕ} 0 1 = cc in absurd (omega arith)
    same_key procedure.Deactivation n = let z : ◌≡◌ {A = ℕ} 0 1 = cc in absurd (omega arith)
    same_key procedure.Inventory n = (refl, refl)

  -- a procedure that names no association reads none
  module _ (here : valid_image s ≡ true) (there : valid_image t ≡ true) (seated : wrong_desk desk c ≡ false) (l r : List ℕ) (room : ℕ) where
    abbrev Unnamed : code.Procedure → Type 0
    Unnamed p = Alike (reply_under p s l 0 (value_of c) room) (reply_under p t r 0 (value_of c) room)

    unnaming : (p : code.Procedure) → called c ≡ Some p → (procedure_is p).names ≡ false → Unnamed p
    unnaming procedure.Start is e = let z : ◌≡◌ {A = ℕ} 0 1 = cc in absurd (omega arith)
    unnaming procedure.Stop is e = let z : ◌≡◌ {A = ℕ} 0 1 = cc in absurd (omega arith)
    unnaming procedure.Rekey is e = let z : ◌≡◌ {A = ℕ} 0 1 = cc in absurd (omega arith)
    unnaming procedure.Expire is e = let z : ◌≡◌ {A = ℕ} 0 1 = cc in absurd (omega arith)
    unnaming procedure.SetNumber is e = let z : ◌≡◌ {A = ℕ} 0 1 = cc in absurd (omega arith)
    unnaming procedure.SetWindow is e = let z : ◌≡◌ {A = ℕ} 0 1 = cc in absurd (omega arith)
    unnaming procedure.Status is e = let z : ◌≡◌ {A = ℕ} 0 1 = cc in absurd (omega arith)
    unnaming procedure.ReadNumber is e = let z : ◌≡◌ {A = ℕ} 0 1 = cc in absurd (omega arith)
    unnaming procedure.Ping is e =
        record { answer = refl; given = λ z. record { stores = refl; size = refl; result = refl; long = refl } }
    unnaming procedure.Activation is e =
        record {
          answer = rw (has_same (asked.key_named (value_of c)), in_same 0 (asked.key_named (value_of c))) refl;
          given = λ z. record { stores = refl; size = refl; result = refl; long = refl };
        }
    unnaming procedure.Deactivation is e =
        let tag = called-tag c procedure.Deactivation is in
        let free = freed-same here there ((seat_kept desk c seated).office (inr (inl tag))) tag (asked.key_named (value_of c)) (shifted c 0 2) in
        record {
          answer = rw (has_same (asked.key_named (value_of c)), free) refl;
          given = λ z. record { stores = refl; size = refl; result = refl; long = refl };
        }
    unnaming procedure.Inventory is e =
        let lowest = asked.first_named (value_of c) in
        let highest = asked.last_named (value_of c) in
        let tells : (procedure_is procedure.Inventory).reply s 0 0 (value_of c) ≡ (procedure_is procedure.Inventory).reply t 0 0 (value_of c) =
        inventory-is s lowest highest
        ∙ same-inventory s t lowest highest (key_count_in s) same.ids same.states refl (sym same.count)
        ∙ sym (inventory-is t lowest highest)
        in
        record {
          answer =
              ap (λ (x : List ℕ). first ((15, false) ∷ (16, false) ∷ (17, false) ∷ (18, false) ∷ (6, ltb room (length x)) ∷ [])) tells;
          given = λ z. record { stores = refl; size = ap length tells; result = tells; long = refl };
        }

-- ---- one image in good standing

module _ (image numbers : List ℕ) (desk : ℕ) (c : List ℕ) (room : ℕ) (g : Standing image numbers) where
  ok : valid_image image ≡ true
  ok = rules-valid image g.octets g.valid

  agree : agrees image numbers ≡ true
  agree = agreement_tested image numbers g.octets g.agree

  abbrev q : Reply
  q = command_reply image numbers desk c room

  refused-by : (n : ℕ) → 0 < n → first (address_tests image numbers desk c) ≡ n → q.answer ≡ n
  unfolding command_reply
  refused-by n some e = stops (address_tests image numbers desk c) _ (omega arith) ∙ e

  no_seat : wrong_desk desk c ≡ true → q.answer ≡ 19
  no_seat e = refused-by 19 (omega arith) (by_19 image numbers desk c ok agree e)

  calls_none_lem : wrong_desk desk c ≡ false → called c ≡ None → q.answer ≡ 13
  calls_none_lem seated e = refused-by 13 (omega arith) (by_13 image numbers desk c ok agree seated e)

  module _ (seated : wrong_desk desk c ≡ false) (p : code.Procedure) (is : called c ≡ Some p) where
    pub reply-at : (e : ℕ) → entry_named (procedure_is p) image desk (value_of c) ≡ Some e → q ≡ reply_under p image numbers e (value_of c) room
    reply-at e f = sym (command_under image numbers desk c room p e (addresses image numbers desk c ok agree seated p is e f))

    pub named-at : (procedure_is p).names ≡ true → (i : ℕ) → Names image desk c i → entry_named (procedure_is p) image desk (value_of c) ≡ Some i
    unfolding entry_named
    named-at names i n =
        rw names
        (spi-at image (valid image ok) desk (spi_named (value_of c)) i n.entry
        (named_tested image desk (spi_named (value_of c)) i (n.spi ∙ sym (shifted c 0 2)) n.seen))

    named_none : (procedure_is p).names ≡ true → ((i : ℕ) → Names image desk c i → ⊥) → q.answer ≡ 14
    unfolding entry_named
    named_none names no_one = refused-by 14 (omega arith) (by_14 image numbers desk c ok agree seated p is (rw names (by_answer (with_spi image desk (spi_named (value_of c))) refl)))
      where
        by_answer : (x : Option ℕ) → with_spi image desk (spi_named (value_of c)) ≡ x → x ≡ None
        by_answer (Some i) e =
            let f = spi-found image desk (spi_named (value_of c)) i e in
            let has = named-kept image desk (spi_named (value_of c)) i f.1 in
            absurd (no_one i (record { entry = f.0; spi = has.0 ∙ shifted c 0 2; seen = has.1 }))
        by_answer None e = refl

    unnamed : (procedure_is p).names ≡ false → entry_named (procedure_is p) image desk (value_of c) ≡ Some 0
    unfolding entry_named
    unnamed names = rw names

-- ---- two of them

module _ (s l t r : List ℕ) (desk : ℕ) (c : List ℕ) (room : ℕ) (here : Standing s l) (there : Standing t r) where
  abbrev x : Reply
  x = command_reply s l desk c room

  abbrev y : Reply
  y = command_reply t r desk c room

  -- the same body, read by the same version, and the same number
  pub at_both : (p : code.Procedure) → (procedure_is p).names ≡ true → SameKeys s t desk c → (i j : ℕ) → i < count_of s → j < count_of t
      → version_in s ≡ version_in t → whole_body_at s i ≡ whole_body_at t j → last_at l i ≡ last_at r j
      → Alike (reply_under p s l i (value_of c) room) (reply_under p t r j (value_of c) room)
  unfolding mark_in
  at_both p names keys i j hi hj version body number =
      let bodies : body_of s i ≡ body_of t j = body_is s i ∙ body ∙ sym (body_is t j) in
      let parts : (layout s).keys ≡ (layout t).keys = ap (λ (v : ℕ). (layout_of v).keys) version in
      let ids : key_id_in s i ≡ key_id_in t j = ap₂ key_id_of version bodies in
      let same = same_key s t desk c keys parts i j ids (value_of c) p names in
      let reply = replied p names s t i j (last_at r j) (value_of c) bodies in
      let n : ℕ = (procedure_is p).number (last_at l i) (value_of c) in
      let marks : mark_in s i ≡ mark_in t j = ap₂ (λ (v : ℕ) (b : List ℕ). mark_of v b) version bodies in
      let raises : length (stores_for s i n) ≡ length (stores_for t j n) =
      counted s i n (ok s l desk c room here) hi ∙ ap (λ (m : ℕ). n / 64 - m) marks ∙ sym (counted t j n (ok t r desk c room there) hj) in
      record {
        answer = rw (version, bodies, number, same.0, same.1, reply) refl;
        given = λ z.
            record {
              stores = count p s t i j n (value_of c) parts raises ∙ ap (λ (k : ℕ). length ((procedure_is p).stores t j ((procedure_is p).number k (value_of c)) (value_of c))) number;
              size = rw (number, reply) refl;
              result = rw (number, reply) refl;
              long = refl;
            };
      }

  by_names : wrong_desk desk c ≡ false → (p : code.Procedure) → called c ≡ Some p → (b : Bool) → (procedure_is p).names ≡ b → SameNamed s l t r desk c → SameKeys s t desk c
      → Alike x y
  by_names seated p is true n (both i j a b version body number) keys =
      rw (
        reply-at s l desk c room here seated p is i (named-at s l desk c room here seated p is n i a),
        reply-at t r desk c room there seated p is j (named-at t r desk c room there seated p is n j b),
      )
      (at_both p n keys i j a.entry b.entry version body number)
  by_names seated p is true n (neither a b) keys =
      both-refused x y 14 (omega arith) (named_none s l desk c room here seated p is n a) (named_none t r desk c room there seated p is n b)
  by_names seated p is true n (none unnamed-so) keys =
      let f : Fits (procedure_is p) (row_in c) = row_fits (tag_of c) p (called_parts c p is).0 in
      absurd (true≢false (sym n ∙ f.named ∙ unnamed-so))
  by_names seated p is false n same keys =
      rw (
        reply-at s l desk c room here seated p is 0 (unnamed s l desk c room here seated p is n),
        reply-at t r desk c room there seated p is 0 (unnamed t r desk c room there seated p is n),
      )
      (unnaming s t desk c keys (ok s l desk c room here) (ok t r desk c room there) seated l r room p is n)

  alike : SameNamed s l t r desk c → SameKeys s t desk c → Alike x y
  alike same keys = by-desk (wrong_desk desk c) refl
    where
      by-called : wrong_desk desk c ≡ false → (k : Option code.Procedure) → called c ≡ k → Alike x y
      by-called seated (Some p) is = by_names seated p is (procedure_is p).names refl same keys
      by-called seated None is =
          both-refused x y 13 (omega arith) (calls_none_lem s l desk c room here seated is) (calls_none_lem t r desk c room there seated is)

      by-desk : (b : Bool) → wrong_desk desk c ≡ b → Alike x y
      by-desk true w = both-refused x y 19 (omega arith) (no_seat s l desk c room here w) (no_seat t r desk c room there w)
      by-desk false seated = by-called seated (called c) refl

pub command_isolation : CommandIsolation
unfolding commanded
command_isolation =
    record {
      commanding = λ image numbers other otherNumbers desk c output otherOutput here there long same keys.
          same_left (command_reply image numbers desk c (length output)) (command_reply other otherNumbers desk c (length otherOutput)) image numbers output other
          otherNumbers otherOutput (rw (← long) (alike image numbers other otherNumbers desk c (length output) here there same keys));
    }
