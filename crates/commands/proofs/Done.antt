-- What an answer 0 of a command means: its image is valid, its numbers agree, it calls a procedure, and where that names an association, it
-- has found the entry, and does there what the procedure does; one that names none changes no number, and stores nothing or the state of a key.
-- Assumes nothing.
use mathlib.Core.Path.{◌≡◌, refl, sym, ap, ◌∙◌}
use mathlib.Core.Bool.{Bool, true, false, not}
use mathlib.Core.List.{List, [], ◌∷◌}
use Prim.Native.Nat.{ℕ, ◌+◌, ◌<◌}
use native.Mathlib.Omega.{arith}
use borrow.Author.Tests.{not-false}
use lib.ListN.{length, set}
use lib.Seq.{get_or-drop, set-get_or}
use Rattle.std.specs.Prelude.{Option, Some, None}
use Rattle.octets.specs.Lists.{Octets}
use Rattle.image.specs.Image.{count_of, valid_image}
use Rattle.image.proofs.ValidImages.{Valid, spi_once}
use Rattle.association.specs.Association.{index_of}
use Rattle.numbers.specs.Numbers.{number_of, agrees}
use Rattle.association.specs.Search.{has_spi, with_spi}
use Rattle.association.proofs.Finding.{First, first-at, first_nothing, has_spi_lem}
use Rattle.judging.specs.Answers.{first}
use Rattle.judging.specs.Replies.{Reply}
use Rattle.judging.proofs.First.{passed}
use Rattle.command_form.specs.Form.{front_length, value_of, spi_named}
use Rattle.procedures.specs.Procedures.{key_state_in, procedure_is, procedure_behind, procedure_of, called}
use Rattle.procedures.specs.declared.procedure.Procedure as code
use Rattle.addressing.specs.Addressing.{wrong_desk, calls_none, entry_named, is_nothing}
use Rattle.commands.specs.Commanding.{tests_at, reply_at, command_reply}
use Rattle.commands.proofs.Accepting.{Accepts, accepts-all}
use Rattle.commands.proofs.Doing.{Ready, number_for, Quiet, nothing_stored, key_turned, quiet}
use Rattle.commands.proofs.Turning.{Turns}

-- ---- the entry with an SPI, for a desk

pub spi-found : (image : List ℕ) (desk spi i : ℕ) → with_spi image desk spi ≡ Some i → (i < count_of image) × (has_spi image desk spi i ≡ true)
unfolding with_spi
spi-found image desk spi i e =
    let f : First 0 (count_of image) (has_spi image desk spi) i = first-at (count_of image) 0 (has_spi image desk spi) i e in
    (omega (arith, f.to), f.passes)

pub spi_missing : (image : List ℕ) (desk spi : ℕ) → with_spi image desk spi ≡ None → (i : ℕ) → i < count_of image
    → has_spi image desk spi i ≡ false
unfolding with_spi
spi_missing image desk spi e i h = first_nothing (count_of image) 0 (has_spi image desk spi) e i (omega arith) (omega arith)

-- in a valid image no other entry has that SPI
pub spi-at : (image : List ℕ) → Valid image → (desk spi e : ℕ) → e < count_of image → has_spi image desk spi e ≡ true
    → with_spi image desk spi ≡ Some e
spi-at image v desk spi e below is = by_answer (with_spi image desk spi) refl
  where
    by_answer : (x : Option ℕ) → with_spi image desk spi ≡ x → x ≡ Some e
    by_answer (Some i) q =
        let f = spi-found image desk spi i q in
        ap (λ (k : ℕ). Some k)
        (spi_once image v i e f.0 below ((has_spi_lem image desk spi i f.1).0 ∙ sym (has_spi_lem image desk spi e is).0))
    by_answer None q =
        let none : has_spi image desk spi e ≡ false = spi_missing image desk spi q e below in
        let z : ◌≡◌ {A = ℕ} 0 1 = cc in
        absurd (omega arith)

-- ---- answer 0, test by test

pub record Done (image last : List ℕ) (desk : ℕ) (command : List ℕ) (room : ℕ) : Type 0 where
  pub procedure : code.Procedure
  pub entry : ℕ
  pub valid : valid_image image ≡ true
  pub agree : agrees image last ≡ true
  pub seated : wrong_desk desk command ≡ false
  pub calls : called command ≡ Some procedure
  pub named : entry_named (procedure_is procedure) image desk (value_of command) ≡ Some entry
  pub under : Accepts (procedure_is procedure) image entry (number_of last entry) (value_of command) room
  pub reply : command_reply image last desk command room ≡ reply_at 0 (procedure_is procedure) image last entry (value_of command)

module _ (image last : List ℕ) (desk : ℕ) (command : List ℕ) (room : ℕ) where
  abbrev value : List ℕ
  value = value_of command

  pub done : (command_reply image last desk command room).answer ≡ 0 → Done image last desk command room
  unfolding command_reply
  done z =
      let t1 = passed 1 (not (valid_image image)) _ (omega arith) z in
      let t2 = passed 2 (not (agrees image last)) _ (omega arith) t1.1 in
      let t19 = passed 19 (wrong_desk desk command) _ (omega arith) t2.1 in
      let t13 = passed 13 (calls_none (called command)) _ (omega arith) t19.1 in
      let t14 = passed 14 (is_nothing (entry_named (procedure_of command) image desk value)) _ (omega arith) t13.1 in
      by-called (not-false (valid_image image) t1.0) (not-false (agrees image last) t2.0) t19.0 (called command) refl t13.0 t14.0 t14.1
    where
      by-found : (v : valid_image image ≡ true) (a : agrees image last ≡ true) (s : wrong_desk desk command ≡ false) (p : code.Procedure) (c : called command ≡ Some p)
          (x : Option ℕ) → entry_named (procedure_is p) image desk value ≡ x → is_nothing x ≡ false
          → first (tests_at (procedure_is p) image last (index_of x) value room) ≡ 0 → Done image last desk command room
      by-found v a s p c (Some e) f some u =
          record {
            procedure = p;
            entry = e;
            valid = v;
            agree = a;
            seated = s;
            calls = c;
            named = f;
            under = accepts-all (procedure_is p) image e (number_of last e) value room u;
            reply = rw (z, c, f);
          }
      by-found v a s p c None f some u = let q : ◌≡◌ {A = ℕ} 0 1 = cc in absurd (omega arith)

      by-called : (v : valid_image image ≡ true) (a : agrees image last ≡ true) (s : wrong_desk desk command ≡ false) (x : Option code.Procedure) → called command ≡ x → calls_none x ≡ false
          → is_nothing (entry_named (procedure_behind x) image desk value) ≡ false
          → first (tests_at (procedure_behind x) image last (index_of (entry_named (procedure_behind x) image desk value)) value room) ≡ 0
          → Done image last desk command room
      by-called v a s (Some p) c some named u = by-found v a s p c (entry_named (procedure_is p) image desk value) refl named u
      by-called v a s None c some named u = let q : ◌≡◌ {A = ℕ} 0 1 = cc in absurd (omega arith)

-- ---- where it is done: at the entry that it names, or at none

pub data Where (image last : List ℕ) (desk : ℕ) (command : List ℕ) (q : Reply) : Type 0 where
  at : (p : code.Procedure) (i : ℕ) → called command ≡ Some p → (procedure_is p).names ≡ true → i < count_of image → has_spi image desk (spi_named (value_of command)) i ≡ true
      → Ready (procedure_is p) image last i (value_of command)
      → q ≡ reply_at 0 (procedure_is p) image last i (value_of command)
      → Where image last desk command q
  nowhere : q.stores ≡ [] → set last q.entry q.number ≡ last → Where image last desk command q
  turning : (id state : ℕ) → q.stores ≡ key_state_in image id state ∷ [] → Turns image id state → set last q.entry q.number ≡ last
      → Where image last desk command q

value-octets : (command : List ℕ) → Octets command → Octets (value_of command)
value-octets command spoken i = rw (get_or-drop front_length command i 0) (spoken (front_length + i))

pub place : (image last : List ℕ) (desk : ℕ) (command : List ℕ) (room : ℕ) → Octets image → Octets command → length last ≡ 32 → Done image last desk command room
    → Where image last desk command (command_reply image last desk command room)
unfolding entry_named
place image last desk command room octets spoken thirty_two d = by_names (procedure_is d.procedure).names refl
  where
    p : code.Procedure
    p = d.procedure

    by_names : (t : Bool) → (procedure_is p).names ≡ t → Where image last desk command (command_reply image last desk command room)
    by_names true n =
        let f = spi-found image desk (spi_named (value_of command)) d.entry (rw n at d.named) in
        at p d.entry d.calls n f.0 f.1
        (record {
          valid = d.valid;
          octets = octets;
          thirty_two = thirty_two;
          agree = d.agree;
          listed = f.0;
          octets_in = value-octets command spoken;
          asked = d.under.asked;
          allowed = d.under.allowed;
          ready = d.under.ready;
        })
        d.reply
    by_names false n =
        let e = d.entry in
        let number = number_for (procedure_is p) last e (value_of command) in
        let s = quiet p n image e number (number_of last e) (value_of command) d.valid d.under.known d.under.ready in
        rw d.reply (by-stores (rw s.1 (set-get_or last e 0)) s.0)
      where
        by-stores : set last d.entry (number_for (procedure_is p) last d.entry (value_of command)) ≡ last
            → Quiet (procedure_is p) image d.entry (number_for (procedure_is p) last d.entry (value_of command)) (value_of command)
            → Where image last desk command (reply_at 0 (procedure_is p) image last d.entry (value_of command))
        by-stores same (nothing_stored none) = nowhere none same
        by-stores same (key_turned id state one turns) = turning id state one turns same
