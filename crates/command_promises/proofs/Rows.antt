-- The definitions' record of a procedure asks what the promises' row of its tag asks: for each procedure once; and a tag that no procedure
-- has has no row.
-- Assumes nothing.
use Prim.Native.Nat.{ℕ, ◌+◌, ◌-◌, ◌*◌, ◌/◌, ◌%◌, ◌≤◌}
use mathlib.Core.Path.{◌≡◌, refl, sym, ap, ap₂, ◌∙◌}
use mathlib.Core.Bool.{Bool, true, false, cond, not, ◌&&◌, ◌||◌}
use mathlib.Core.List.{List}
use native.Mathlib.Omega.{arith}
use borrow.Author.Tests.{eqb-true, eqb-false, eq-eqb, ne_eqb, leb-true, le-leb, not-true}
use lib.Dec.{eqb, leb}
use lib.ListN.{length, length-drop}
use Rattle.std.specs.Prelude.{Option, Some, None}
use Rattle.octets.specs.Numbers.{number_at, bytes}
use Rattle.octets.proofs.Alls.{and_left, and_right, all-at, all_every}
use Rattle.kinds.specs.Kinds.{named}
use Rattle.bodies.specs.Body.{kind_in, window_of, most_window}
use Rattle.bodies.proofs.ValidBodies as bodies
use Rattle.image.specs.Image.{version_of, layout, body_of, key_id_in, valid_image}
use Rattle.numbers.proofs.Agreement.{accepted}
use Rattle.command_form.specs.Channels.{names_one, channel_count, channel_named, channels_right}
use Rattle.command_form.specs.Form.{front_length, value_of, key_asked, key_named, first_named, last_named, number_behind_key, window_asked, number_asked}
use Rattle.procedures.specs.Procedures.{Procedure, procedure_is, procedures, with_tag, most_rise}
use Rattle.procedures.specs.declared.procedure.Procedure as code
use Rattle.procedures.specs.declared.procedure.Procedure.TheVariants as procedure
use Rattle.promises.specs.Images.{kind_at, key_count_in, last_at, BodyRules}
use Rattle.promises.proofs.Answers.{accepting}
use Rattle.promises.proofs.Fields.{shapes, kind-at, window-at, key_id_at_lem}
use Rattle.promises.proofs.Valids.{between_tested, key-found}
use Rattle.command_promises.specs.Rows.{Row, IsChannel, start_row, stop_row, rekey_row, expire_row, set_number_row}
use Rattle.command_promises.specs.Rows.{set_window_row, status_row, read_number_row, ping_row, activation_row, deactivation_row, inventory_row, no_row, row_of}
use Rattle.command_promises.specs.Rows.{keys_between}
use Rattle.command_promises.proofs.Inventories.{inventory-size}
use Rattle.command_promises.proofs.Channels.{names-channel, channel-named}
use Rattle.command_promises.proofs.NamedKeys.{key-is, is_key, in_state_lem, needs_key, needed_key, needs_active, needed_active, key-freed, freed-key}
use Rattle.command_promises.proofs.Shifted.{shifted}

-- ---- a tag without a procedure has no row

abbrev row_for : Option code.Procedure → Row
row_for (Some procedure.Start) = start_row
row_for (Some procedure.Stop) = stop_row
row_for (Some procedure.Rekey) = rekey_row
row_for (Some procedure.Expire) = expire_row
row_for (Some procedure.SetNumber) = set_number_row
row_for (Some procedure.SetWindow) = set_window_row
row_for (Some procedure.Status) = status_row
row_for (Some procedure.ReadNumber) = read_number_row
row_for (Some procedure.Ping) = ping_row
row_for (Some procedure.Activation) = activation_row
row_for (Some procedure.Deactivation) = deactivation_row
row_for (Some procedure.Inventory) = inventory_row
row_for None = no_row

either : (t : Bool) (x y : Option code.Procedure) (row : Row) → row ≡ row_for y → cond t (row_for x) row ≡ row_for (cond t x y)
either true x y row e = refl
either false x y row e = e

pub row_of_lem : (tag : ℕ) → row_of tag ≡ row_for (with_tag tag procedures)
unfolding row_of with_tag
row_of_lem tag =
    either (eqb tag 0x1B) _ _ _
    (either (eqb tag 0x1E) _ _ _
    (either (eqb tag 0x16) _ _ _
    (either (eqb tag 0x19) _ _ _
    (either (eqb tag 0x1A) _ _ _
    (either (eqb tag 0x15) _ _ _
    (either (eqb tag 0x1F) _ _ _
    (either (eqb tag 0x10) _ _ _
    (either (eqb tag 0x31) _ _ _
    (either (eqb tag 0x02) _ _ _
    (either (eqb tag 0x03) _ _ _
    (either (eqb tag 0x07) _ None _ refl)))))))))))

-- ---- a procedure and its row

pub record Fits (p : Procedure) (row : Row) : Type 0 where
  pub sized : (n : ℕ) → p.sized n ≡ true → row.Size (3 + n)
  pub sizes : (n : ℕ) → row.Size (3 + n) → p.sized n ≡ true
  pub asked : (state : ℕ) → p.asks state ≡ true → row.State state
  pub asks : (state : ℕ) → row.State state → p.asks state ≡ true
  pub allowed : (image numbers command : List ℕ) (e : ℕ) → (p.names ≡ true → BodyRules image e) → 3 ≤ length command
      → p.allows (version_of image) (body_of image e) (last_at numbers e) (value_of command) ≡ true → row.Value image numbers command e
  pub allows : (image numbers command : List ℕ) (e : ℕ) → (p.names ≡ true → BodyRules image e) → 3 ≤ length command
      → row.Value image numbers command e → p.allows (version_of image) (body_of image e) (last_at numbers e) (value_of command) ≡ true
  pub named : p.names ≡ row.names
  pub known : (image command : List ℕ) (e : ℕ) → valid_image image ≡ true → p.knows image e (value_of command) ≡ true → row.Known image command e
  pub knows : (image command : List ℕ) (e : ℕ) → valid_image image ≡ true → row.Known image command e → p.knows image e (value_of command) ≡ true
  pub readied : (image command : List ℕ) (e : ℕ) → valid_image image ≡ true → p.ready image e (value_of command) ≡ true → row.Ready image command e
  pub readies : (image command : List ℕ) (e : ℕ) → valid_image image ≡ true → row.Ready image command e → p.ready image e (value_of command) ≡ true
  pub replies : (image command : List ℕ) (e last : ℕ) → length (p.reply image e last (value_of command)) ≡ row.reply image command

-- of a number that has to be one alone
exact : (size n : ℕ) → eqb n size ≡ true → 3 + n ≡ 3 + size
exact size n e = ap (λ (k : ℕ). 3 + k) (eqb-true n size e)

exactly : (size n : ℕ) → 3 + n ≡ 3 + size → eqb n size ≡ true
exactly size n e = eq-eqb n size (omega arith)

-- one of two is true, if the second is where the first is not
either_true : (a b : Bool) → (a ≡ false → b ≡ true) → (a || b) ≡ true
either_true true b h = refl
either_true false b h = h refl

-- ---- start

module _ (image numbers command : List ℕ) (e : ℕ) (b : BodyRules image e) (long : 3 ≤ length command) where
  abbrev body : List ℕ
  body = body_of image e

  abbrev value : List ℕ
  value = value_of command

  value-size : length value ≡ length command - 3
  value-size = length-drop front_length command

  kind-is : kind_at image e ≡ kind_in body
  kind-is = sym (kind-at image e)

  behind : (i : ℕ) → channel_named value i ≡ number_at (5 + 4 * i) 4 command
  behind i =
      let place : 3 + (2 + 4 * i) ≡ 5 + 4 * i = omega arith in
      shifted command (2 + 4 * i) 4 ∙ ap (λ (p : ℕ). number_at p 4 command) place

  channels-named : channels_right (version_of image) body value ≡ true
      → (i : ℕ) → 5 + 4 * i + 4 ≤ length command → IsChannel image e (number_at (5 + 4 * i) 4 command)
  unfolding channels_right
  channels-named t i h =
      rw (behind i) at
      (names-channel image e b (kind_in body) (channel_named value i) kind-is
      (all-at (channel_count value) (λ j. names_one (version_of image) (named (kind_in body)) body (channel_named value j)) t i
      (omega (arith, value-size))))

  named-channels : ((i : ℕ) → 5 + 4 * i + 4 ≤ length command → IsChannel image e (number_at (5 + 4 * i) 4 command))
      → channels_right (version_of image) body value ≡ true
  unfolding channels_right
  named-channels c =
      all_every (channel_count value) (λ j. names_one (version_of image) (named (kind_in body)) body (channel_named value j))
      (λ i h.
      channel-named image e b (kind_in body) (channel_named value i) kind-is
      (rw (behind i) (c i (omega (arith, value-size)))))

start_fits : Fits (procedure_is procedure.Start) start_row
start_fits =
    record {
      sized = λ n t.
          let some : 6 ≤ n = leb-true 6 n (and_left (leb 6 n) _ t) in
          let whole : (n - 2) % 4 ≡ 0 = eqb-true ((n - 2) % 4) 0 (and_right (leb 6 n) _ t) in
          record { channels = (n - 2) / 4; some = omega arith; whole = omega arith };
      sizes = λ n s.
          let some = s.some in
          let whole = s.whole in
          ap₂ ◌&&◌ (le-leb 6 n (omega arith)) (eq-eqb ((n - 2) % 4) 0 (omega arith));
      asked = λ state t. sym (eqb-true 1 state t);
      asks = λ state s. eq-eqb 1 state (sym s);
      allowed = λ image numbers command e b long t.
          let channels : Bool = channels_right (version_of image) (body_of image e) (value_of command) in
          record {
            channels = channels-named image numbers command e (b refl) long (and_left channels _ t);
            window = rw (← window-at image e) (bodies.between 1 (window_of (body_of image e)) most_window (and_right channels _ t));
          };
      allows = λ image numbers command e b long v.
          ap₂ ◌&&◌ (named-channels image numbers command e (b refl) long v.channels)
          (between_tested 1 (window_of (body_of image e)) most_window (rw (window-at image e) v.window));
      named = refl;
      known = λ image command e v t. rw (← key_id_at_lem image e) (needs_key image v (key_id_in image e) t);
      knows = λ image command e v k. needed_key image v (key_id_in image e) (rw (key_id_at_lem image e) k);
      readied = λ image command e v t. rw (← key_id_at_lem image e) (needs_active image v (key_id_in image e) t);
      readies = λ image command e v k. needed_active image v (key_id_in image e) (rw (key_id_at_lem image e) k);
      replies = λ image command e last. refl;
    }

-- ---- one that asks its state and nothing of its value

stop_fits : Fits (procedure_is procedure.Stop) stop_row
stop_fits =
    record {
      sized = exact 2;
      sizes = exactly 2;
      asked = λ state t. sym (eqb-true 2 state t);
      asks = λ state s. eq-eqb 2 state (sym s);
      allowed = λ image numbers command e b long t. tt;
      allows = λ image numbers command e b long v. refl;
      named = refl;
      known = λ image command e v t. tt;
      knows = λ image command e v k. refl;
      readied = λ image command e v t. tt;
      readies = λ image command e v k. refl;
      replies = λ image command e last. refl;
    }

expire_fits : Fits (procedure_is procedure.Expire) expire_row
expire_fits =
    record {
      sized = exact 2;
      sizes = exactly 2;
      asked = λ state t. sym (eqb-true 1 state t);
      asks = λ state s. eq-eqb 1 state (sym s);
      allowed = λ image numbers command e b long t. tt;
      allows = λ image numbers command e b long v. refl;
      named = refl;
      known = λ image command e v t. tt;
      knows = λ image command e v k. refl;
      readied = λ image command e v t. tt;
      readies = λ image command e v k. refl;
      replies = λ image command e last. refl;
    }

rekey_fits : Fits (procedure_is procedure.Rekey) rekey_row
rekey_fits =
    record {
      sized = exact 16;
      sizes = exactly 16;
      asked = λ state t. sym (eqb-true 0 state t);
      asks = λ state s. eq-eqb 0 state (sym s);
      allowed = λ image numbers command e b long t.
          let first : Bool = (layout image).keys || eqb (key_asked (value_of command)) 0 in (
            λ none.
                sym (shifted command 2 2)
                ∙ eqb-true (key_asked (value_of command)) 0 (rw ((shapes (version_of image)).key_part ∙ none) at (and_left first _ t)),
            sym (shifted command 4 12) ∙ eqb-true (number_behind_key (value_of command)) 0 (and_right first _ t),
          );
      allows = λ image numbers command e b long v.
          ap₂ ◌&&◌
          (either_true (layout image).keys (eqb (key_asked (value_of command)) 0)
          (λ none. eq-eqb (key_asked (value_of command)) 0 (shifted command 2 2 ∙ v.0 (sym (shapes (version_of image)).key_part ∙ none))))
          (eq-eqb (number_behind_key (value_of command)) 0 (shifted command 4 12 ∙ v.1));
      named = refl;
      known = λ image command e v t. rw (← shifted command 2 2) (needs_key image v (key_asked (value_of command)) t);
      knows = λ image command e v k. needed_key image v (key_asked (value_of command)) (rw (shifted command 2 2) k);
      readied = λ image command e v t. rw (← shifted command 2 2) (needs_active image v (key_asked (value_of command)) t);
      readies = λ image command e v k. needed_active image v (key_asked (value_of command)) (rw (shifted command 2 2) k);
      replies = λ image command e last. refl;
    }

-- ---- the state of a key

activation_fits : Fits (procedure_is procedure.Activation) activation_row
activation_fits =
    record {
      sized = exact 2;
      sizes = exactly 2;
      asked = λ state t. tt;
      asks = λ state s. refl;
      allowed = λ image numbers command e b long t. tt;
      allows = λ image numbers command e b long v. refl;
      named = refl;
      known = λ image command e v t. rw (← shifted command 0 2) (key-is image v (key_named (value_of command)) t);
      knows = λ image command e v k. is_key image v (key_named (value_of command)) (rw (shifted command 0 2) k);
      readied = λ image command e v t. rw (← shifted command 0 2) (key-found image (key_named (value_of command)) 0 t);
      readies = λ image command e v k. in_state_lem image v (key_named (value_of command)) 0 (rw (shifted command 0 2) k);
      replies = λ image command e last. refl;
    }

deactivation_fits : Fits (procedure_is procedure.Deactivation) deactivation_row
deactivation_fits =
    record {
      sized = exact 2;
      sizes = exactly 2;
      asked = λ state t. tt;
      asks = λ state s. refl;
      allowed = λ image numbers command e b long t. tt;
      allows = λ image numbers command e b long v. refl;
      named = refl;
      known = λ image command e v t. rw (← shifted command 0 2) (key-is image v (key_named (value_of command)) t);
      knows = λ image command e v k. is_key image v (key_named (value_of command)) (rw (shifted command 0 2) k);
      readied = λ image command e v t. rw (← shifted command 0 2) (key-freed image v (key_named (value_of command)) t);
      readies = λ image command e v k. freed-key image v (key_named (value_of command)) (rw (shifted command 0 2) k);
      replies = λ image command e last. refl;
    }

-- ---- the number and the window

set-number_fits : Fits (procedure_is procedure.SetNumber) set_number_row
set-number_fits =
    record {
      sized = exact 14;
      sizes = exactly 14;
      asked = λ state t. tt;
      asks = λ state s. refl;
      allowed = λ image numbers command e b long t.
          let a = accepted (last_at numbers e) most_rise (number_asked (value_of command)) t in
          rw (← shifted command 2 12) (record { above = a.above; near = a.near; most = a.fits });
      allows = λ image numbers command e b long v.
          rw (shifted command 2 12) (accepting (last_at numbers e) most_rise (number_at 5 12 command) v.above v.near v.most);
      named = refl;
      known = λ image command e v t. tt;
      knows = λ image command e v k. refl;
      readied = λ image command e v t. tt;
      readies = λ image command e v k. refl;
      replies = λ image command e last. refl;
    }

set-window_fits : Fits (procedure_is procedure.SetWindow) set_window_row
set-window_fits =
    record {
      sized = exact 4;
      sizes = exactly 4;
      asked = λ state t. eqb-false state 2 (not-true (eqb state 2) t);
      asks = λ state s. ap not (ne_eqb state 2 s);
      allowed = λ image numbers command e b long t.
          rw (← shifted command 2 2) (bodies.between 1 (window_asked (value_of command)) most_window t);
      allows = λ image numbers command e b long v.
          rw (shifted command 2 2) (between_tested 1 (number_at 5 2 command) most_window v);
      named = refl;
      known = λ image command e v t. tt;
      knows = λ image command e v k. refl;
      readied = λ image command e v t. tt;
      readies = λ image command e v k. refl;
      replies = λ image command e last. refl;
    }

-- ---- questions

status_fits : Fits (procedure_is procedure.Status) status_row
unfolding bytes
status_fits =
    record {
      sized = exact 2;
      sizes = exactly 2;
      asked = λ state t. tt;
      asks = λ state s. refl;
      allowed = λ image numbers command e b long t. tt;
      allows = λ image numbers command e b long v. refl;
      named = refl;
      known = λ image command e v t. tt;
      knows = λ image command e v k. refl;
      readied = λ image command e v t. tt;
      readies = λ image command e v k. refl;
      replies = λ image command e last. refl;
    }

read_number_fits : Fits (procedure_is procedure.ReadNumber) read_number_row
unfolding bytes
read_number_fits =
    record {
      sized = exact 2;
      sizes = exactly 2;
      asked = λ state t. tt;
      asks = λ state s. refl;
      allowed = λ image numbers command e b long t. tt;
      allows = λ image numbers command e b long v. refl;
      named = refl;
      known = λ image command e v t. tt;
      knows = λ image command e v k. refl;
      readied = λ image command e v t. tt;
      readies = λ image command e v k. refl;
      replies = λ image command e last. refl;
    }

ping_fits : Fits (procedure_is procedure.Ping) ping_row
unfolding bytes
ping_fits =
    record {
      sized = exact 0;
      sizes = exactly 0;
      asked = λ state t. tt;
      asks = λ state s. refl;
      allowed = λ image numbers command e b long t. tt;
      allows = λ image numbers command e b long v. refl;
      named = refl;
      known = λ image command e v t. tt;
      knows = λ image command e v k. refl;
      readied = λ image command e v t. tt;
      readies = λ image command e v k. refl;
      replies = λ image command e last. refl;
    }

inventory_fits : Fits (procedure_is procedure.Inventory) inventory_row
inventory_fits =
    record {
      sized = exact 4;
      sizes = exactly 4;
      asked = λ state t. tt;
      asks = λ state s. refl;
      allowed = λ image numbers command e b long t. tt;
      allows = λ image numbers command e b long v. refl;
      named = refl;
      known = λ image command e v t. tt;
      knows = λ image command e v k. refl;
      readied = λ image command e v t. tt;
      readies = λ image command e v k. refl;
      replies = λ image command e last.
          inventory-size image (first_named (value_of command)) (last_named (value_of command))
          ∙ ap₂ (λ (a b : ℕ). 5 + 3 * keys_between image a b (key_count_in image)) (shifted command 0 2) (shifted command 2 2);
    }

-- ---- each of them

pub fits : (p : code.Procedure) → Fits (procedure_is p) (row_for (Some p))
fits procedure.Start = start_fits
fits procedure.Stop = stop_fits
fits procedure.Rekey = rekey_fits
fits procedure.Expire = expire_fits
fits procedure.SetNumber = set-number_fits
fits procedure.SetWindow = set-window_fits
fits procedure.Status = status_fits
fits procedure.ReadNumber = read_number_fits
fits procedure.Ping = ping_fits
fits procedure.Activation = activation_fits
fits procedure.Deactivation = deactivation_fits
fits procedure.Inventory = inventory_fits

-- of a command that calls one
pub row_fits : (tag : ℕ) (p : code.Procedure) → with_tag tag procedures ≡ Some p → Fits (procedure_is p) (row_of tag)
row_fits tag p e = rw (row_of_lem tag, e) (fits p)

-- and of one that calls none
pub no_size : (tag n : ℕ) → with_tag tag procedures ≡ None → (row_of tag).Size n → ⊥
no_size tag n e s = rw (row_of_lem tag, e) at s
