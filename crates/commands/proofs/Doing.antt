-- What holds of each procedure where it may be carried out at an entry: after any of its stores the image is managed, there are at most 16
-- of them, and once all are made the numbers agree again. Only set number touches the mark and the number, and it raises both.
-- Assumes nothing.
use mathlib.Core.Path.{◌≡◌, refl, sym}
use mathlib.Core.Logic.{◌≢◌}
use mathlib.Core.Bool.{Bool, true, false}
use mathlib.Core.List.{List, [], ◌∷◌}
use Prim.Native.Nat.{ℕ, ◌+◌, ◌-◌, ◌/◌, ◌≤◌, ◌<◌, min}
use native.Mathlib.Omega.{arith}
use borrow.Author.Tests.{eqb-true, not-true}
use lib.Dec.{eqb}
use lib.ListN.{length, set, take}
use lib.Seq.{take-nil, set-get_or}
use Rattle.octets.specs.Lists.{octet, Octets}
use Rattle.octets.proofs.Alls.{and_right}
use Rattle.marks.specs.Stores.{stored}
use Rattle.marks.specs.declared.plans.Store.{Store}
use Rattle.bodies.specs.Body.{state_of, window_of, unkeyed, keyed, operational, window_fits}
use Rattle.bodies.specs.Layout.{state_place, window_place}
use Rattle.keys.specs.Keys.{active, deactivated}
use Rattle.image.specs.Image.{version_of, count_of, layout, body_at, body_of, mark_in, key_in, key_id_in, valid_image}
use Rattle.numbers.specs.Numbers.{number_of, agrees}
use Rattle.numbers.specs.Stores.{stores_for, after_stores}
use Rattle.numbers.proofs.AfterStores.{raised, after-all}
use Rattle.numbers.proofs.Agreement.{Accepted, accepted, stores-most, still_agrees}
use Rattle.link.proofs.Carried.{counted}
use Rattle.command_form.specs.Channels.{channels_right}
use Rattle.command_form.specs.Form.{spi_length, key_named, number_asked}
use Rattle.procedures.specs.Procedures.{Procedure, start, stop, rekey, expire, set_number, set_window, status, read_number}
use Rattle.procedures.specs.Procedures.{most_rise, octet_in, key_state_in, procedure_is}
use Rattle.procedures.specs.declared.procedure.Procedure as code
use Rattle.procedures.specs.declared.procedure.Procedure.TheVariants as procedure
use Rattle.commands.proofs.KeptFields.{FieldsOnly, kept-marks}
use Rattle.commands.proofs.Managed.{Managed, unmanaged, from_raised, fields-agree, first_of_one, first_of_two, first_of_three}
use Rattle.commands.proofs.Managed.{state_only, restated_managed, once_only, twice_only, once_managed, twice_managed}
use Rattle.commands.proofs.Managed.{begun_only, renamed_only, rekeyed_only, begun_managed, renamed_managed, rekeyed_managed}
use Rattle.commands.proofs.Turning.{Turns, activates, deactivates}

-- ---- a procedure that may be carried out at entry i

pub record Ready (p : Procedure) (image last : List ℕ) (i : ℕ) (value : List ℕ) : Type 0 where
  pub valid : valid_image image ≡ true
  pub octets : Octets image
  pub thirty_two : length last ≡ 32
  pub agree : agrees image last ≡ true
  pub listed : i < count_of image
  pub octets_in : Octets value
  pub asked : p.asks (state_of (body_of image i)) ≡ true
  pub allowed : p.allows (version_of image) (body_of image i) (number_of last i) value ≡ true
  pub ready : p.ready image i value ≡ true

abbrev pub number_for : Procedure → List ℕ → ℕ → List ℕ → ℕ
number_for p last i value = p.number (number_of last i) value

abbrev pub stores_of : Procedure → List ℕ → List ℕ → ℕ → List ℕ → List Store
stores_of p image last i value = p.stores image i (number_for p last i value) value

-- ---- what it then does

pub record Does (p : Procedure) (image last : List ℕ) (i : ℕ) (value : List ℕ) : Type 0 where
  pub after : (j : ℕ) → Managed image i (stored image (take j (stores_of p image last i value)))
  pub few : length (stores_of p image last i value) ≤ 16
  pub agree : agrees (stored image (stores_of p image last i value)) (set last i (number_for p last i value)) ≡ true
  pub above : number_of last i ≤ number_for p last i value
  pub stands : p.tag ≢ 0x1A → (j : ℕ) → mark_in (stored image (take j (stores_of p image last i value))) i ≡ mark_in image i
  pub same : p.tag ≢ 0x1A → number_for p last i value ≡ number_of last i

-- ---- no store

stored-none : (image : List ℕ) (j : ℕ) → stored image (take j []) ≡ image
unfolding stored
stored-none image j = rw (take-nil {A = Store} j)

module _ (p : Procedure) (image last : List ℕ) (i : ℕ) (value : List ℕ) (r : Ready p image last i value)
    (empty : stores_of p image last i value ≡ []) (as_before : number_for p last i value ≡ number_of last i) where
  nothing : Does p image last i value
  unfolding stored
  nothing =
      record {
        after = λ j. rw (empty, stored-none image j) (unmanaged image i r.valid r.octets);
        few = rw empty (omega arith);
        agree = rw (empty, as_before, set-get_or last i 0) r.agree;
        above = omega arith;
        stands = λ t j. rw (empty, stored-none image j) refl;
        same = λ t. as_before;
      }

-- ---- one store of the state

module _ (p : Procedure) (image last : List ℕ) (i : ℕ) (value : List ℕ) (r : Ready p image last i value) (state : ℕ)
    (small : state ≤ operational) (fits : state ≡ operational → window_fits (window_of (body_of image i)) ≡ true)
    (serves : state ≡ operational → (layout image).keys ≡ true → key_in image active (key_id_in image i) ≡ true)
    (plan : stores_of p image last i value ≡ octet_in image i state_place state ∷ [])
    (as_before : number_for p last i value ≡ number_of last i) where
  moves : Does p image last i value
  unfolding stored
  moves =
      let s : Store = octet_in image i state_place state in
      let only : FieldsOnly image i (set image (body_at image i + state_place) state) = state_only image i r.valid r.listed state in
      record {
        after = λ j.
            rw plan
            (first_of_one (Managed image i) image s (unmanaged image i r.valid r.octets)
            (restated_managed image i r.valid r.listed state r.octets small fits serves) j);
        few = rw plan (omega arith);
        agree = rw (plan, as_before, set-get_or last i 0) (fields-agree image last i _ only r.agree);
        above = omega arith;
        stands = λ t j. rw plan (first_of_one (λ (x : List ℕ). mark_in x i ≡ mark_in image i) image s refl (kept-marks only i) j);
        same = λ t. as_before;
      }

no_state : (state : ℕ) (P : Type 0) → state < operational → state ≡ operational → P
no_state state P h e = absurd (omega arith)

-- ---- the stores of set number are those that raise the mark

module _ (image last : List ℕ) (i : ℕ) (value : List ℕ) (r : Ready set_number image last i value) where
  abbrev n : ℕ
  n = number_asked value

  pub accepted_number : Accepted (number_of last i) most_rise n
  accepted_number = accepted (number_of last i) most_rise n r.allowed

  few_raises : n / 64 - mark_in image i ≤ 16
  few_raises = stores-most image last i n r.agree r.listed most_rise (omega arith) r.allowed

  pub raises_count : length (stores_for image i n) ≡ n / 64 - mark_in image i
  raises_count = counted image i n r.valid r.listed

  numbers : Does set_number image last i value
  unfolding after_stores
  numbers =
      record {
        after = λ j.
            from_raised image i (mark_in image i + min j (n / 64 - mark_in image i)) (after_stores image i n j) (omega arith)
            (raised image i n j r.valid r.octets r.listed accepted_number.fits);
        few = rw raises_count few_raises;
        agree =
            rw (← after-all image i n (n / 64 - mark_in image i) (omega (arith, raises_count)))
            (still_agrees image last i n r.agree r.listed r.valid r.octets r.thirty_two (omega (arith, accepted_number.above)) accepted_number.fits
            (n / 64 - mark_in image i) (omega arith));
        above = omega (arith, accepted_number.above);
        stands = λ t. absurd (t refl);
        same = λ t. absurd (t refl);
      }

-- ---- the two of set window

module _ (image last : List ℕ) (i : ℕ) (value : List ℕ) (r : Ready set_window image last i value) where
  idle : eqb (state_of (body_of image i)) operational ≡ false
  idle = not-true (eqb (state_of (body_of image i)) operational) r.asked

  windows : Does set_window image last i value
  unfolding stored
  windows =
      let high : ℕ = octet value spi_length in
      let low : ℕ = octet value (spi_length + 1) in
      let s : Store = octet_in image i window_place high in
      let t : Store = octet_in image i (window_place + 1) low in
      let h = r.octets_in spi_length in
      let l = r.octets_in (spi_length + 1) in
      let a = once_only image i r.valid r.listed r.octets idle high low h l in
      let b = twice_only image i r.valid r.listed r.octets idle high low h l in
      record {
        after =
            first_of_two (Managed image i) image s t (unmanaged image i r.valid r.octets)
            (once_managed image i r.valid r.listed r.octets idle high low h l)
            (twice_managed image i r.valid r.listed r.octets idle high low h l);
        few = omega arith;
        agree = rw (set-get_or last i 0) (fields-agree image last i _ b r.agree);
        above = omega arith;
        stands = λ u. first_of_two (λ (x : List ℕ). mark_in x i ≡ mark_in image i) image s t refl (kept-marks a i) (kept-marks b i);
        same = λ u. refl;
      }

-- ---- the three of rekey, where there is a key part

module _ (image last : List ℕ) (i : ℕ) (value : List ℕ) (r : Ready rekey image last i value) where
  unkeyed_now : state_of (body_of image i) ≡ unkeyed
  unkeyed_now = sym (eqb-true unkeyed (state_of (body_of image i)) r.asked)

  idle_now : eqb (state_of (body_of image i)) operational ≡ false
  idle_now = rw unkeyed_now refl

  renames : (layout image).keys ≡ true → Does rekey image last i value
  unfolding stored
  renames has =
      let high : ℕ = octet value spi_length in
      let low : ℕ = octet value (spi_length + 1) in
      let s : Store = octet_in image i (layout image).key high in
      let t : Store = octet_in image i ((layout image).key + 1) low in
      let u : Store = octet_in image i state_place keyed in
      let h = r.octets_in spi_length in
      let l = r.octets_in (spi_length + 1) in
      let plan : stores_of rekey image last i value ≡ s ∷ t ∷ u ∷ [] = rw has refl in
      let a = begun_only image i r.valid r.listed r.octets idle_now has high low h l in
      let b = renamed_only image i r.valid r.listed r.octets idle_now has high low h l in
      let c = rekeyed_only image i r.valid r.listed r.octets idle_now has high low h l in
      record {
        after = λ j.
            rw plan
            (first_of_three (Managed image i) image s t u (unmanaged image i r.valid r.octets)
            (begun_managed image i r.valid r.listed r.octets idle_now has high low h l)
            (renamed_managed image i r.valid r.listed r.octets idle_now has high low h l)
            (rekeyed_managed image i r.valid r.listed r.octets idle_now has high low h l) j);
        few = rw plan (omega arith);
        agree = rw (plan, set-get_or last i 0) (fields-agree image last i _ c r.agree);
        above = omega arith;
        stands = λ v j.
            rw plan
            (first_of_three (λ (x : List ℕ). mark_in x i ≡ mark_in image i) image s t u refl (kept-marks a i) (kept-marks b i) (kept-marks c i) j);
        same = λ v. refl;
      }

  rekeys : Does rekey image last i value
  rekeys = by_part (layout image).keys refl
    where
      by_part : (t : Bool) → (layout image).keys ≡ t → Does rekey image last i value
      by_part true has = renames has
      by_part false none =
          moves rekey image last i value r keyed (omega arith) (no_state keyed _ (omega arith)) (no_state keyed _ (omega arith)) (rw none refl) refl

-- ---- each of them

never : {P : Type 0} → ◌≡◌ true false → P
never e = let z : ◌≡◌ {A = ℕ} 0 1 = cc in absurd (omega arith)

pub does : (p : code.Procedure) (image last : List ℕ) (i : ℕ) (value : List ℕ) → (procedure_is p).names ≡ true
    → Ready (procedure_is p) image last i value → Does (procedure_is p) image last i value
does procedure.Start image last i value n r =
    moves start image last i value r operational (omega arith)
    (λ e. and_right (channels_right (version_of image) (body_of image i) value) (window_fits (window_of (body_of image i))) r.allowed) (λ e has. rw has at r.ready) refl refl
does procedure.Stop image last i value n r =
    moves stop image last i value r keyed (omega arith) (no_state keyed _ (omega arith)) (no_state keyed _ (omega arith)) refl refl
does procedure.Rekey image last i value n r = rekeys image last i value r
does procedure.Expire image last i value n r =
    moves expire image last i value r unkeyed (omega arith) (no_state unkeyed _ (omega arith)) (no_state unkeyed _ (omega arith)) refl refl
does procedure.SetNumber image last i value n r = numbers image last i value r
does procedure.SetWindow image last i value n r = windows image last i value r
does procedure.Status image last i value n r = nothing status image last i value r refl refl
does procedure.ReadNumber image last i value n r = nothing read_number image last i value r refl refl
does procedure.Ping image last i value n r = never (sym n)
does procedure.Activation image last i value n r = never (sym n)
does procedure.Deactivation image last i value n r = never (sym n)
does procedure.Inventory image last i value n r = never (sym n)

-- one that names no association keeps the number, and stores nothing or the state of a key that it knows
pub data Quiet (p : Procedure) (image : List ℕ) (e n : ℕ) (value : List ℕ) : Type 0 where
  nothing_stored : p.stores image e n value ≡ [] → Quiet p image e n value
  key_turned : (id state : ℕ) → p.stores image e n value ≡ key_state_in image id state ∷ [] → Turns image id state → Quiet p image e n value

pub quiet : (p : code.Procedure) → (procedure_is p).names ≡ false → (image : List ℕ) (e n last : ℕ) (value : List ℕ)
    → valid_image image ≡ true → (procedure_is p).knows image e value ≡ true → (procedure_is p).ready image e value ≡ true
    → Quiet (procedure_is p) image e n value × ((procedure_is p).number last value ≡ last)
quiet procedure.Start e image i n last value v k r = never e
quiet procedure.Stop e image i n last value v k r = never e
quiet procedure.Rekey e image i n last value v k r = never e
quiet procedure.Expire e image i n last value v k r = never e
quiet procedure.SetNumber e image i n last value v k r = never e
quiet procedure.SetWindow e image i n last value v k r = never e
quiet procedure.Status e image i n last value v k r = never e
quiet procedure.ReadNumber e image i n last value v k r = never e
quiet procedure.Ping e image i n last value v k r = (nothing_stored refl, refl)
quiet procedure.Activation e image i n last value v k r = (key_turned (key_named value) active refl (activates image v (key_named value) k r), refl)
quiet procedure.Deactivation e image i n last value v k r =
    (key_turned (key_named value) deactivated refl (deactivates image v (key_named value) k r), refl)
quiet procedure.Inventory e image i n last value v k r = (nothing_stored refl, refl)
