-- What is promised of salvage: refusals by the paper's tests; the new image as a load reads it; the account of what became of each entry; and
-- a valid image, all of whose entries stay.
-- Assumes nothing.
use mathlib.Core.Path.{◌≡◌, refl, ap₂, ◌∙◌}
use mathlib.Core.Bool.{Bool, true, false, ◌&&◌, ◌||◌}
use mathlib.Core.List.{List, []}
use Prim.Native.Nat.{ℕ, zero, suc, ◌+◌, ◌*◌, ◌≤◌}
use native.Mathlib.Omega.{arith}
use borrow.Author.Tests.{le-leb, ne_eqb}
use lib.Dec.{eqb}
use lib.ListN.{length}
use Rattle.octets.specs.Lists.{Octets}
use Rattle.octets.proofs.Alls.{and_left, and_right}
use Rattle.image.specs.Image.{version_of, count_of, valid_image}
use Rattle.salvage_image.specs.Salvage.{salvageable, salvaged_image}
use Rattle.salvage_image.proofs.Sizes.{Taken, taken, image_taken, image-refused}
use Rattle.salvage_lines.specs.Lines.{salvage_lines}
use Rattle.salvage_lines.proofs.LineParts.{lines_taken, lines-refused}
use Rattle.promises.specs.Images.{version_in, count_in, ImageRules}
use Rattle.promises.proofs.Fields.{old_shape}
use Rattle.promises.proofs.Valids.{rules-kept, rules-valid}
use Rattle.salvage_promises.specs.Salvaging.{Accepted, Salvaging}
use Rattle.salvage_promises.proofs.Afresh.{new_version, new_valid, new_octets}
use Rattle.salvage_promises.proofs.Fates.{fate_of, accounted}
use Rattle.salvage_promises.proofs.Untouched.{no_lines, same-image}

-- ---- what is refused

one-or-two : (v : ℕ) → (1 ≤ v) × (v ≤ 2) → (eqb v 1 || eqb v 2) ≡ true
one-or-two zero h = absurd (omega arith)
one-or-two (suc zero) h = refl
one-or-two (suc (suc zero)) h = refl
one-or-two (suc (suc (suc n))) h = absurd (omega arith)

pub accepted_taken : (x : List ℕ) → Accepted x → salvageable x ≡ true
unfolding salvageable
accepted_taken x a =
    ap₂ ◌&&◌
    (ap₂ ◌&&◌ (ap₂ ◌&&◌ (le-leb 2 (length x) a.size.0) (le-leb (length x) 1794 a.size.1)) (one-or-two (version_of x) a.version))
    (le-leb (count_of x) 32 a.count)

two-or-one : (v : ℕ) → (eqb v 1 || eqb v 2) ≡ true → (1 ≤ v) × (v ≤ 2)
two-or-one zero e = let z : ◌≡◌ {A = ℕ} 0 1 = cc in absurd (omega arith)
two-or-one (suc zero) e = (omega arith, omega arith)
two-or-one (suc (suc zero)) e = (omega arith, omega arith)
two-or-one (suc (suc (suc n))) e =
    let other : ℕ = suc (suc (suc n)) in
    let none : (eqb other 1 || eqb other 2) ≡ false = rw (ne_eqb other 1 (omega arith), ne_eqb other 2 (omega arith)) in
    let z : ◌≡◌ {A = ℕ} 0 1 = cc in
    absurd (omega arith)

taken_accepted : (x : List ℕ) → salvageable x ≡ true → Accepted x
unfolding salvageable
taken_accepted x e =
    let t : Taken x = taken x e in
    record { size = t.long; version = two-or-one (version_of x) (search (and_left, and_right) depth 9); count = t.count }

not_taken : (x : List ℕ) → (Accepted x → ⊥) → salvageable x ≡ false
not_taken x never = by_test (salvageable x) refl
  where
    by_test : (t : Bool) → salvageable x ≡ t → salvageable x ≡ false
    by_test true e = absurd (never (taken_accepted x e))
    by_test false e = e

-- ---- the promise

pub salvaged_valid : (x : List ℕ) → Accepted x → valid_image (salvaged_image x) ≡ true
salvaged_valid x a = let e = accepted_taken x a in rw (image_taken x e) (new_valid x (taken x e))

pub salvaged_octets : (x : List ℕ) → Octets x → Accepted x → Octets (salvaged_image x)
salvaged_octets x octets a = let e = accepted_taken x a in rw (image_taken x e) (new_octets x (taken x e) octets)

come_back : (x : List ℕ) → Octets x → ImageRules x → version_in x ≤ 2 → (salvaged_image x ≡ x) × (salvage_lines x ≡ [])
come_back x octets rules two =
    let o = old_shape (version_in x) two in
    let size : length x ≡ 2 + 56 * count_in x = rules.size ∙ rw (o.front, o.body, o.key_part) (omega arith) in
    let a : Accepted x = record {
      size = (omega arith, omega (arith, rules.count));
      version = (rules.version.0, two);
      count = rules.count;
    } in
    let e = accepted_taken x a in
    let passed = rules-valid x octets rules in (
      image_taken x e ∙ same-image x (taken x e) passed octets,
      lines_taken x e ∙ no_lines x (taken x e) passed,
    )

pub salvaging : Salvaging
salvaging =
    record {
      refused = λ x never. (image-refused x (not_taken x never), lines-refused x (not_taken x never));
      version = λ x a. let e = accepted_taken x a in rw (image_taken x e) (new_version x (taken x e));
      valid = λ x octets a. rules-kept (salvaged_image x) (salvaged_octets x octets a) (salvaged_valid x a);
      account = λ x octets a.
          let e = accepted_taken x a in
          (fate_of x, rw (image_taken x e, lines_taken x e) (accounted x octets (taken x e)));
      untouched = come_back;
    }
