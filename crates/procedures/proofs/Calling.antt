-- The procedure that a command calls: the one with its tag, where the length is right; else none.
-- Assumes nothing.
use mathlib.Core.Path.{◌≡◌, refl, sym, ap, ◌∙◌}
use mathlib.Core.Bool.{Bool, true, false, cond, ◌&&◌, and-false}
use mathlib.Core.List.{List, [], ◌∷◌}
use Prim.Native.Nat.{ℕ, ◌≤◌}
use native.Mathlib.Omega.{arith}
use borrow.Author.Tests.{eqb-true, leb-true}
use lib.Dec.{eqb, leb}
use lib.ListN.{length}
use Rattle.std.specs.Prelude.{Option, Some, None}
use Rattle.octets.proofs.Alls.{and_left, and_right}
use Rattle.command_form.specs.Form.{front_length, tag_of, value_of, measured}
use Rattle.procedures.specs.Procedures.{procedure_is, procedures, with_tag, sized_for, called}
use Rattle.procedures.specs.declared.procedure.Procedure as code

module _ (command : List ℕ) where
  pub called-none : with_tag (tag_of command) procedures ≡ None → called command ≡ None
  unfolding called
  called-none x = rw (x, and-false)

  module _ (p : code.Procedure) (x : with_tag (tag_of command) procedures ≡ Some p) where
    pub called_so : (measured command && (procedure_is p).sized (length (value_of command))) ≡ true → called command ≡ Some p
    unfolding called
    called_so e = rw (x, e)

    pub called_wrong : (measured command && (procedure_is p).sized (length (value_of command))) ≡ false → called command ≡ None
    unfolding called
    called_wrong e = rw (x, e)

-- a command that calls one has its tag, and a length that is right
pub called_parts : (command : List ℕ) (p : code.Procedure) → called command ≡ Some p
    → (with_tag (tag_of command) procedures ≡ Some p)
    × ((measured command && (procedure_is p).sized (length (value_of command))) ≡ true)
unfolding called
called_parts command p = by-tag (with_tag (tag_of command) procedures) refl
  where
    n : ℕ
    n = length (value_of command)

    by_length : (r : code.Procedure) (t : Bool) → (measured command && (procedure_is r).sized n) ≡ t
        → cond t (Some r) None ≡ Some p
        → (Some r ≡ Some p) × ((measured command && (procedure_is p).sized n) ≡ true)
    by_length r true m e =
        let is : r ≡ p = cc in (e, ap (λ (x : code.Procedure). measured command && (procedure_is x).sized n) (sym is) ∙ m)
    by_length r false m e = let z : ◌≡◌ {A = ℕ} 0 1 = cc in absurd (omega arith)

    by-tag : (x : Option code.Procedure) → with_tag (tag_of command) procedures ≡ x
        → cond (measured command && sized_for x n) x None ≡ Some p
        → (x ≡ Some p) × ((measured command && (procedure_is p).sized n) ≡ true)
    by-tag (Some r) is e = by_length r (measured command && (procedure_is r).sized n) refl e
    by-tag None is e = let z : ◌≡◌ {A = ℕ} 0 1 = cc (rw and-false at e) in absurd (omega arith)

module _ (command : List ℕ) (p : code.Procedure) (c : called command ≡ Some p) where
  pub called-measured : measured command ≡ true
  called-measured = and_left (measured command) _ (called_parts command p c).1

  pub called-sized : (procedure_is p).sized (length (value_of command)) ≡ true
  called-sized = and_right (measured command) _ (called_parts command p c).1

  -- tag and length field are there
  pub called-long : front_length ≤ length command
  called-long = leb-true front_length (length command) (and_left (leb front_length (length command)) _ called-measured)

-- the tag of a command is that of the procedure that it calls
tagged : (tag : ℕ) (ps : List code.Procedure) (p : code.Procedure) → with_tag tag ps ≡ Some p → tag ≡ (procedure_is p).tag
unfolding with_tag
tagged tag [] p e = let z : ◌≡◌ {A = ℕ} 0 1 = cc in absurd (omega arith)
tagged tag (c ∷ cs) p e = by-tag (eqb tag (procedure_is c).tag) refl e (tagged tag cs p)
  where
    by-tag : (t : Bool) → eqb tag (procedure_is c).tag ≡ t → cond t (Some c) (with_tag tag cs) ≡ Some p
        → (with_tag tag cs ≡ Some p → tag ≡ (procedure_is p).tag) → tag ≡ (procedure_is p).tag
    by-tag true t here later =
        let is : c ≡ p = cc in eqb-true tag (procedure_is c).tag t ∙ ap (λ (x : code.Procedure). (procedure_is x).tag) is
    by-tag false t here later = later here

pub called-tag : (command : List ℕ) (p : code.Procedure) → called command ≡ Some p → tag_of command ≡ (procedure_is p).tag
called-tag command p c = tagged (tag_of command) procedures p (called_parts command p c).0
