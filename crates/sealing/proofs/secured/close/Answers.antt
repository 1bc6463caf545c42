-- `close` is right because the field is made of the octets behind which it is written, and where there is none nothing is written.
-- Assumes nothing.
use mathlib.Core.Path.{◌≡◌, sym, ap, ◌∙◌}
use mathlib.Core.Bool.{true, false}
use mathlib.Core.List.{List, ◌++◌}
use Prim.Native.Nat.{ℕ, ◌+◌, ◌≤◌}
use native.Mathlib.Omega.{arith}
use lib.ListN.{length, take, drop, take-append-drop}
use lib.Seq.{length-take-le}
use Rattle.octets.specs.Numbers.{bytes}
use Rattle.octets.specs.Output.{written, fronted}
use Rattle.octets.proofs.Filling.{behind}
use Rattle.octets.proofs.Numbers.{length-bytes}
use Rattle.check_field.specs.CheckField.{check_field, with_field}
use Rattle.kinds.specs.Kinds.{check_field_length, framed}
use Rattle.kinds.specs.declared.framing.Framing.{Framing}
use Rattle.frame.specs.Closing.{closed}
use borrow.Author.Rules.{rules}
use Rattle.sealing.proofs.secured.close.Goals as goal

module _ (framing : Framing) (n : ℕ) (out : List ℕ) where
  stands : n ≤ length out → out ≡ written (take n out) out
  stands h = sym (ap (λ (x : ℕ). take n out ++ drop x out) (length-take-le n out h) ∙ take-append-drop n out)

  with_field_lem : framing.field ≡ true → n + check_field_length framing.field ≤ length out → (field : List ℕ) → field ≡ bytes 2 (check_field (take n out))
      → take n out ++ fronted field (drop n out) ≡ written (closed (framed framing) (take n out)) out
  unfolding closed with_field
  with_field_lem present room field made =
      let two = length-bytes 2 (check_field (take n out)) in
      let left : n + 2 ≤ length out = rw present at room in
      rw (present, made)
      (behind n (take n out) (bytes 2 (check_field (take n out))) out out (length-take-le n out (omega arith)) (omega arith) (stands (omega arith)))

  without : framing.field ≡ false → n ≤ length out → out ≡ written (closed (framed framing) (take n out)) out
  unfolding closed
  without none h = rw none (stands h)

pub slice_bounds-field_octets-end-then-framing : goal.slice_bounds-field_octets-end-then-framing
slice_bounds-field_octets-end-then-framing c = sym (length-take-le _ _ (search rules))

pub returns-then-framing : goal.returns-then-framing
returns-then-framing c = let g = c.args in
    c.put_behind.ensures
    ∙ with_field_lem g.framing g.n g.output.now c.if-framing.true c.requires c.field_octets-field.result
    c.field_octets-field.ensures

pub returns-else-framing : goal.returns-else-framing
returns-else-framing c = let g = c.args in without g.framing g.n g.output.now c.if-framing.false (omega arith)
