-- `called_by` is right because it makes the definition's tests: the tag, the length field, the length of the value.
-- Assumes nothing.
use mathlib.Core.Path.{◌≡◌, sym, ap, ◌∙◌}
use mathlib.Core.Bool.{◌&&◌}
use Prim.Native.Nat.{ℕ}
use lib.ListN.{length}
use Rattle.command_form.specs.Form.{tag_of, value_of, measured}
use Rattle.procedures.specs.Procedures.{procedure_is, procedures, with_tag}
use Rattle.procedures.proofs.Calling.{called-none, called_so, called_wrong}
use Rattle.procedures.proofs.tags.called_by.Goals.{After-with_tag, After-sized}
use Rattle.procedures.proofs.tags.called_by.Goals as goal

-- the procedure that has the command's tag
tagged : (c : After-with_tag) → with_tag (tag_of c.args.command.now) procedures ≡ c.with_tag.result
tagged c = sym (c.with_tag.ensures ∙ ap (λ (t : ℕ). with_tag t procedures) c.octet_at.ensures)

-- whether its length is right
right : (c : After-sized) → let command = c.args.command.now in
    (measured command && (procedure_is c.in_ok-procedure.procedure).sized (length (value_of command)))
    ≡ (c.measured.result && c.sized.result)
right c = rw (c.measured.ensures, c.sized.ensures, c.value_length.ensures)

pub returns-then-measured-sized : goal.returns-then-measured-sized
returns-then-measured-sized c = let at = goal.at.returns-then-measured-sized c in
    sym (called_so c.args.command.now _ (tagged at.After-with_tag ∙ c.in_ok-procedure.was) (right at.After-sized ∙ c.if-measured-sized.true))

pub returns : goal.returns
returns c = let at = goal.at.returns c in
    sym (called_wrong c.args.command.now _ (tagged at.After-with_tag ∙ c.in_ok-procedure.was) (right at.After-sized ∙ c.if-measured-sized.false))

pub returns-in_err-procedure : goal.returns-in_err-procedure
returns-in_err-procedure c = let at = goal.at.returns-in_err-procedure c in
    c.from_residual.ensures ∙ sym (called-none c.args.command.now (tagged at.After-with_tag ∙ c.in_err-procedure.was))
