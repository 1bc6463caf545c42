-- `address_of` is right because an image that breaks a rule is answered by 1, numbers that do not agree by 2, and the rest past these.
-- Assumes nothing.
use mathlib.Core.Path.{sym}
use Rattle.std.specs.Prelude.{Result}
use Rattle.judging.specs.declared.answers.Refusal.{Refusal}
use Rattle.judging.proofs.Standings.{standing_well, unfit_passed}
use Rattle.addressing.specs.Steps.{Addressed}
use Rattle.addressing.specs.declared.address.Address.{Address}
use Rattle.addressing.proofs.address.address_of.Goals as goal

pub returns-in_err-test_standing : goal.returns-in_err-test_standing
returns-in_err-test_standing c = let g = c.args in
    unfit_passed g.image.now g.numbers.last
    (λ (x : Result Address Refusal). Addressed x g.image.now g.numbers.last g.desk g.command.now)
    _ _ _ (λ r j. j) (sym c.in_err-test_standing.ensures) c.from_residual.ensures.1

pub address_within-requires : goal.address_within-requires
address_within-requires c = standing_well c.args.image.now c.args.numbers.last (sym c.in_ok-test_standing.ensures)
