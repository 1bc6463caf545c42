-- `read_number` is right because what the text spells is always what the digits that are left make of the number so far.
-- Assumes nothing.
use Rattle.std.proofs.Common.{rules, ◌∙◌, sym}
use Rattle.lines.proofs.DecimalLaws.{empty, first_digit, next_digit, digit_refused, ended}
use Rattle.lines.proofs.decimal.read_number.Goals as goal

pub returns-then-is_empty : goal.returns-then-is_empty
returns-then-is_empty c = empty _ (search rules)

pub loop-c-init : goal.loop-c-init
loop-c-init c = first_digit _ (search rules)

pub returns-in_err-n : goal.returns-in_err-n
returns-in_err-n c =
    let e = digit_refused c.args.text.now c.loop-c.n c.loop-c.c-index (search rules) (search rules) in cc

pub loop-c-preserved : goal.loop-c-preserved
loop-c-preserved c = c.loop-c.invariant ∙ next_digit c.args.text.now c.loop-c.n c.loop-c.c-index c.in_ok-n.n (search rules) (search rules)

pub returns : goal.returns
returns c = ended c.args.text.now c.loop-c.n c.loop-c.c-index (search rules) ∙ sym c.loop-c.invariant
