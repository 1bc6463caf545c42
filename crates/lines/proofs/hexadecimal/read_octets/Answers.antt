-- `read_octets` is right because each turn stores the octet that the next two characters spell, and it stops where they spell none, the
-- text ends or the room is filled.
-- Assumes nothing.
use Rattle.std.proofs.Common.{rules, arith, ◌≡◌}
use Rattle.lines.proofs.HexadecimalLaws.{reading_more, none-spelled, all_read}
use Rattle.lines.proofs.hexadecimal.read_octets.Goals as goal

pub returns-in_default : goal.returns-in_default
returns-in_default c = none-spelled c.loop-i.invariant (search rules) (search rules)

pub loop-i-preserved : goal.loop-i-preserved
loop-i-preserved c = reading_more c.loop-i.invariant c.in-Some.next (search rules) (search rules) (search rules)

pub returns : goal.returns
returns c =
    let e : c.loop-i.i ≡ c.min-most.result = omega arith in
    rw e at (all_read c.loop-i.invariant (search rules))
