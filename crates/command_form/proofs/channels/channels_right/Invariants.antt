use mathlib.Core.Path.{◌≡◌}
use Rattle.octets.specs.Lists.{all}
use Rattle.kinds.specs.Kinds.{named}
use Rattle.bodies.specs.Body.{body_in, kind_in}
use Rattle.command_form.specs.Channels.{names_one, channel_named}
use Rattle.command_form.proofs.channels.channels_right.Given as goal

abbrev pub invariant-loop-i : goal.invariant-loop-i
invariant-loop-i l = let body = body_in l.image l.version l.at in
    l.ok ≡ all l.i (λ j. names_one l.version (named (kind_in body)) body (channel_named l.value j))
