-- `channels_right` is right because each turn joins the test of one channel more to those before it.
-- Assumes nothing.
use mathlib.Core.Path.{◌≡◌, refl}
use native.Mathlib.Numerals.{add-one}
use native.Mathlib.Omega.{arith}
use Rattle.octets.specs.Lists.{all}
use Rattle.command_form.specs.Channels.{channel_count, channels_right}
use Rattle.command_form.proofs.channels.channels_right.Goals as goal

pub loop-i-init : goal.loop-i-init
unfolding all
loop-i-init c = refl

pub loop-i-preserved : goal.loop-i-preserved
unfolding all
loop-i-preserved c = rw (c.names_one-ok.ensures, c.four_at.ensures, c.loop-i.invariant, add-one)

pub returns : goal.returns
unfolding channels_right
returns c = let all_of : c.loop-i.i ≡ channel_count c.args.value.now = omega (arith, c.channel_count-i-end.ensures) in
    rw (← all_of) c.loop-i.invariant
