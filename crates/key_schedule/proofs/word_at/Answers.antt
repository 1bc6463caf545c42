-- `word_at` is right octet by octet: octet j of word i is octet 4i + j.
-- Assumes nothing.
use Prim.Native.Nat.{ℕ, ◌*◌}
use native.Mathlib.Nat.{zero-add, add_comm}
use Rattle.octets.specs.Lists.{tab}
use Rattle.key_schedule.proofs.word_at.Goals as goal

pub returns : goal.returns
unfolding tab
returns c = let at : ℕ = 4 * c.args.i in
    cc (zero-add at, add_comm 1 at, add_comm 2 at, add_comm 3 at)
