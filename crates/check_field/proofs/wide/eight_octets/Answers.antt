-- `eight_octets` is right because eight octets have the number of four, moved up by 32 bits, and of the four behind them.
-- Assumes nothing.
use native.Mathlib.Omega.{arith}
use mathlib.Core.Path.{◌≡◌}
use mathlib.Core.List.{List}
use Prim.Native.Nat.{ℕ, ◌+◌, ◌*◌}
use native.Mathlib.Nat.{add-zero}
use lib.Seq.{get_or-drop}
use Rattle.octets.specs.Lists.{octet}
use Rattle.octets.specs.Numbers.{number, number_at}
use Rattle.check_field.proofs.wide.eight_octets.Goals as goal

eight : (at : ℕ) (s : List ℕ) (high low : ℕ)
    → high ≡ ((octet s at * 256 + octet s (at + 1)) * 256 + octet s (at + 2)) * 256 + octet s (at + 3)
    → low ≡ ((octet s (at + 4) * 256 + octet s (at + 5)) * 256 + octet s (at + 6)) * 256 + octet s (at + 7)
    → high * 0x100000000 + low ≡ number_at at 8 s
unfolding number
eight at s high low e f =
    rw (
      get_or-drop at s 0 0,
      get_or-drop at s 1 0,
      get_or-drop at s 2 0,
      get_or-drop at s 3 0,
      get_or-drop at s 4 0,
      get_or-drop at s 5 0,
      get_or-drop at s 6 0,
      get_or-drop at s 7 0,
      add-zero,
    ) (omega arith)

pub returns : goal.returns
returns c = let given = c.args in
    eight given.at given.octets.now c.from_be_bytes-high.result c.from_be_bytes-low.result (omega arith) (omega arith)
