-- A field of a command's value stands three octets further on in the command.
-- Assumes nothing.
use Prim.Native.Nat.{ℕ, ◌+◌}
use mathlib.Core.Path.{◌≡◌, ap}
use mathlib.Core.List.{List}
use lib.Seq.{drop-drop}
use Rattle.octets.specs.Numbers.{number, number_at}
use Rattle.command_form.specs.Form.{front_length, value_of}

pub shifted : (command : List ℕ) (at n : ℕ) → number_at at n (value_of command) ≡ number_at (front_length + at) n command
shifted command at n = ap (number n) (drop-drop at front_length command)
