-- What the function that makes a secured frame asks for, for its contract: a clear frame that has room for its parts, and an output for the
-- secured one; answers 3, 11 and 6 are past. No definition of a frame cites this file.
-- Assumes nothing.
use Rattle.std.specs.Prelude.{ℕ, ◌+◌, ◌≤◌, List, length}
use Rattle.kinds.specs.Kinds.{Kind}
use Rattle.association.specs.declared.held.Held.{Held}
use Rattle.protection.specs.Protection.{secured_length}

pub record Securable (h : Held) (k : Kind) (frame : List ℕ) (room : ℕ) : Type 0 where
  pub parted : k.header frame + k.trailer frame ≤ length frame
  pub small : length frame ≤ 2048
  pub roomy : secured_length h frame ≤ room
