-- Header and trailer of every kind are short, so that no sum of lengths wraps.
-- Assumes nothing.
use Prim.Native.Nat.{ℕ, ◌+◌, ◌%◌, ◌≤◌, ◌<◌}
use mathlib.Core.Bool.{Bool, true, false, cond}
use mathlib.Core.List.{List}
use native.Mathlib.Omega.{arith}
use lib.Dec.{eqb}
use Rattle.octets.specs.Lists.{octet}
use Rattle.headers.specs.Fields.{tm_secondary}
use Rattle.headers.specs.Telemetry.{most_secondary}
use Rattle.kinds.specs.Kinds.{most_header, kind_is, check_field_length, framed}
use Rattle.kinds.specs.declared.framing.Framing.{Framing}
use Rattle.kinds.specs.declared.kinds.Kind.{Kind}
use Rattle.kinds.specs.declared.kinds.Kind.TheVariants as kind

secondary-most : (none : Bool) (n : ℕ) → cond none 0 (n % 64 + 1) ≤ most_secondary
secondary-most true n = omega arith
secondary-most false n = omega arith

pub header-most : (k : Kind) (frame : List ℕ) → (kind_is k).header frame ≤ most_header
header-most kind.Tc frame = omega arith
header-most kind.SegmentedTc frame = omega arith
header-most kind.Tm frame = omega (arith, secondary-most (eqb (tm_secondary frame) 0) (octet frame 6))
header-most kind.Aos frame = omega arith

pub header_short : (k : Kind) (frame : List ℕ) → (kind_is k).header frame < 256
header_short k frame = let h = header-most k frame in omega arith

-- the longest trailer is the operational control field
trailer-most : (k : Kind) (frame : List ℕ) → (kind_is k).trailer frame ≤ 4
trailer-most kind.Tc frame = omega arith
trailer-most kind.SegmentedTc frame = omega arith
trailer-most kind.Tm frame = omega arith
trailer-most kind.Aos frame = omega arith

pub trailer_short : (framing : Framing) (frame : List ℕ) → (framed framing).trailer frame < 256
trailer_short framing frame = by_presence framing.kind framing.field
  where
    by_presence : (k : Kind) (present : Bool) → (kind_is k).trailer frame + check_field_length present < 256
    by_presence k true = omega (arith, trailer-most k frame)
    by_presence k false = omega (arith, trailer-most k frame)

-- no frame is larger than 2,048 octets
pub largest-most : (k : Kind) → (kind_is k).largest ≤ 2048
largest-most kind.Tc = omega arith
largest-most kind.SegmentedTc = omega arith
largest-most kind.Tm = omega arith
largest-most kind.Aos = omega arith
