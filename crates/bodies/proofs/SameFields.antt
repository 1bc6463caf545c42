-- Of two bodies that differ at most in octets behind the fields that every version has, these fields are the same; and the bodies obey the
-- rules alike if their marks and owners do.
-- Assumes nothing.
use mathlib.Core.Path.{◌≡◌, refl}
use mathlib.Core.Logic.{inl, inr}
use mathlib.Core.List.{List}
use Prim.Native.Nat.{ℕ, ◌+◌, ◌≤◌}
use native.Mathlib.Omega.{arith}
use Rattle.std.specs.Prelude.{Option, Some, None}
use Rattle.kinds.specs.Kinds.{named}
use Rattle.kinds.specs.declared.kinds.Kind as code
use Rattle.octets.proofs.Outside.{Changed, same_number, same-part}
use Rattle.bodies.specs.Body.{service_of, kind_in, direction_of, state_of, spacecraft_of, channel_of, map_of, window_of, mask_of}
use Rattle.bodies.specs.Body.{owner_of, kind_ok, mark_ok, body_ok}
use Rattle.bodies.specs.Layout.{service_place, kind_place, direction_place, state_place, spacecraft_place, channel_place, map_place, window_place}
use Rattle.bodies.specs.Layout.{mask_place, mask_length, fields_end, owner_place, layout_of}

pub record SameFields (body other : List ℕ) : Type 0 where
  pub service : service_of other ≡ service_of body
  pub kind : kind_in other ≡ kind_in body
  pub direction : direction_of other ≡ direction_of body
  pub state : state_of other ≡ state_of body
  pub spacecraft : spacecraft_of other ≡ spacecraft_of body
  pub channel : channel_of other ≡ channel_of body
  pub map : map_of other ≡ map_of body
  pub window : window_of other ≡ window_of body
  pub mask : mask_of other ≡ mask_of body

-- bodies that differ at most in octets behind these fields
pub same-fields : {body other : List ℕ} {at n : ℕ} → fields_end ≤ at → Changed body at n other → SameFields body other
same-fields h c =
    record {
      service = c.outside service_place (inl (omega arith));
      kind = c.outside kind_place (inl (omega arith));
      direction = c.outside direction_place (inl (omega arith));
      state = c.outside state_place (inl (omega arith));
      spacecraft = same_number c spacecraft_place 2 (inl (omega arith));
      channel = c.outside channel_place (inl (omega arith));
      map = c.outside map_place (inl (omega arith));
      window = same_number c window_place 2 (inl (omega arith));
      mask = same-part c mask_place mask_length (inl (omega arith));
    }

-- and bodies that differ at most in octets before the owner have the same
pub same-owner : (version : ℕ) {body other : List ℕ} {at n : ℕ} → at + n ≤ owner_place (layout_of version) → Changed body at n other
    → owner_of version other ≡ owner_of version body
same-owner version h c = rw (c.outside (owner_place (layout_of version)) (inr h))

same_kind : (version : ℕ) (body other : List ℕ) → SameFields body other → (x : Option code.Kind) → kind_ok version x other ≡ kind_ok version x body
same_kind version body other f (Some k) = cc
same_kind version body other f None = refl

-- they obey the rules alike if their marks do and their owners are the same, serve alike, and protect alike
pub same-rules : (version : ℕ) (body other : List ℕ) → SameFields body other → mark_ok version other ≡ mark_ok version body
    → owner_of version other ≡ owner_of version body → body_ok version other ≡ body_ok version body
unfolding body_ok
same-rules version body other f mark owner = cc (same_kind version body other f (named (kind_in body)))
