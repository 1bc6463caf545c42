-- What the functions that read a secured frame make of it once, for their own contracts: no definition of a frame cites this file.
-- Assumes nothing.
use Rattle.std.specs.Prelude.{ℕ, ◌+◌, ◌≤◌, ◌≡◌, List, length}
use Rattle.key_schedule.specs.KeyExpansion.{key_expansion}
use Rattle.kinds.specs.Kinds.{framed}
use Rattle.frame.specs.Parts.{secured_parts}
use Rattle.kinds.specs.declared.framing.Framing.{Framing}
use Rattle.association.specs.declared.held.Held.{Held}
use Rattle.services.specs.SecurityHeader.{security_length}
use Rattle.opening.specs.declared.checked.Opening.{Opening}

abbrev pub opening_of : Framing → Held → List ℕ → Opening
opening_of framing h frame =
    record {
      framing = framing;
      held = h;
      expanded = key_expansion h.key;
      parts = secured_parts (framed framing) (security_length h) frame;
    }

-- it has room for its parts and one octet of data: answers 3 and 5 are past
pub record Opens (o : Opening) (frame : List ℕ) : Type 0 where
  pub opened : o ≡ opening_of o.framing o.held frame
  pub parted : (framed o.framing).header frame + security_length o.held + 17 + (framed o.framing).trailer frame ≤ length frame
  pub small : length frame ≤ 2048
