-- Document 01, 'What comes back', answer 3: when a frame obeys its kind, clear or secured. A frame too short for its header is below
-- every least size, so what its header would read past the end decides nothing.
-- Assumes nothing.
use Rattle.std.specs.Prelude.{ℕ, ◌+◌, Bool, ◌&&◌, cond, List, leb, length}
use Rattle.kinds.specs.Kinds.{Kind}

-- the least octets between header and trailer: one of clear data; of a secured frame the SPI, which the search for its entry reads
abbrev pub least : Bool → ℕ
least secured = cond secured 2 1

-- header rules, length field, at most the largest, and at least h+1+f or h+2+f
unfoldable pub obeys : Kind → List ℕ → Bool → Bool
obeys k frame secured =
    k.rules frame
    && k.length_ok frame
    && leb (length frame) k.largest
    && leb (k.header frame + least secured + k.trailer frame) (length frame)
