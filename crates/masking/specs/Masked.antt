-- Document 01, 'Frames', and document 02, request 6: the header as the MAC covers it, each octet ANDed with the mask. The mask has six octets:
-- a secondary header lies behind them, and stays as it is, as under octets of ones. A security header is never given to the mask.
-- Assumes nothing.
use Rattle.std.specs.Prelude.{ℕ, cond, List, [], ◌∷◌, leb, length, Option, Some, None}
use Rattle.std.specs.Int.Bits.{bit_and}
use Rattle.kinds.specs.Kinds.{Kind}
use Rattle.frame.specs.Parts.{header_of}

-- octets that the mask does not reach stay as they are
unfoldable pub masked : List ℕ → List ℕ → List ℕ
masked [] header = header
masked (m ∷ mask) [] = []
masked (m ∷ mask) (x ∷ header) = bit_and x m ∷ masked mask header

unfoldable pub masked_header : Kind → List ℕ → List ℕ → List ℕ
masked_header k mask frame = masked mask (header_of k frame)

-- what comes back of a text that is to go to the front of an output: how many octets it has, or none where they find no room
unfoldable pub answered : List ℕ → List ℕ → Option ℕ
answered text out = cond (leb (length text) (length out)) (Some (length text)) None
