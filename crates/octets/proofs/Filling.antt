-- An output that is filled from its front on: a text an octet a turn, and a piece behind a text, which makes both together the text.
-- Assumes nothing.
use mathlib.Core.Path.{◌≡◌, ◌∙◌, refl, ap, sym}
use mathlib.Core.List.{List, [], ◌∷◌, ◌++◌, append_assoc, append-nil}
use Prim.Native.Nat.{ℕ, ◌+◌, ◌-◌, ◌≤◌, ◌<◌}
use native.Mathlib.Nat.{zero-add}
use native.Mathlib.Numerals.{add-one}
use native.Mathlib.Omega.{arith}
use borrow.Author.Tests.{le-leb, lt-leb}
use borrow.Rule.Slice.PartMut.{put_mid, mid_of}
use lib.ListN.{length, set, take, drop, length-append, length-drop, drop_of_length-le}
use lib.Seq.{paste-suc, take_all, take_at, drop_at, drop-drop}
use Rattle.octets.specs.Lists.{octet}
use Rattle.octets.specs.Output.{written, fronted}

pub length-written : (text out : List ℕ) → length text ≤ length out → length (written text out) ≡ length out
length-written text out h = simp (length-append, length-drop) (omega arith)

-- after i turns the first i octets are the text's, and the rest stands
pub front_more : (text old : List ℕ) (i : ℕ) → i < length text → i < length old
    → set (take i text ++ drop i old) i (octet text i) ≡ take (i + 1) text ++ drop (i + 1) old
front_more text old i t o = rw add-one (simp zero-add at (paste-suc old 0 text i 0 (omega arith) t))

-- an output with room for the text, and one without
pub with_room : (text out : List ℕ) → length text ≤ length out → fronted text out ≡ written text out
unfolding fronted
with_room text out room = rw (le-leb (length text) (length out) room)

pub without_room : (text out : List ℕ) → length out < length text → fronted text out ≡ out
unfolding fronted
without_room text out short = rw (lt-leb (length text) (length out) short)

-- ---- a piece behind the first octets

-- what is lent from a place on is all that stands there, and nothing stands behind it
lent : (a : ℕ) (out : List ℕ) → mid_of a (length out - a) out ≡ drop a out
lent a out = take_all (length out - a) (drop a out) (simp length-drop (omega arith))

put_back : (a : ℕ) (out part : List ℕ) → put_mid a (length out - a) out part ≡ take a out ++ part
put_back a out part =
    ap (λ (r : List ℕ). take a out ++ (part ++ r)) (drop_of_length-le (drop a out) {i = length out - a} (simp length-drop (omega arith)))
    ∙ ap (λ (r : List ℕ). take a out ++ r) (append-nil part)

-- the output, of which all from a on was lent and given back as f makes it
pub lent_back : (a : ℕ) (f : List ℕ → List ℕ) (out : List ℕ)
    → put_mid a (length out - a) out (f (mid_of a (length out - a) out)) ≡ take a out ++ f (drop a out)
lent_back a f out =
    put_back a out (f (mid_of a (length out - a) out)) ∙ ap (λ (r : List ℕ). take a out ++ f r) (lent a out)

-- behind all its octets an output has room for nothing
nowhere : (piece : List ℕ) → fronted piece [] ≡ []
unfolding fronted
nowhere [] = refl
nowhere (x ∷ piece) = without_room (x ∷ piece) [] (omega arith)

pub past_the_end : (a : ℕ) (piece out : List ℕ) → length out ≤ a → take a out ++ fronted piece (drop a out) ≡ out
past_the_end a piece out h = rw (drop_of_length-le out h, nowhere piece, append-nil, take_all a out h)

-- behind a text that stands at the front
pub behind : (a : ℕ) (text piece out whole : List ℕ) → length text ≡ a → a + length piece ≤ length out → whole ≡ written text out
    → take a whole ++ fronted piece (drop a whole) ≡ written (text ++ piece) out
behind a text piece out whole e room w =
    let left : length piece ≤ length (drop a out) = simp length-drop (omega arith) in
    rw (
      w,
      e,
      take_at text (drop a out) a e,
      drop_at text (drop a out) a e,
      with_room piece (drop a out) left,
      drop-drop (length piece) a out,
      length-append text piece,
      e,
    )
    (sym (append_assoc text piece (drop (a + length piece) out)))
