-- Room and length, over every kind: what obeying a kind gives, and that the parts of a clear and of a secured frame lie end to end, have their
-- lengths and make up the frame.
-- Assumes nothing.
use Prim.Native.Nat.{ℕ, ◌+◌, ◌≤◌, ◌<◌}
use mathlib.Core.Path.{◌≡◌, sym, ap, ◌∙◌}
use mathlib.Core.List.{List, ◌++◌}
use mathlib.Core.Bool.{Bool, true, false, ◌&&◌}
use native.Mathlib.Omega.{arith}
use borrow.Author.Tests.{leb-true, le-leb, ltb-false}
use lib.Dec.{leb}
use lib.ListN.{length, take, drop, length-drop, take-append-drop}
use lib.Seq.{slice, length-slice, length-take-le, drop-append-le}
use Rattle.kinds.specs.Kinds.{Kind}
use Rattle.frame.specs.Parts.{mac_length, header_end, security_end, mac_start, trailer_start, too_short}
use Rattle.frame.specs.Parts.{header_of, trailer_of, clear_content, security_of, secured_content, mac_of}
use Rattle.frame.specs.Rules.{least, obeys}

-- ---- what obeying a kind gives, and what gives it

pub record Obeys (k : Kind) (frame : List ℕ) (secured : Bool) : Type 0 where
  pub rules : k.rules frame ≡ true
  pub length_ok : k.length_ok frame ≡ true
  pub largest : length frame ≤ k.largest
  pub room : k.header frame + least secured + k.trailer frame ≤ length frame

both : (a b : Bool) → (a && b) ≡ true → (a ≡ true) × (b ≡ true)
both true b e = (cc, e)
both false b e = let z : ◌≡◌ {A = ℕ} 0 1 = cc in absurd (omega arith)

module _ (k : Kind) (frame : List ℕ) (secured : Bool) where
  pub obeyed : obeys k frame secured ≡ true → Obeys k frame secured
  unfolding obeys
  obeyed e =
      let rules = k.rules frame in
      let counted = k.length_ok frame in
      let small = leb (length frame) k.largest in
      let all = both (rules && counted && small) (leb (k.header frame + least secured + k.trailer frame) (length frame)) e in
      let three = both (rules && counted) small all.0 in
      let two = both rules counted three.0 in
      record {
        rules = two.0;
        length_ok = two.1;
        largest = leb-true (length frame) k.largest three.1;
        room = leb-true (k.header frame + least secured + k.trailer frame) (length frame) all.1;
      }

  pub obeying : Obeys k frame secured → obeys k frame secured ≡ true
  unfolding obeys
  obeying o =
      rw (
        o.rules,
        o.length_ok,
        le-leb (length frame) k.largest o.largest,
        le-leb (k.header frame + least secured + k.trailer frame) (length frame) o.room,
      )

-- ---- parts that lie end to end

-- what lies from one place to another, and what lies from there on
onward : (a b : ℕ) (s : List ℕ) → a ≤ b → b ≤ length s → slice a b s ++ drop b s ≡ drop a s
onward a b s h w =
    let long : length (take b s) ≡ b = length-take-le b s w in
    sym (drop-append-le a (take b s) (drop b s) (omega arith)) ∙ ap (drop a) (take-append-drop b s)

-- a frame with room for header and trailer
module _ (k : Kind) (frame : List ℕ) (room : k.header frame + k.trailer frame ≤ length frame) where
  pub length-header : length (header_of k frame) ≡ k.header frame
  unfolding header_of
  length-header = length-take-le (k.header frame) frame (omega arith)

  pub length-trailer : length (trailer_of k frame) ≡ k.trailer frame
  unfolding trailer_of
  length-trailer = length-drop (trailer_start k frame) frame ∙ omega arith

  pub length_clear : k.header frame + length (clear_content k frame) + k.trailer frame ≡ length frame
  unfolding clear_content
  length_clear = let l = length-slice (header_end k frame) (trailer_start k frame) frame (omega arith) in omega arith

  pub clear_whole : header_of k frame ++ (clear_content k frame ++ trailer_of k frame) ≡ frame
  unfolding header_of clear_content trailer_of
  clear_whole =
      rw (onward (header_end k frame) (trailer_start k frame) frame (omega arith) (omega arith)) (take-append-drop (header_end k frame) frame)

-- a secured frame to which answer 5 does not apply
module _ (k : Kind) (s : ℕ) (frame : List ℕ) (long : too_short k s frame ≡ false) where
  enough : k.header frame + s + 1 + mac_length + k.trailer frame ≤ length frame
  enough = ltb-false (length frame) (k.header frame + s + 1 + mac_length + k.trailer frame) long

  pub length_security : length (security_of k s frame) ≡ s
  unfolding security_of
  length_security = let e = enough in length-slice (header_end k frame) (security_end k s frame) frame (omega arith) ∙ omega arith

  pub length-mac : length (mac_of k frame) ≡ mac_length
  unfolding mac_of
  length-mac = let e = enough in length-slice (mac_start k frame) (trailer_start k frame) frame (omega arith) ∙ omega arith

  pub length-secured : k.header frame + s + length (secured_content k s frame) + mac_length + k.trailer frame ≡ length frame
  unfolding secured_content
  length-secured =
      let e = enough in
      let l = length-slice (security_end k s frame) (mac_start k frame) frame (omega arith) in
      omega arith

  pub some_data : 0 < length (secured_content k s frame)
  some_data = let e = enough in let l = length-secured in omega arith

  pub secured-whole : header_of k frame ++ (security_of k s frame ++ (secured_content k s frame ++ (mac_of k frame ++ trailer_of k frame))) ≡ frame
  unfolding header_of security_of secured_content mac_of trailer_of
  secured-whole =
      let e = enough in
      rw (
        onward (mac_start k frame) (trailer_start k frame) frame (omega arith) (omega arith),
        onward (security_end k s frame) (mac_start k frame) frame (omega arith) (omega arith),
        onward (header_end k frame) (security_end k s frame) frame (omega arith) (omega arith),
      ) (take-append-drop (header_end k frame) frame)
