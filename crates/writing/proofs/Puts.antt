-- Texts put into an output one behind the other: no text, a text copied whole, and one text behind another.
-- Assumes nothing.
use mathlib.Core.Path.{◌≡◌, ◌∙◌, refl, ap, sym}
use mathlib.Core.List.{List, [], ◌++◌, append-nil, append_assoc}
use Prim.Native.Nat.{ℕ, ◌+◌, ◌≤◌, ◌<◌}
use native.Mathlib.Nat.{zero-add}
use native.Mathlib.Omega.{arith}
use borrow.Rule.Slice.PartMut.{put_mid, same_len_mid}
use Rattle.std.proofs.lemmas.Slice.{take-put_mid, drop-put_mid}
use borrow.Author.Tests.{le-leb, lt-leb}
use lib.ListN.{length, take, drop, length-append, length-take, length-drop, take-append-drop}
use lib.Seq.{length-take-le, drop-drop}
use Rattle.octets.specs.Output.{fronted}
use Rattle.writing.specs.Output.{Put, written_to}
use Rattle.std.specs.Prelude.{Some, None}

pub put_none : (out : List ℕ) (at : ℕ) → Put out at [] out at
put_none out at = record { size = refl; place = omega arith; front = sym (append-nil (take at out)); rest = refl }

pub put_then : {a s b t c : List ℕ} {at m n : ℕ} → Put a at s b m → Put b m t c n → Put a at (s ++ t) c n
put_then {a} {s} {b} {t} {c} {at} {m} {n} p q =
    record {
      size = q.size ∙ p.size;
      place = simp length-append (omega arith);
      front = q.front ∙ ap (λ (l : List ℕ). l ++ t) p.front ∙ append_assoc (take at a) s t;
      rest = q.rest ∙ rw (q.place, ← drop-drop (length t) m b, ← drop-drop (length t) m a, p.rest);
    }

-- a text copied whole
pub put_whole : (out text : List ℕ) (at k : ℕ) → at + length text ≤ length out → k ≡ length text → Put out at text (put_mid at k out text) (at + length text)
put_whole out text at k room size =
    record {
      size = same_len_mid at k out text (omega (arith, length-take-le k (drop at out) (omega (arith, length-drop at out))));
      place = refl;
      front = take-put_mid at k out text (at + length text) refl (omega arith);
      rest = drop-put_mid at k out text (at + length text) (omega arith) (omega arith) (omega arith);
    }

-- ---- a text at the front of an output, or nothing

pub no_room : (text out : List ℕ) → length out < length text → (None ≡ written_to text out) × (out ≡ fronted text out)
unfolding written_to fronted
no_room text out short = (rw (lt-leb (length text) (length out) short), rw (lt-leb (length text) (length out) short))

pub all-written : (text out : List ℕ) → length text ≤ length out
    → (Some (length text) ≡ written_to text out) × (text ++ drop (length text) out ≡ fronted text out)
unfolding written_to fronted
all-written text out room = (rw (le-leb (length text) (length out) room), rw (le-leb (length text) (length out) room))

-- a text that was put at the front
pub put_fronted : {out text after : List ℕ} {behind : ℕ} → Put out 0 text after behind → after ≡ fronted text out
put_fronted {out} {text} {after} {behind} p =
    let fits : length text ≤ length out = omega (arith, simp length-take at (ap length p.front)) in
    sym (take-append-drop behind after) ∙ rw (p.front, p.rest, p.place, zero-add (length text)) (all-written text out fits).1
