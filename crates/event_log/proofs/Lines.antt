-- The reply to a dump: its lines stand one behind the other, five octets for each event. The reply to an erase: its seven octets.
-- Assumes nothing.
use mathlib.Core.Path.{◌≡◌, ◌∙◌, refl, sym, ap}
use mathlib.Core.List.{List, [], ◌∷◌, ◌++◌, append_assoc, append-nil}
use Prim.Native.Nat.{ℕ, zero, suc, ◌+◌, ◌*◌, ◌/◌, ◌%◌, ◌≤◌, ◌<◌}
use native.Mathlib.Nat.{div-one}
use native.Mathlib.Numerals.{add-one}
use native.Mathlib.Omega.{arith}
use lib.ListN.{length, take, drop, length-append, take-append-drop}
use lib.Seq.{drop-drop, drop-append-add, length-take-le}
use Rattle.octets.specs.Numbers.{bytes}
use Rattle.octets.specs.Output.{written, fronted}
use Rattle.octets.proofs.Filling.{with_room, without_room, behind}
use Rattle.event_log.specs.Events.{Event, event_line, dump_value, dump_reply, erase_reply}
use Rattle.event_log.specs.Held.{event_at, events_in, lines_behind}

-- ---- the events of a record, one more

pub length-events : (n : ℕ) (s : List ℕ) → length (events_in n s) ≡ n
unfolding events_in
length-events zero s = refl
length-events (suc n) s = simp (length-append, length-events n s) (add-one n)

pub events_more : (i : ℕ) (s : List ℕ) → events_in i s ++ (event_at s i ∷ []) ≡ events_in (i + 1) s
unfolding events_in
events_more i s = ap (λ (k : ℕ). events_in k s) (sym (add-one i))

length-value : (es : List Event) → length (dump_value es) ≡ 5 * length es
unfolding dump_value
length-value [] = refl
length-value (e ∷ es) = simp (length-append, length-value es) (omega arith)

pub value_more : (es : List Event) (e : Event) → dump_value (es ++ (e ∷ [])) ≡ dump_value es ++ event_line e
unfolding dump_value
value_more [] e = refl
value_more (x ∷ es) e = ap (λ (v : List ℕ). event_line x ++ v) (value_more es e)

value-long : (n : ℕ) (s : List ℕ) → length (dump_value (events_in n s)) ≡ 5 * n
value-long n s = length-value (events_in n s) ∙ ap (λ (k : ℕ). 5 * k) (length-events n s)

-- ---- an output with the first i lines behind its first three octets

module _ (out s : List ℕ) where
  pub lines_none : 3 ≤ length out → lines_behind out s 0 ≡ out
  unfolding events_in dump_value
  lines_none h = rw (append-nil (take 3 out), length-take-le 3 out h) (take-append-drop 3 out)

  front_long : (i : ℕ) → 3 ≤ length out → length (take 3 out ++ dump_value (events_in i s)) ≡ 3 + 5 * i
  front_long i h =
      length-append (take 3 out) (dump_value (events_in i s))
      ∙ ap (λ (k : ℕ). k + length (dump_value (events_in i s))) (length-take-le 3 out h)
      ∙ ap (λ (k : ℕ). 3 + k) (value-long i s)

  pub lines_more : (i : ℕ) (whole : List ℕ) → 3 + 5 * i + 5 ≤ length out → whole ≡ lines_behind out s i
      → take (3 + 5 * i) whole ++ fronted (event_line (event_at s i)) (drop (3 + 5 * i) whole) ≡ lines_behind out s (i + 1)
  lines_more i whole h e =
      behind (3 + 5 * i) (take 3 out ++ dump_value (events_in i s)) (event_line (event_at s i)) out whole (front_long i (omega arith)) h e
      ∙ ap (λ (t : List ℕ). written t out)
      (append_assoc (take 3 out) (dump_value (events_in i s)) (event_line (event_at s i))
      ∙ ap (λ (v : List ℕ). take 3 out ++ v) (sym (value_more (events_in i s) (event_at s i)) ∙ ap dump_value (events_more i s)))

-- ---- the whole reply

pub reply-long : (n : ℕ) (s : List ℕ) → length (dump_reply (events_in n s)) ≡ 3 + 5 * n
unfolding dump_reply bytes
reply-long n s = let value = value-long n s in omega (arith, value)

-- tag and length field
abbrev front : ℕ → List ℕ
front n = 0xB3 ∷ bytes 2 (5 * n)

reply_parts : (n : ℕ) (s : List ℕ) → dump_reply (events_in n s) ≡ front n ++ dump_value (events_in n s)
unfolding dump_reply
reply_parts n s = ap (λ (k : ℕ). 0xB3 ∷ (bytes 2 k ++ dump_value (events_in n s))) (value-long n s)

-- a text over its own front
written_twice : (a b out : List ℕ) → written (a ++ b) (written a out) ≡ written (a ++ b) out
written_twice a b out =
    rw (length-append a b)
    (ap (λ (t : List ℕ). a ++ b ++ t) (drop-append-add a (drop (length a) out) (length b) ∙ drop-drop (length b) (length a) out))

pub reply-written : (out s : List ℕ) (n : ℕ) → 3 + 5 * n ≤ length out
    → lines_behind (fronted (front n) out) s n ≡ fronted (dump_reply (events_in n s)) out
unfolding bytes
reply-written out s n room =
    let whole : length (front n ++ dump_value (events_in n s)) ≡ 3 + 5 * n = ap length (sym (reply_parts n s)) ∙ reply-long n s in
    ap (λ (o : List ℕ). lines_behind o s n) (with_room (front n) out (omega arith))
    ∙ written_twice (front n) (dump_value (events_in n s)) out
    ∙ sym (with_room (front n ++ dump_value (events_in n s)) out (omega arith))
    ∙ ap (λ (t : List ℕ). fronted t out) (sym (reply_parts n s))

pub reply-kept_back : (out s : List ℕ) (n : ℕ) → length out < 3 + 5 * n → out ≡ fronted (dump_reply (events_in n s)) out
reply-kept_back out s n short = sym (without_room (dump_reply (events_in n s)) out (omega (arith, reply-long n s)))

-- ---- the reply to an erase, where there is room for so many events

pub erase-octets : (n room : ℕ) → n ≡ room → 0xB4 ∷ 0 ∷ 4 ∷ 0 ∷ 0 ∷ 3 * n / 256 % 256 ∷ 3 * n % 256 ∷ [] ≡ erase_reply room
unfolding erase_reply bytes
erase-octets n room e = rw e (λ i. 0xB4 ∷ 0 ∷ 4 ∷ 0 ∷ 0 ∷ 3 * room / 256 % 256 ∷ sym (div-one (3 * room)) i % 256 ∷ [])
