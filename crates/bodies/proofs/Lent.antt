-- Octets of a list that are lent by themselves: a body and a number are the same there, from the first place on, as where they stand in the list.
-- Assumes nothing.
use mathlib.Core.Path.{◌≡◌, sym, ap, ◌∙◌}
use mathlib.Core.List.{List}
use Prim.Native.Nat.{ℕ, ◌+◌, ◌-◌, ◌≤◌}
use native.Mathlib.Omega.{arith}
use lib.ListN.{length, take, drop, length-take, length-drop}
use lib.Seq.{get_or-take, take_all}
use Rattle.octets.specs.Lists.{part}
use Rattle.octets.specs.Numbers.{number_at}
use Rattle.octets.proofs.Numbers.{number_same}
use Rattle.octets.proofs.Parts.{part-inside}
use Rattle.bodies.specs.Body.{body_in}
use Rattle.bodies.specs.Layout.{layout_of}

-- the n octets from a place on, as code lends them: from the place up to its sum with n
abbrev pub lent : List ℕ → ℕ → ℕ → List ℕ
lent s at n = take (at + n - at) (drop at s)

lent_front : (s : List ℕ) (at n : ℕ) → lent s at n ≡ take n (drop at s)
lent_front s at n = let e : at + n - at ≡ n = omega arith in ap (λ (k : ℕ). take k (drop at s)) e

pub number_lent : (s : List ℕ) (at n : ℕ) → number_at 0 n (lent s at n) ≡ number_at at n s
number_lent s at n =
    ap (number_at 0 n) (lent_front s at n) ∙ number_same n (take n (drop at s)) (drop at s) (λ i h. get_or-take n (drop at s) i 0 h)

part_lent : (s : List ℕ) (at n : ℕ) → at + n ≤ length s → part 0 n (lent s at n) ≡ part at n s
part_lent s at n h =
    let long : length (take n (drop at s)) ≡ n = simp (length-take, length-drop) (omega arith) in
    ap (part 0 n) (lent_front s at n)
    ∙ part-inside 0 n (take n (drop at s)) (omega arith)
    ∙ take_all n (take n (drop at s)) (omega arith)
    ∙ sym (part-inside at n s h)

pub body_lent : (s : List ℕ) (version at n : ℕ) → n ≡ (layout_of version).body → at + n ≤ length s → body_in (lent s at n) version 0 ≡ body_in s version at
unfolding body_in
body_lent s version at n e h = rw (← e) (part_lent s at n h)
