-- A report in place of a desk's: it is read back as it was laid, and no octet of another desk's report changes.
-- Assumes nothing.
use mathlib.Core.Path.{◌≡◌, ◌∙◌, refl, sym, ap}
use mathlib.Core.Logic.{inl, inr}
use mathlib.Core.List.{List, [], ◌∷◌, ◌++◌}
use Prim.Native.Nat.{ℕ, suc, ◌+◌, ◌*◌, ◌-◌, ◌/◌, ◌%◌, ◌≤◌, ◌<◌}
use native.Mathlib.Decide.{dec_lt}
use native.Mathlib.Nat.{div-one}
use native.Mathlib.Omega.{arith}
use borrow.Author.Tests.{lt-ltb, le-ltb}
use lib.ListN.{length, set, take, drop, length-append, length-drop, get_or-append}
use lib.Seq.{sets, sets-eq, length-take-le, get_or-take, get_or-drop, get_or-append-add}
use Rattle.octets.specs.Lists.{octet}
use Rattle.octets.specs.Numbers.{bytes}
use Rattle.octets.proofs.Outside.{Outside, Changed}
use Rattle.octets.proofs.Parts.{octet_past}
use Rattle.reports.specs.Report.{first_octet, laid}
use Rattle.reports.specs.Desks.{with_report}
use Rattle.reports.specs.declared.report.Report.{Report}

length-laid : (r : Report) → length (laid r) ≡ 4
unfolding laid bytes
length-laid r = refl

-- ---- four octets stored one behind the other

four-stored : (s : List ℕ) (at a b c d : ℕ) → at + 4 ≤ length s
    → set (set (set (set s at a) (at + 1) b) (at + 2) c) (at + 3) d ≡ take at s ++ (a ∷ b ∷ c ∷ d ∷ []) ++ drop (at + 4) s
four-stored s at a b c d h =
    let one : at + 1 ≡ suc at = omega arith in
    let two : at + 2 ≡ suc (suc at) = omega arith in
    let three : at + 3 ≡ suc (suc (suc at)) = omega arith in
    let stored : set (set (set (set s at a) (at + 1) b) (at + 2) c) (at + 3) d ≡ sets s at (a ∷ b ∷ c ∷ d ∷ []) = cc in
    stored ∙ sets-eq (a ∷ b ∷ c ∷ d ∷ []) s at h

module _ (s : List ℕ) (desk : ℕ) (r : Report) where
  -- of a desk that has a report, and of one that has none
  placed : desk < 3 → with_report s desk r ≡ take (4 * desk) s ++ laid r ++ drop (4 * desk + 4) s
  unfolding with_report
  placed h = rw (lt-ltb desk 3 h)

  pub no_desk_lem : 3 ≤ desk → with_report s desk r ≡ s
  unfolding with_report
  no_desk_lem h = rw (le-ltb desk 3 h)

  -- the stores of the code
  pub stored : (first : ℕ) → first ≡ first_octet r → desk < 3 → length s ≡ 12
      → set (set (set (set s (4 * desk) first) (4 * desk + 1) (r.spi / 256 % 256)) (4 * desk + 2) (r.spi % 256)) (4 * desk + 3) r.number
      ≡ with_report s desk r
  unfolding laid bytes
  stored first e h l =
      four-stored s (4 * desk) first (r.spi / 256 % 256) (r.spi % 256) r.number (omega arith)
      ∙ sym (placed h ∙ rw (div-one r.spi, e) refl)

  length_front : desk < 3 → length s ≡ 12 → length (take (4 * desk) s ++ laid r) ≡ 4 * desk + 4
  length_front h l =
      length-append (take (4 * desk) s) (laid r)
      ∙ ap (λ (n : ℕ). n + length (laid r)) (length-take-le (4 * desk) s (omega arith))
      ∙ ap (λ (n : ℕ). 4 * desk + n) (length-laid r)

  -- ---- its own octets

  pub own_octet : desk < 3 → length s ≡ 12 → (i : ℕ) → i < 4 → octet (with_report s desk r) (4 * desk + i) ≡ octet (laid r) i
  own_octet h l i k =
      let front : length (take (4 * desk) s) ≡ 4 * desk = length-take-le (4 * desk) s (omega arith) in
      let whole : length (take (4 * desk) s ++ laid r) ≡ 4 * desk + 4 = length_front h l in
      ap (λ (t : List ℕ). octet t (4 * desk + i)) (placed h)
      ∙ get_or-append (take (4 * desk) s ++ laid r) (drop (4 * desk + 4) s) 0 (4 * desk + i) (omega arith)
      ∙ ap (λ (n : ℕ). octet (take (4 * desk) s ++ laid r) (n + i)) (sym front)
      ∙ get_or-append-add (take (4 * desk) s) (laid r) i 0

  -- ---- the octets of the other desks

  outside_placed : desk < 3 → length s ≡ 12 → (i : ℕ) → Outside (4 * desk) 4 i
      → octet (take (4 * desk) s ++ laid r ++ drop (4 * desk + 4) s) i ≡ octet s i
  outside_placed h l i (inl before) =
      get_or-append (take (4 * desk) s ++ laid r) (drop (4 * desk + 4) s) 0 i (omega (arith, length_front h l))
      ∙ get_or-append (take (4 * desk) s) (laid r) 0 i (omega (arith, length-take-le (4 * desk) s (omega arith)))
      ∙ get_or-take (4 * desk) s i 0 before
  outside_placed h l i (inr behind) =
      let front : length (take (4 * desk) s ++ laid r) ≡ 4 * desk + 4 = length_front h l in
      let place : 4 * desk + 4 + (i - length (take (4 * desk) s ++ laid r)) ≡ i = omega arith in
      octet_past (take (4 * desk) s ++ laid r) (drop (4 * desk + 4) s) i (omega arith)
      ∙ get_or-drop (4 * desk + 4) s (i - length (take (4 * desk) s ++ laid r)) 0
      ∙ ap (octet s) place

  changed_placed : length s ≡ 12 → Dec (desk < 3) → Changed s (4 * desk) 4 (with_report s desk r)
  changed_placed l (yes h) =
      let e = placed h in
      record {
        long =
            ap length e
            ∙ length-append (take (4 * desk) s ++ laid r) (drop (4 * desk + 4) s)
            ∙ simp (length_front h l, length-drop) (omega arith);
        outside = λ i out. ap (λ (t : List ℕ). octet t i) e ∙ outside_placed h l i out;
      }
  changed_placed l (no g) =
      let e = no_desk_lem (omega arith) in
      record { long = ap length e; outside = λ i out. ap (λ (t : List ℕ). octet t i) e }

  pub changed : length s ≡ 12 → Changed s (4 * desk) 4 (with_report s desk r)
  changed l = changed_placed l (dec_lt desk 3)
