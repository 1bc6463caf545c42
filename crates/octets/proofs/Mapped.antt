-- An array that `map` makes of another, as a list by rule.
-- Assumes nothing.
use mathlib.Core.Path.{◌≡◌, ◌∙◌, sym}
use mathlib.Core.List.{List}
use Prim.Native.Nat.{ℕ}
use native.Mathlib.Omega.{arith}
use denote.Param.Members.{Mut}
use lib.Seq.{ext_get_or}
use Rattle.std.specs.Array.{IsMapOf}
use Rattle.std.specs.Fn.{Called}
use Rattle.octets.specs.Lists.{octet, tab}
use Rattle.octets.proofs.Rules.{length-tab, octet-tab}

-- where each call of the closure gives h of its argument
pub mapped : {F : Type 0} {g : Mut F (ℕ × Unit {0}) ℕ} {f : F} {xs ys : List ℕ} {n : ℕ} (h : ℕ → ℕ)
    → IsMapOf g f xs ys n → ((x y : ℕ) (p q : F) → Called g p (x, tt) y q → y ≡ h x) → ys ≡ tab n (λ j. h (octet xs j))
mapped {F} {g} {f} {xs} {ys} {n} h made each =
    ext_get_or 0 ys (tab n (λ j. h (octet xs j))) (made.long ∙ sym (length-tab n _))
    (λ i l.
    let call = made.at i 0 0 (omega (arith, made.long)) in
    each (octet xs i) (octet ys i) call.0 call.1 call.2
    ∙ sym (octet-tab n (λ j. h (octet xs j)) i (omega (arith, made.long))))
