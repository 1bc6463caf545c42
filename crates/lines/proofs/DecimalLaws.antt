-- Laws of numbers in decimal: an empty text, and a digit more, at any place of a text.
-- Assumes nothing.
use Rattle.std.proofs.Common.{◌≡◌, ◌∙◌, sym, ap, ℕ, ◌+◌, ◌<◌, ◌≤◌, List, [], ◌∷◌, refl, length, drop, drop-cons, add-one, arith, Some, None}
use lib.ListN.{drop_of_length-le}
use Rattle.std.specs.Prelude.{option_and_then}
use Rattle.octets.specs.Lists.{octet}
use Rattle.lines.specs.Decimal.{longer_by, spelled_after, spelled}

pub empty : (s : List ℕ) → length s ≡ 0 → None ≡ spelled s
unfolding spelled
empty [] h = refl
empty (c ∷ s) h = absurd (omega arith)

pub first_digit : (s : List ℕ) → 0 < length s → spelled s ≡ spelled_after 0 s
unfolding spelled
first_digit [] h = absurd (omega arith)
first_digit (c ∷ s) h = refl

next : (s : List ℕ) (n i : ℕ) → i < length s
    → spelled_after n (drop i s) ≡ option_and_then (λ m. spelled_after m (drop (i + 1) s)) (longer_by n (octet s i))
unfolding spelled_after
next s n i h = rw (drop-cons s i 0 h, add-one)

pub next_digit : (s : List ℕ) (n i m : ℕ) → i < length s → Some m ≡ longer_by n (octet s i)
    → spelled_after n (drop i s) ≡ spelled_after m (drop (i + 1) s)
next_digit s n i m h e = next s n i h ∙ ap (option_and_then (λ (k : ℕ). spelled_after k (drop (i + 1) s))) (sym e)

pub digit_refused : (s : List ℕ) (n i : ℕ) → i < length s → None ≡ longer_by n (octet s i) → None ≡ spelled_after n (drop i s)
digit_refused s n i h e = sym (next s n i h ∙ ap (option_and_then (λ (k : ℕ). spelled_after k (drop (i + 1) s))) (sym e))

pub ended : (s : List ℕ) (n i : ℕ) → length s ≤ i → Some n ≡ spelled_after n (drop i s)
unfolding spelled_after
ended s n i h = rw (drop_of_length-le s h)
