-- Laws of fields: where a field ends, and the fields behind the first.
-- Assumes nothing.
use Rattle.std.proofs.Common.{◌≡◌, ◌∙◌, ℕ, suc, ◌+◌, ◌-◌, ◌<◌, ◌≤◌, List, [], ◌∷◌, refl, ap, cond, length, take, drop, arith}
use Rattle.std.specs.Prelude.{unwrap_or, position}
use Rattle.std.specs.List.{position_or_len}
use Rattle.std.proofs.lemmas.List.Sums.{prefix_len-le-length}
use borrow.Author.Tests.{lt-ltb, le-ltb}
use native.Mathlib.Decide.{dec_lt}
use Rattle.std.proofs.lemmas.List.Recursion.{is_position_or_len}
use Rattle.lines.specs.Fields.{ends_field, field_length, field_of}

one_more : (c : ℕ) (s : List ℕ) → field_length (c ∷ s) ≡ cond (ends_field c) 0 (1 + field_length s)
unfolding field_length
one_more c s = let e : suc (field_length s) ≡ 1 + field_length s = omega arith in ap (λ (n : ℕ). cond (ends_field c) 0 n) e

none : field_length [] ≡ 0
unfolding field_length
none = refl

or_len : (s : List ℕ) → position_or_len ends_field s ≡ unwrap_or (position ends_field s) (length s)
or_len s = by_place (dec_lt (position_or_len ends_field s) (length s))
  where
    by_place : Dec (position_or_len ends_field s < length s) → position_or_len ends_field s ≡ unwrap_or (position ends_field s) (length s)
    by_place (yes h) = rw (lt-ltb _ _ h)
    by_place (no h) = let most : position_or_len ends_field s ≤ length s = prefix_len-le-length _ s in let e : position_or_len ends_field s ≡ length s = omega arith in rw (e, le-ltb (length s) (length s) (omega arith))

pub length_is : (s : List ℕ) → field_length s ≡ unwrap_or (position ends_field s) (length s)
length_is s = is_position_or_len field_length ends_field none one_more s ∙ or_len s

pub next_field : (n k : ℕ) (s : List ℕ) → k < n → field_of (n - k) s ≡ field_of (n - (k + 1)) (drop (suc (field_length s)) s)
unfolding field_of
next_field n k s h = let e : n - k ≡ suc (n - (k + 1)) = omega arith in rw e

pub last_field : (n k : ℕ) (s : List ℕ) → n ≤ k → take (field_length s) s ≡ field_of (n - k) s
unfolding field_of
last_field n k s h = let e : n - k ≡ 0 = omega arith in rw e
