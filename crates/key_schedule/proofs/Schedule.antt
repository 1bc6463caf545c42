-- The key schedule, as a loop over 240 octets meets it: before turn i the first i words are the key and i - 8 words more.
--     scheduled_none, scheduled_more, scheduled_all     before the first turn; a turn; at the end
-- Assumes nothing.
use mathlib.Core.Path.{◌≡◌, ◌∙◌, refl, sym, ap, ap₂}
use mathlib.Core.List.{List, ◌++◌}
use Prim.Native.Nat.{ℕ, suc, ◌+◌, ◌-◌, ◌*◌, ◌≤◌, ◌<◌}
use native.Mathlib.Omega.{arith}
use borrow.Rule.Slice.PartMut.{put_mid}
use lib.ListN.{length, take, length-append, length-drop, length-take}
use lib.Seq.{take_all, get_or-take}
use Rattle.std.proofs.lemmas.Slice.{take-put_mid}
use Rattle.octets.specs.Lists.{tab}
use Rattle.octets.specs.Xor.{xors}
use Rattle.octets.proofs.Rules.{tab_ext}
use Rattle.key_schedule.specs.KeyExpansion.Opened.{key_expansion-is}
use Rattle.key_schedule.specs.KeyExpansion.{word, temp, next_word, expanded_by, key_expansion}

-- a word that lies within the first m octets
word-take : (w : List ℕ) (m i : ℕ) → 4 * i + 4 ≤ m → word (take m w) i ≡ word w i
word-take w m i h = tab_ext 4 (λ j k. get_or-take m w (j + 4 * i) 0 (omega arith))

-- the next word looks at no octet from its own place on
next_word-take : (w : List ℕ) (i : ℕ) → 8 ≤ i → next_word (take (4 * i) w) i ≡ next_word w i
unfolding next_word temp
next_word-take w i h = rw (word-take w (4 * i) (i - 1) (omega arith), word-take w (4 * i) (i - 8) (omega arith))

length-next_word : (w : List ℕ) (i : ℕ) → length (next_word w i) ≡ 4
unfolding next_word xors tab
length-next_word w i = refl

pub record Scheduled (key w : List ℕ) (i : ℕ) : Type 0 where
  pub from : 8 ≤ i
  pub within : i ≤ 60
  pub long : length w ≡ 240
  pub front : take (4 * i) w ≡ expanded_by (i - 8) key

pub scheduled_none : {key w : List ℕ} → length w ≡ 240 → take 32 w ≡ key → Scheduled key w 8
unfolding expanded_by
scheduled_none l e = record { from = omega arith; within = omega arith; long = l; front = e }

pub scheduled_more : (key w t : List ℕ) (i n : ℕ) → n ≡ 4 → i < 60 → t ≡ next_word w i → Scheduled key w i
    → Scheduled key (put_mid (4 * i) n w t) (i + 1)
unfolding expanded_by
scheduled_more key w t i n size h e g =
    let at : ℕ = 4 * i in
    let four : length t ≡ 4 = ap length e ∙ length-next_word w i in
    let made : t ≡ next_word (expanded_by (i - 8) key) i =
    e ∙ sym (next_word-take w i g.from) ∙ ap (λ (p : List ℕ). next_word p i) g.front
    in
    let back : 8 + (i - 8) ≡ i = omega (arith, g.from) in
    let more : i + 1 - 8 ≡ suc (i - 8) = omega (arith, g.from) in
    record {
      from = omega (arith, g.from);
      within = omega arith;
      long = simp (length-append, length-take, length-drop) (omega (arith, g.long, four));
      front =
          take-put_mid at n w t (4 * (i + 1)) (omega (arith, four)) (omega (arith, g.long))
          ∙ ap₂ ◌++◌ g.front made
          ∙ rw (more, back);
    }

pub scheduled_all : (key w : List ℕ) (i : ℕ) → 60 ≤ i → Scheduled key w i → w ≡ key_expansion key
scheduled_all key w i h g =
    let e : i ≡ 60 = omega (arith, g.within) in
    sym (take_all (4 * i) w (omega (arith, g.long))) ∙ g.front ∙ ap (λ (k : ℕ). expanded_by (k - 8) key) e ∙ sym (key_expansion-is key)
