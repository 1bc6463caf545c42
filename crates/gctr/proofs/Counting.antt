-- GCTR octet by octet: octet i of the output is octet i of the text, added to octet i % 16 of the counter block number i / 16, enciphered.
--     octet-form     the standard's block form is this octet form
--     Streaming      what a loop that goes block by block keeps, with streaming_none, streaming_more, streaming_all
-- Assumes nothing.
use mathlib.Core.Path.{◌≡◌, refl, sym, ap, ap₂, ◌∙◌}
use mathlib.Core.List.{List, [], ◌∷◌, ◌++◌}
use Prim.Native.Nat.{ℕ, zero, suc, min, ◌+◌, ◌-◌, ◌/◌, ◌%◌, ◌≤◌, ◌<◌}
use native.Mathlib.Nat.{zero-add}
use native.Mathlib.Omega.{arith}
use lib.Bits.{xor_lt}
use lib.ListN.{length, take, drop, length-drop}
use lib.Seq.{paste, length-take-le, take-length, take_at, take-add, drop_at, drop-drop, get_or-drop}
use Rattle.octets.specs.Lists.{octet, tab, Octets}
use Rattle.octets.specs.Output.{fronted}
use Rattle.octets.specs.Xor.{◌⊕◌, xors}
use Rattle.octets.proofs.Bounds.{octets-tab}
use Rattle.octets.proofs.Filling.{with_room, without_room}
use Rattle.octets.proofs.Parts.{tab-add, tab_self, tab-part}
use Rattle.octets.proofs.Rules.{length-tab, tab_ext, octet-tab}
use Rattle.octets.proofs.XorLaws.{xor_undo}
use Rattle.cipher.proofs.Laws.{octets-cipher}
use Rattle.block.specs.Lengths.{blocks}
use Rattle.gctr.specs.Increment.{inc32}
use Rattle.gctr.specs.Gctr.{ciph, gctr_from, gctr}

-- counter block n, counted from 0
unfoldable pub counter : ℕ → ℕ → ℕ
counter zero icb = icb
counter (suc n) icb = inc32 (counter n icb)

counter_inc : (n icb : ℕ) → counter (suc n) icb ≡ counter n (inc32 icb)
unfolding counter
counter_inc zero icb = refl
counter_inc (suc n) icb = ap inc32 (counter_inc n icb)

-- octet i of the output
abbrev pub streamed : List ℕ → ℕ → List ℕ → ℕ → ℕ
streamed w icb x i = octet x i ⊕ octet (ciph w (counter (i / 16) icb)) (i % 16)

module _ (w : List ℕ) where
  first_block : (cb : ℕ) (x : List ℕ) (i : ℕ) → i < 16 → octet x i ⊕ octet (ciph w cb) i ≡ streamed w cb x i
  unfolding counter
  first_block cb x i h =
      let d : 0 ≡ i / 16 = omega arith in
      let r : i ≡ i % 16 = omega arith in
      ap₂ (λ (n j : ℕ). octet x i ⊕ octet (ciph w (counter n cb)) j) d r

  next-blocks : (cb : ℕ) (x : List ℕ) (i : ℕ) → streamed w (inc32 cb) (drop 16 x) i ≡ streamed w cb x (16 + i)
  next-blocks cb x i =
      let d : suc (i / 16) ≡ (16 + i) / 16 = omega arith in
      let r : i % 16 ≡ (16 + i) % 16 = omega arith in
      ap₂ ◌⊕◌ (get_or-drop 16 x i 0)
      (ap₂ (λ (cb' j : ℕ). octet (ciph w cb') j) (sym (counter_inc (i / 16) cb) ∙ ap (λ (n : ℕ). counter n cb) d) r)

  octet-form-from : (n cb : ℕ) (x : List ℕ) → n ≡ blocks (length x) → gctr_from w n cb x ≡ tab (length x) (streamed w cb x)
  unfolding gctr_from xors tab
  octet-form-from zero cb [] e = refl
  octet-form-from zero cb (y ∷ x) e = absurd (omega arith)
  octet-form-from (suc zero) cb x e = tab_ext (length x) (λ i h. first_block cb x i (omega arith))
  octet-form-from (suc (suc n)) cb x e =
      let m : ℕ = length (drop 16 x) in
      let l : length x ≡ 16 + m = omega (arith, length-drop 16 x) in
      let h : suc n ≡ blocks m = omega arith in
      ap₂ ◌++◌ (tab_ext 16 (first_block cb x)) (octet-form-from (suc n) (inc32 cb) (drop 16 x) h ∙ tab_ext m (λ i k. next-blocks cb x i))
      ∙ sym (tab-add 16 m (streamed w cb x))
      ∙ ap (λ (k : ℕ). tab k (streamed w cb x)) (sym l)

  pub octet-form : (icb : ℕ) (x : List ℕ) → gctr w icb x ≡ tab (length x) (streamed w icb x)
  unfolding gctr
  octet-form icb x = octet-form-from (blocks (length x)) icb x refl

  pub length-gctr : (icb : ℕ) (x : List ℕ) → length (gctr w icb x) ≡ length x
  length-gctr icb x = ap length (octet-form icb x) ∙ length-tab (length x) (streamed w icb x)

  pub gctr_undo : (icb : ℕ) (x : List ℕ) → gctr w icb (gctr w icb x) ≡ x
  gctr_undo icb x =
      let y : List ℕ = gctr w icb x in
      octet-form icb y
      ∙ ap (λ (n : ℕ). tab n (streamed w icb y)) (length-gctr icb x)
      ∙ tab_ext (length x)
      (λ i h.
      ap (λ (b : ℕ). b ⊕ octet (ciph w (counter (i / 16) icb)) (i % 16))
      (ap (λ (l : List ℕ). octet l i) (octet-form icb x) ∙ octet-tab (length x) (streamed w icb x) i h)
      ∙ xor_undo (octet x i) (octet (ciph w (counter (i / 16) icb)) (i % 16)))
      ∙ tab_self x

  pub octets-gctr : Octets w → (icb : ℕ) (x : List ℕ) → Octets x → Octets (gctr w icb x)
  octets-gctr hw icb x hx =
      rw octet-form
      (octets-tab (length x) (streamed w icb x)
      (λ i h. xor_lt 8 (octet x i) _ (hx i) (octets-cipher w _ hw (i % 16))))

-- before the block at a place: as much of the result is written, the rest stands, and the counter block is that of the place
pub record Streaming (w src old out : List ℕ) (icb cb at : ℕ) : Type 0 where
  pub within : at ≤ length src
  pub counted : at < length src → (at % 16 ≡ 0) × (cb ≡ counter (at / 16) icb)
  pub output : out ≡ take at (gctr w icb src) ++ drop at old

module _ (w src old : List ℕ) (icb : ℕ) where
  pub streaming_none : Streaming w src old old icb icb 0
  unfolding counter
  streaming_none = record { within = omega arith; counted = λ h. (refl, refl); output = refl }

  -- the sums of the text's octets at a place and the enciphered counter block are those of the result
  sums : (at n : ℕ) → at % 16 ≡ 0 → n ≤ 16 → at + n ≤ length src
      → take n (xors 16 (drop at src) (ciph w (counter (at / 16) icb))) ≡ take n (drop at (gctr w icb src))
  unfolding xors
  sums at n m small inside =
      let text : List ℕ = gctr w icb src in
      let stream : List ℕ = ciph w (counter (at / 16) icb) in
      let added : List ℕ = xors 16 (drop at src) stream in
      sym (tab-part n 0 added (omega (arith, length-tab 16 (λ j. octet (drop at src) j ⊕ octet stream j))))
      ∙ tab_ext n
      (λ j h.
      let d : at / 16 ≡ (at + j) / 16 = omega arith in
      let r : j ≡ (at + j) % 16 = omega arith in
      ap (octet added) (zero-add j)
      ∙ octet-tab 16 _ j (omega arith)
      ∙ ap₂ ◌⊕◌ (get_or-drop at src j 0) (ap₂ (λ (b k : ℕ). octet (ciph w (counter b icb)) k) d r)
      ∙ sym (ap (λ (l : List ℕ). octet l (at + j)) (octet-form w icb src) ∙ octet-tab (length src) (streamed w icb src) (at + j) (omega arith)))
      ∙ tab-part n at text (omega (arith, length-gctr w icb src))

  module _ (room : length src ≤ length old) {out stream next : List ℕ} {cb cb₁ at n : ℕ} (h : at < length src) where
    pub streaming_more : n ≡ min 16 (length src - at) → stream ≡ ciph w cb → next ≡ paste out at (xors 16 (drop at src) stream) n → cb₁ ≡ inc32 cb
        → Streaming w src old out icb cb at → Streaming w src old next icb cb₁ (at + n)
    unfolding counter
    streaming_more en es eo ec g =
        let text : List ℕ = gctr w icb src in
        let m : at % 16 ≡ 0 = (g.counted h).0 in
        let small : n ≤ 16 = omega arith in
        let inside : at + n ≤ length src = omega arith in
        let front : length (take at text) ≡ at = length-take-le at text (omega (arith, length-gctr w icb src)) in
        let es₁ : stream ≡ ciph w (counter (at / 16) icb) = es ∙ ap (ciph w) (g.counted h).1 in
        record {
          within = inside;
          counted =
              λ k.
              let b : suc (at / 16) ≡ (at + n) / 16 = omega arith in
              (omega arith, ec ∙ ap inc32 (g.counted h).1 ∙ ap (λ (b : ℕ). counter b icb) b);
          output =
              eo
              ∙ ap₂ ◌++◌
              (ap₂ ◌++◌ (ap (take at) g.output ∙ take_at (take at text) (drop at old) at front)
              (ap (λ (l : List ℕ). take n (xors 16 (drop at src) l)) es₁ ∙ sums at n m small inside)
              ∙ sym (take-add at n text))
              (sym (drop-drop n at out)
              ∙ ap (drop n) (ap (drop at) g.output ∙ drop_at (take at text) (drop at old) at front)
              ∙ drop-drop n at old);
        }

  pub streaming_all : {out : List ℕ} {cb at : ℕ} → length src ≤ at → length src ≤ length old → Streaming w src old out icb cb at
      → out ≡ fronted (gctr w icb src) old
  streaming_all {out} {cb} {at} past room g =
      let text : List ℕ = gctr w icb src in
      let e : at ≡ length text = omega (arith, g.within, length-gctr w icb src) in
      g.output
      ∙ ap (λ (k : ℕ). take k text ++ drop k old) e
      ∙ ap (λ (l : List ℕ). l ++ drop (length text) old) (take-length text)
      ∙ sym (with_room text old (omega (arith, length-gctr w icb src)))

  pub streaming_refused : length old < length src → old ≡ fronted (gctr w icb src) old
  streaming_refused short = sym (without_room (gctr w icb src) old (omega (arith, length-gctr w icb src)))
