-- The two headers at the front of an output: a frame's header, its length rewritten where it stands, and the security header behind it.
-- Assumes nothing.
use Prim.Native.Nat.{ℕ, ◌≤◌}
use mathlib.Core.Path.{◌≡◌, ap, ap₂, sym, ◌∙◌}
use mathlib.Core.List.{List, ◌++◌}
use lib.ListN.{length, take, drop}
use lib.Seq.{take_at, drop_at, length-take-le}
use Rattle.kinds.specs.Kinds.{Kind}
use Rattle.frame.specs.Parts.{header_of}
use Rattle.kinds.proofs.Kept.{Lawful}
use Rattle.octets.specs.Output.{written}

module _ (k : Kind) (law : Lawful k) (frame : List ℕ) (h n : ℕ) (e : h ≡ k.header frame) (fits : h ≤ length frame) where
  pub length-rewritten : length (k.with_length n (header_of k frame)) ≡ h
  unfolding header_of
  length-rewritten = law.long n (take (k.header frame) frame) ∙ rw (← e) (length-take-le h frame fits)

  -- the header was put to the front, and then its length was rewritten there
  pub rewritten-front : (out first changed : List ℕ) → first ≡ written (take h frame) out → changed ≡ k.with_length n (take h first)
      → changed ++ drop h first ≡ written (k.with_length n (header_of k frame)) out
  unfolding header_of
  rewritten-front out first changed f g =
      let l = length-take-le h frame fits in
      let t : take h first ≡ take h frame = ap (take h) f ∙ take_at (take h frame) (drop (length (take h frame)) out) h l in
      let d : drop h first ≡ drop h out =
      ap (drop h) f ∙ drop_at (take h frame) (drop (length (take h frame)) out) h l ∙ ap (λ (x : ℕ). drop x out) l
      in
      ap₂ (λ (a b : List ℕ). a ++ b) (g ∙ ap (k.with_length n) (t ∙ ap (λ (x : ℕ). take x frame) e))
      (d ∙ ap (λ (x : ℕ). drop x out) (sym length-rewritten))
