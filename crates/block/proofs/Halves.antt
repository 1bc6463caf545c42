-- A block in two halves of 64 bits: what the code does to the halves is what the definitions do to the number.
-- Assumes nothing.
use mathlib.Core.Path.{◌≡◌, sym, ap, ap₂, ◌∙◌}
use mathlib.Core.List.{List, [], ◌∷◌, ◌++◌}
use Prim.Native.Nat.{ℕ, ◌+◌, ◌*◌, ◌/◌, ◌%◌, ◌^◌, ◌≤◌, ◌<◌}
use native.Mathlib.Omega.{arith}
use native.Mathlib.Nat.{add-zero, div-one, pow-suc, pow-le-pow_right}
use native.Mathlib.Numerals.{add-one}
use lib.Bits.{xor_block}
use lib.Dec.{lit≤}
use lib.ListN.{drop}
use lib.Seq.{drop-drop, get_or-drop}
use Rattle.octets.specs.Lists.{octet}
use Rattle.octets.specs.Numbers.{number, bytes}
use Rattle.octets.specs.Xor.{◌⊕◌}
use Rattle.octets.proofs.Numbers.{number_step, number-add, bytes-append}

pub xor_halves : (a b c d : ℕ) → b < 2 ^ 64 → d < 2 ^ 64 → (a ⊕ c) * 2 ^ 64 + (b ⊕ d) ≡ (a * 2 ^ 64 + b) ⊕ (c * 2 ^ 64 + d)
xor_halves a b c d hb hd = sym (xor_block 64 a c b d hb hd)

-- a number of k < 8 octets has room for one more in 64 bits
pub word_room : (k w : ℕ) → k < 8 → w < 256 ^ k → w * 256 + 255 < 2 ^ 64
word_room k w hk hw =
    let l : k ≤ 7 = omega arith in
    let p : 256 ^ k ≤ 256 ^ 7 = pow-le-pow_right (lit≤ tt) l in
    omega arith

pub octet_more : (k w o : ℕ) → o < 256 → w < 256 ^ k → w * 256 + o < 256 ^ (k + 1)
octet_more k w o ho hw = rw (add-one, pow-suc) (omega arith)

pub word_more : (k w o at : ℕ) (s : List ℕ) → w ≡ number k (drop at s) → o ≡ octet s (at + k) → w * 256 + o ≡ number (k + 1) (drop at s)
word_more k w o at s ew eo = cc (number_step k (drop at s), get_or-drop at s k 0)

pub word_joined : (at x y : ℕ) (s : List ℕ) → x ≡ octet s at * 2 ^ 24 + octet s (at + 1) * 2 ^ 16 + octet s (at + 2) * 2 ^ 8 + octet s (at + 3)
    → y ≡ octet s (at + 4) * 2 ^ 24 + octet s (at + 5) * 2 ^ 16 + octet s (at + 6) * 2 ^ 8 + octet s (at + 7)
    → x * 0x1_0000_0000 + y ≡ number 8 (drop at s)
unfolding number
word_joined at x y s ex ey =
    let first : octet (drop at s) 0 ≡ octet s at = get_or-drop at s 0 0 ∙ ap (octet s) (add-zero at) in
    omega (
      arith,
      get_or-drop at s 1 0,
      get_or-drop at s 2 0,
      get_or-drop at s 3 0,
      get_or-drop at s 4 0,
      get_or-drop at s 5 0,
      get_or-drop at s 6 0,
      get_or-drop at s 7 0,
    )

pub number_halves : (at : ℕ) (s : List ℕ) → number 8 (drop at s) * 2 ^ 64 + number 8 (drop (at + 8) s) ≡ number 16 (drop at s)
number_halves at s = sym (number-add 8 8 (drop at s) ∙ ap (λ (l : List ℕ). number 8 (drop at s) * 2 ^ 64 + number 8 l) (drop-drop 8 at s))

-- the eight octets of a word
abbrev eight : ℕ → List ℕ
eight w =
    w / 2 ^ 56 % 256
    ∷ w / 2 ^ 48 % 256
    ∷ w / 2 ^ 40 % 256
    ∷ w / 2 ^ 32 % 256
    ∷ w / 2 ^ 24 % 256
    ∷ w / 2 ^ 16 % 256
    ∷ w / 2 ^ 8 % 256
    ∷ w % 256
    ∷ []

bytes_word : (w : ℕ) → bytes 8 w ≡ eight w
unfolding bytes
bytes_word w = simp div-one

pub bytes_halves : (hi lo : ℕ) → lo < 2 ^ 64 → eight hi ++ eight lo ≡ bytes 16 (hi * 2 ^ 64 + lo)
bytes_halves hi lo h = sym (bytes-append 8 8 hi lo h ∙ ap₂ ◌++◌ (bytes_word hi) (bytes_word lo))
