-- An image brought from version 1 to version 2 keeps its marks: no octet of a mark is octet 0 or the channel octet of a body.
-- Assumes nothing.
use Prim.Native.Nat.{ℕ, ◌+◌, ◌*◌}
use mathlib.Core.Path.{◌≡◌, ap, ◌∙◌}
use mathlib.Core.List.{List}
use native.Mathlib.Omega.{arith}
use Rattle.octets.proofs.Numbers.{number_at-same}
use Rattle.promises.specs.Images.{shape_in, count_in, code_at}
use Rattle.promises.specs.Upgrade.{Upgraded, Upgrading}
use Rattle.promises.specs.Versions.{first, second, shape_of}

module _ (before after : List ℕ) (u : Upgraded before after) where
  shape_before : shape_in before ≡ first
  unfolding shape_of
  shape_before = ap shape_of u.from

  shape_after : shape_in after ≡ second
  unfolding shape_of
  shape_after = ap shape_of u.to

  same_count : count_in after ≡ count_in before
  same_count = u.elsewhere 1 (omega arith) (λ i below tm same. let s = rw shape_before at same in omega arith)

  same_code : (i : ℕ) → code_at after i ≡ code_at before i
  same_code i =
      let at : ℕ = 2 + 4 * count_in before + 52 * i + 48 in
      rw (shape_after, shape_before, same_count)
      (number_at-same at 4 after before
      (λ d small.
      u.elsewhere (at + d) (omega arith)
      (λ j below tm same. let s : at + d ≡ 2 + 4 * count_in before + 52 * j + 6 = rw shape_before at same in omega arith)))

pub upgrading : Upgrading
upgrading =
    record {
      entries = same_count;
      marks = same_code;
      agree = λ before after numbers u a.
          record {
            marks = λ i below.
                same_code before after u i ∙ a.marks i (rw (same_count before after u) at below);
          };
    }
