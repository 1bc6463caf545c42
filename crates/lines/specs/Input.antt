-- A line that was read to the front of a list.
-- Assumes nothing.
use Rattle.std.specs.Prelude.{◌≡◌, ℕ, ◌+◌, ◌<◌, List, drop}
use Rattle.std.specs.Counts.{IsPrefixLen}
use Rattle.octets.specs.Lists.{octet}

-- n characters, of which only the last may be a line feed, whose code is 10; the list's others stay
pub record Line (before after : List ℕ) (n : ℕ) : Type 0 where
  pub counts : IsPrefixLen n after
  pub one : (k : ℕ) → k + 1 < n → octet after k ≡ 10 → ⊥
  pub kept : drop n after ≡ drop n before
