-- Document 02, request 2: an image of version 1 is brought to version 2. Octet 0 becomes 2, and in TM bodies the channel octet becomes a set;
-- every other octet stays. Then every mark stays, and the numbers that agreed with the image agree with it still: none is lost.
-- Assumes nothing.
use Rattle.std.specs.Prelude.{ℕ, ◌≤◌, ◌<◌, ◌≡◌, List}
use Rattle.octets.specs.Lists.{octet}
use Rattle.promises.specs.Images.{version_in, count_in, place, kind_at, code_at, Agreeing}

pub record Upgraded (before after : List ℕ) : Type 0 where
  pub from : version_in before ≡ 1
  pub to : version_in after ≡ 2
  pub elsewhere : (p : ℕ) → 1 ≤ p → ((i : ℕ) → i < count_in before → kind_at before i ≡ 3 → p ≡ place before i 6 → ⊥)
      → octet after p ≡ octet before p

pub record Upgrading : Type 0 where
  pub entries : (before after : List ℕ) → Upgraded before after → count_in after ≡ count_in before
  pub marks : (before after : List ℕ) → Upgraded before after → (i : ℕ) → code_at after i ≡ code_at before i
  pub agree : (before after numbers : List ℕ) → Upgraded before after → Agreeing before numbers → Agreeing after numbers
