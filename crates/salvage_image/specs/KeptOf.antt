-- What the writing of an image and of lines stands on: the entries that are kept, of an input that is not refused.
-- Assumes nothing.
use Rattle.std.specs.Prelude.{ℕ, ◌≤◌, ◌≡◌, List, length}
use Rattle.image.specs.Image.{count_of, most_entries}
use Rattle.salvage_entries.specs.Kept.{kept_entries}

pub record KeptOf (x kept : List ℕ) : Type 0 where
  pub is : kept ≡ kept_entries x
  pub few : length kept ≤ most_entries
  pub count : count_of x ≤ most_entries
