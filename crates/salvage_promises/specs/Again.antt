-- Demand 3 over salvage. A run begins with a load of a valid image of version 1 or 2. The image that it leaves is damaged in any octets, so that
-- any octets may be read of it; they are salvaged; and a second run begins with a load of what came of that. Of an entry that is kept, and
-- whose contents entry and body were read as the first run left them, the numbers of both runs together rise as in one run: those sent, by at
-- most 1 and 64 for each load between, and those released; so none goes out twice, and none is released twice.
-- Assumes nothing.
use Rattle.std.specs.Prelude.{ℕ, ◌≤◌, ◌<◌, ◌≡◌, List, ◌++◌}
use Rattle.octets.specs.Lists.{part, Octets}
use Rattle.salvage_image.specs.Salvage.{salvaged_image}
use Rattle.salvage_lines.specs.Lines.{salvage_lines}
use Rattle.promises.specs.Images.{version_in, count_in, spi_at, position_at, ImageRules}
use Rattle.promises.specs.Runs.{Step, Shown, SentRise, ReleasedRise, sent_in, released_in, Once, image_after, shown_of}
use Rattle.salvage_promises.specs.Salvaging.{Accepted, Fate, kept_as, Account}

-- entry i is read as it was: SPI, position, and the body there
pub record Undamaged (image x : List ℕ) (i : ℕ) : Type 0 where
  pub spi : spi_at x i ≡ spi_at image i
  pub position : position_at x i ≡ position_at image i
  pub body : part (position_at image i) 52 x ≡ part (position_at image i) 52 image

pub record Rising (shown : List Shown) : Type 0 where
  pub sent : SentRise shown
  pub released : ReleasedRise shown
  pub sent_once : Once (sent_in shown)
  pub released_once : Once (released_in shown)

abbrev pub Again : Type 0
Again =
    (image numbers : List ℕ) (steps : List Step) (x any : List ℕ) (later : List Step) → Octets image → ImageRules image → version_in image ≤ 2
    → Octets x → Accepted x
    → (fate : ℕ → Fate) → Account x (salvaged_image x) (salvage_lines x) fate
    → (i j : ℕ) → i < count_in image → fate i ≡ kept_as j → Undamaged (image_after image numbers steps) x i
    → Rising (shown_of i image numbers steps ++ shown_of j (salvaged_image x) any later)
