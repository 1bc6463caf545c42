-- Document 01, 'Managed numbers': the octet stores that raise the mark of an entry one at a time, and the image after the first of them.
-- Assumes nothing.
use Rattle.std.specs.Prelude.{ℕ, ◌/◌, cond, ◌&&◌, List, ltb, length, take}
use Rattle.marks.specs.Stores.{stores_of, stored}
use Rattle.marks.specs.declared.plans.Plan.{Plan}
use Rattle.marks.specs.declared.plans.Plan.TheVariants as plan
use Rattle.marks.specs.declared.plans.Store.{Store}
use Rattle.image.specs.Image.{count_of, laid_out, mark_at, mark_in}

-- the stores that raise the mark of entry i to n / 64, and none for an entry that the image does not have
unfoldable pub plan_for : List ℕ → ℕ → ℕ → Plan
plan_for image i n =
    cond (laid_out image && ltb i (count_of image)) (plan.Raise (mark_at image i) (mark_in image i) (n / 64)) plan.Nothing

abbrev pub stores_for : List ℕ → ℕ → ℕ → List Store
stores_for image i n = stores_of (plan_for image i n)

-- how many of the first j stores there are, and the image after them
unfoldable pub stores_made : List ℕ → ℕ → ℕ → ℕ → ℕ
stores_made image i n j = length (take j (stores_for image i n))

unfoldable pub after_stores : List ℕ → ℕ → ℕ → ℕ → List ℕ
after_stores image i n j = stored image (take j (stores_for image i n))
