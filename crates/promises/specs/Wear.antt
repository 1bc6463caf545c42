-- Request 7 of document 02: how often the cells of a mark are rewritten. In every run, under every association that sends, N frames handed
-- out and L accepted loads, the first included, cost at most N / 64 rounded down plus L octet stores, those of cut calls counted; and the
-- bound holds already while a call is under way, before its frame is out, and where no load follows its cut. Sendings under other
-- associations, checks and refused calls may stand between. It supposes only that the image's numbers are octets.
-- Assumes nothing.
use Rattle.std.specs.Prelude.{ℕ, ◌+◌, ◌/◌, ◌≤◌, ◌<◌, ◌≡◌, cond, List, [], ◌∷◌, eqb, length, take}
use Rattle.octets.specs.Lists.{Octets}
use Rattle.marks.specs.declared.plans.Store.{Store}
use Rattle.marks.specs.Stores.{stored}
use Rattle.link.specs.Calls.{Left, loaded, securing_reply, secured, secured_cut, comparison, checking_reply, checked, checked_cut}
use Rattle.judging.specs.Replies.{Reply}
use Rattle.judging.specs.Said.{Said}
use Rattle.promises.specs.Frames.{spi_on}
use Rattle.promises.specs.Images.{count_in, spi_at, direction_at}
use Rattle.promises.specs.Runs.{Step, load, send, check, send_cut, check_cut, State, after, ran, sent_in, begun, shown_of}

-- ---- what a step stores

-- a call that is done makes all its stores, and a refusal none
abbrev pub made_by : Reply → List Store
made_by q = cond (eqb q.answer 0) q.stores []

abbrev pub sending_makes : State → Said → ℕ → List ℕ → List ℕ → List Store
sending_makes x said spi frame output = made_by (securing_reply x.image x.numbers said spi frame (length output))

abbrev pub check_makes : State → Said → List ℕ → List ℕ → List Store
check_makes x said frame output =
    let right = comparison x.image x.numbers said frame in
    made_by (checking_reply right x.image x.numbers said frame (length output))

-- a call that is cut makes the first j, and a load none
unfoldable pub makes : State → Step → List Store
makes x (load any) = []
makes x (send said spi frame output) = sending_makes x said spi frame output
makes x (check said frame output) = check_makes x said frame output
makes x (send_cut said spi frame output j any) = take j (sending_makes x said spi frame output)
makes x (check_cut said frame output j any) = take j (check_makes x said frame output)

-- those under the SPI of entry e
unfoldable pub makes_under : ℕ → State → Step → List Store
makes_under e x (load any) = []
makes_under e x (send said spi frame output) =
    cond (eqb spi (spi_at x.image e)) (makes x (send said spi frame output)) []
makes_under e x (check said frame output) =
    cond (eqb (spi_on said frame) (spi_at x.image e)) (makes x (check said frame output)) []
makes_under e x (send_cut said spi frame output j any) =
    cond (eqb spi (spi_at x.image e)) (makes x (send_cut said spi frame output j any)) []
makes_under e x (check_cut said frame output j any) =
    cond (eqb (spi_on said frame) (spi_at x.image e)) (makes x (check_cut said frame output j any)) []

-- ---- its loads that are accepted: a cut call is followed by one

abbrev pub load_accepted : Left → ℕ
load_accepted y = cond (eqb y.answer 0) 1 0

unfoldable pub loads_by : State → Step → ℕ
loads_by x (load any) = load_accepted (loaded x.image any)
loads_by x (send said spi frame output) = 0
loads_by x (check said frame output) = 0
loads_by x (send_cut said spi frame output j any) = load_accepted (loaded (secured_cut x.image x.numbers said spi frame output j) any)
loads_by x (check_cut said frame output j any) = load_accepted (loaded (checked_cut x.image x.numbers said frame output j) any)

-- ---- over a run

unfoldable pub stores_during : ℕ → State → List Step → ℕ
stores_during e x [] = 0
stores_during e x (v ∷ vs) = length (makes_under e x v) + stores_during e (after x v) vs

unfoldable pub loads_during : State → List Step → ℕ
loads_during x [] = 0
loads_during x (v ∷ vs) = loads_by x v + loads_during (after x v) vs

-- of a run that begins with a load of an image: the stores under entry e, the frames handed out under it, and the accepted loads
abbrev pub stores_over : ℕ → List ℕ → List ℕ → List Step → ℕ
stores_over e image numbers steps = stores_during e (begun image) (load numbers ∷ steps)

abbrev pub frames_over : ℕ → List ℕ → List ℕ → List Step → ℕ
frames_over e image numbers steps = length (sent_in (shown_of e image numbers steps))

abbrev pub loads_over : List ℕ → List ℕ → List Step → ℕ
loads_over image numbers steps = loads_during (begun image) (load numbers ∷ steps)

-- ---- the promise

-- what is counted is what is stored, and what a call reports
pub record Counted : Type 0 where
  pub images : (x : State) (v : Step) → (after x v).image ≡ stored x.image (makes x v)
  pub sending : (x : State) (said : Said) (spi : ℕ) (frame output : List ℕ)
      → (secured x.image x.numbers said spi frame output).stores ≡ length (makes x (send said spi frame output))
  pub checking : (x : State) (said : Said) (frame output : List ℕ)
      → (checked x.image x.numbers said frame output).stores ≡ length (makes x (check said frame output))

-- after the run, and with the stores of one more call, of which nothing else is counted
pub record Worn (e : ℕ) (image numbers : List ℕ) (steps : List Step) : Type 0 where
  pub after : stores_over e image numbers steps ≤ frames_over e image numbers steps / 64 + loads_over image numbers steps
  pub during : (v : Step) → let x = ran (begun image) (load numbers ∷ steps) in
      stores_over e image numbers steps + length (makes_under e x v) ≤ frames_over e image numbers steps / 64 + loads_over image numbers steps

pub record Wear : Type 0 where
  pub counted : Counted
  pub worn : (image numbers : List ℕ) (steps : List Step) → Octets image → (e : ℕ) → e < count_in image → direction_at image e ≡ 1
      → Worn e image numbers steps
