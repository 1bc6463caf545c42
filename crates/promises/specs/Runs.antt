-- Demand 3: in every run, under every association, numbers only rise. A run begins with a load of any image, and goes on with loads,
-- sendings and checks, by any desks and with any arguments, any of which may be cut after any of its stores, after which only a load comes.
-- Under each association the numbers of frames handed out strictly rise, so none goes out twice; the numbers of data released strictly
-- rise, so none is released twice; a sent number exceeds the one before by at most 1 plus 64 for each load between them. The image stays
-- valid, and only marks of it change. It supposes only that the image's numbers are octets: a load may be handed any numbers.
-- Assumes nothing.
use Rattle.std.specs.Prelude.{ℕ, ◌+◌, ◌*◌, ◌≤◌, ◌<◌, ◌≡◌, ◌⊎◌, Bool, cond, ◌&&◌, List, [], ◌∷◌, ◌++◌, eqb, length}
use Rattle.octets.specs.Lists.{octet, Octets}
use Rattle.link.specs.Calls.{Left, handed, loaded, secured, secured_cut, checked, checked_cut}
use Rattle.judging.specs.Said.{Said}
use Rattle.promises.specs.Images.{shape_in, count_in, spi_at, mark_place, service_at, ImageRules}
use Rattle.promises.specs.Frames.{spi_on, number_on}

-- ---- a run

-- A load is handed any numbers. A sending has what is said of the frame, SPI, frame and output, and a check the same without SPI; either may
-- be cut after j of its stores, and the load that then comes is handed any numbers.
pub data Step : Type 0 where
  load : List ℕ → Step
  send : Said → ℕ → List ℕ → List ℕ → Step
  check : Said → List ℕ → List ℕ → Step
  send_cut : Said → ℕ → List ℕ → List ℕ → ℕ → List ℕ → Step
  check_cut : Said → List ℕ → List ℕ → ℕ → List ℕ → Step

-- the image, and the numbers that the last call returned
pub record State : Type 0 where
  pub image : List ℕ
  pub numbers : List ℕ

abbrev pub kept : Left → State
kept x = record { image = x.image; numbers = x.numbers }

unfoldable pub after : State → Step → State
after x (load any) = kept (loaded x.image any)
after x (send said spi frame output) = kept (secured x.image x.numbers said spi frame output)
after x (check said frame output) = kept (checked x.image x.numbers said frame output)
after x (send_cut said spi frame output j any) = kept (loaded (secured_cut x.image x.numbers said spi frame output j) any)
after x (check_cut said frame output j any) = kept (loaded (checked_cut x.image x.numbers said frame output j) any)

unfoldable pub ran : State → List Step → State
ran x [] = x
ran x (v ∷ vs) = ran (after x v) vs

-- ---- what it shows of the association of entry e: a load, the number on a frame that went out, the number on a frame whose data came out

pub data Shown : Type 0 where
  restart : Shown
  sent : ℕ → Shown
  released : ℕ → Shown

-- a call that was done under the entry's SPI
abbrev pub done_under : State → ℕ → ℕ → Left → Bool
done_under x e spi y = eqb y.answer 0 && eqb spi (spi_at x.image e)

unfoldable pub shows : ℕ → State → Step → List Shown
shows e x (load any) = restart ∷ []
shows e x (send said spi frame output) =
    let y = secured x.image x.numbers said spi frame output in
    cond (done_under x e spi y) (sent (number_on (shape_in x.image) (service_at x.image e) said (handed y)) ∷ []) []
shows e x (check said frame output) =
    let y = checked x.image x.numbers said frame output in
    cond (done_under x e (spi_on said frame) y) (released (number_on (shape_in x.image) (service_at x.image e) said frame) ∷ []) []
shows e x (send_cut said spi frame output j any) = restart ∷ []
shows e x (check_cut said frame output j any) = restart ∷ []

unfoldable pub trace : ℕ → State → List Step → List Shown
trace e x [] = []
trace e x (v ∷ vs) = shows e x v ++ trace e (after x v) vs

-- ---- what is promised of a trace

-- after p was sent and then l loads: each number sent exceeds the one before, by at most 1 and 64 for each load between
unfoldable pub SentAfter : ℕ → ℕ → List Shown → Type 0
SentAfter p l [] = Unit {0}
SentAfter p l (restart ∷ r) = SentAfter p (l + 1) r
SentAfter p l (sent n ∷ r) = (p < n) × (n ≤ p + 1 + 64 * l) × SentAfter n 0 r
SentAfter p l (released n ∷ r) = SentAfter p l r

unfoldable pub SentRise : List Shown → Type 0
SentRise [] = Unit {0}
SentRise (restart ∷ r) = SentRise r
SentRise (sent n ∷ r) = SentAfter n 0 r
SentRise (released n ∷ r) = SentRise r

-- after p was released: each number released exceeds the one before
unfoldable pub ReleasedAfter : ℕ → List Shown → Type 0
ReleasedAfter p [] = Unit {0}
ReleasedAfter p (restart ∷ r) = ReleasedAfter p r
ReleasedAfter p (sent n ∷ r) = ReleasedAfter p r
ReleasedAfter p (released n ∷ r) = (p < n) × ReleasedAfter n r

unfoldable pub ReleasedRise : List Shown → Type 0
ReleasedRise [] = Unit {0}
ReleasedRise (restart ∷ r) = ReleasedRise r
ReleasedRise (sent n ∷ r) = ReleasedRise r
ReleasedRise (released n ∷ r) = ReleasedAfter n r

-- the numbers sent, those released, and that no number of a list stands in it twice
unfoldable pub sent_in : List Shown → List ℕ
sent_in [] = []
sent_in (restart ∷ r) = sent_in r
sent_in (sent n ∷ r) = n ∷ sent_in r
sent_in (released n ∷ r) = sent_in r

unfoldable pub released_in : List Shown → List ℕ
released_in [] = []
released_in (restart ∷ r) = released_in r
released_in (sent n ∷ r) = released_in r
released_in (released n ∷ r) = n ∷ released_in r

unfoldable pub Without : ℕ → List ℕ → Type 0
Without n [] = Unit {0}
Without n (m ∷ ms) = (m ≡ n → ⊥) × Without n ms

unfoldable pub Once : List ℕ → Type 0
Once [] = Unit {0}
Once (n ∷ ns) = Without n ns × Once ns

-- ---- and of the image

pub record MarksAlone (before image : List ℕ) : Type 0 where
  pub valid : ImageRules before → ImageRules image
  pub size : length image ≡ length before
  pub elsewhere : (p : ℕ) → ((i : ℕ) → i < count_in before → (p < mark_place before i) ⊎ (mark_place before i + 4 ≤ p))
      → octet image p ≡ octet before p

-- ---- the promise

-- a run that begins with a load of an image, and what it shows of entry e
abbrev pub begun : List ℕ → State
begun image = record { image = image; numbers = [] }

abbrev pub image_after : List ℕ → List ℕ → List Step → List ℕ
image_after image numbers steps = (ran (begun image) (load numbers ∷ steps)).image

abbrev pub shown_of : ℕ → List ℕ → List ℕ → List Step → List Shown
shown_of e image numbers steps = trace e (begun image) (load numbers ∷ steps)

pub record Run (image numbers : List ℕ) (steps : List Step) : Type 0 where
  pub images : MarksAlone image (image_after image numbers steps)
  pub sent : (e : ℕ) → e < count_in image → SentRise (shown_of e image numbers steps)
  pub released : (e : ℕ) → e < count_in image → ReleasedRise (shown_of e image numbers steps)
  pub sent_once : (e : ℕ) → e < count_in image → Once (sent_in (shown_of e image numbers steps))
  pub released_once : (e : ℕ) → e < count_in image → Once (released_in (shown_of e image numbers steps))

abbrev pub Runs : Type 0
Runs = (image numbers : List ℕ) (steps : List Step) → Octets image → Run image numbers steps
