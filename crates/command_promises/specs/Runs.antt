-- Demand 3 with management commands (document 02, requests 5, 9 and 10): in every run, under every association, numbers only rise. A run
-- begins with a load of any image, and goes on with loads, sendings, checks and commands, by any desks and with any arguments, any of which
-- may be cut after any of its stores, after which only a load comes. Under each association the numbers of frames handed out strictly rise,
-- and so do those of data released, through stop, expire, rekey, start and changes of window and number. A sent number exceeds the one
-- before by at most 1 plus 64 for each load between them, if no set number for that association, whole or cut, came between. The image
-- stays valid, and only states, windows, key IDs and marks of its bodies and states of its keys change. It supposes only that the image and
-- the commands are octets.
-- Assumes nothing.
use Rattle.std.specs.Prelude.{ℕ, ◌+◌, ◌*◌, ◌≤◌, ◌<◌, ◌≡◌, ◌≢◌, ◌⊎◌, Bool, true, false, cond, ◌&&◌, List, [], ◌∷◌, ◌++◌, eqb, length}
use Rattle.octets.specs.Lists.{octet, Octets}
use Rattle.octets.specs.Numbers.{number_at}
use Rattle.link.specs.Calls.{loaded}
use Rattle.commands.specs.Commanding.{commanded, commanded_cut}
use Rattle.promises.specs.Images.{shape_in, count_in, spi_at, place, mark_place, key_count_in, key_at, ImageRules}
use Rattle.promises.specs.Runs as frames
use Rattle.promises.specs.Runs.{State, kept, restart, sent, released, ReleasedRise, sent_in, released_in, Once, begun}

-- ---- a run

-- A step of a run without commands; or a command of a desk, with its output, which may be cut after j of its stores, and the load that then
-- comes is handed any numbers.
pub data Step : Type 0 where
  call : frames.Step → Step
  command : ℕ → List ℕ → List ℕ → Step
  command_cut : ℕ → List ℕ → List ℕ → ℕ → List ℕ → Step

unfoldable pub after : State → Step → State
after x (call v) = frames.after x v
after x (command desk c output) = kept (commanded x.image x.numbers desk c output)
after x (command_cut desk c output j any) = kept (loaded (commanded_cut x.image x.numbers desk c output j) any)

unfoldable pub ran : State → List Step → State
ran x [] = x
ran x (v ∷ vs) = ran (after x v) vs

-- the commands of a run are octets
unfoldable pub OfOctets : List Step → Type 0
OfOctets [] = Unit {0}
OfOctets (call v ∷ vs) = OfOctets vs
OfOctets (command desk c output ∷ vs) = Octets c × OfOctets vs
OfOctets (command_cut desk c output j any ∷ vs) = Octets c × OfOctets vs

-- ---- what it shows of the association of entry e: what a run without commands shows, and a set number

pub data Shown : Type 0 where
  saw : frames.Shown → Shown
  numbered : Shown

unfoldable pub told : List frames.Shown → List Shown
told [] = []
told (s ∷ r) = saw s ∷ told r

-- a set number, tag 1A, for the entry's SPI, which is not refused
abbrev pub sets_number : ℕ → State → ℕ → List ℕ → List ℕ → Bool
sets_number e x desk c output =
    eqb (commanded x.image x.numbers desk c output).answer 0
    && (eqb (octet c 0) 0x1A && eqb (number_at 3 2 c) (spi_at x.image e))

unfoldable pub shows : ℕ → State → Step → List Shown
shows e x (call v) = told (frames.shows e x v)
shows e x (command desk c output) = cond (sets_number e x desk c output) (numbered ∷ []) []
shows e x (command_cut desk c output j any) = cond (sets_number e x desk c output) (numbered ∷ saw restart ∷ []) (saw restart ∷ [])

unfoldable pub trace : ℕ → State → List Step → List Shown
trace e x [] = []
trace e x (v ∷ vs) = shows e x v ++ trace e (after x v) vs

-- ---- what is promised of a trace

-- after p was sent, and then l loads and perhaps a set number: each number sent exceeds the one before, and by at most 1 and 64 for each
-- load between if no set number came between
unfoldable pub SentAfter : ℕ → ℕ → Bool → List Shown → Type 0
SentAfter p l free [] = Unit {0}
SentAfter p l free (saw restart ∷ r) = SentAfter p (l + 1) free r
SentAfter p l free (saw (sent n) ∷ r) = (p < n) × (free ≡ false → n ≤ p + 1 + 64 * l) × SentAfter n 0 false r
SentAfter p l free (saw (released n) ∷ r) = SentAfter p l free r
SentAfter p l free (numbered ∷ r) = SentAfter p l true r

unfoldable pub SentRise : List Shown → Type 0
SentRise [] = Unit {0}
SentRise (saw restart ∷ r) = SentRise r
SentRise (saw (sent n) ∷ r) = SentAfter n 0 false r
SentRise (saw (released n) ∷ r) = SentRise r
SentRise (numbered ∷ r) = SentRise r

-- what is left of it without set numbers, of which the same is promised as of a run without commands: numbers released rise, and none is sent or
-- released twice
unfoldable pub seen : List Shown → List frames.Shown
seen [] = []
seen (saw s ∷ r) = s ∷ seen r
seen (numbered ∷ r) = seen r

-- ---- and of the image

-- a place that is neither state, window, key ID nor mark of entry i
pub record Elsewhere (image : List ℕ) (i p : ℕ) : Type 0 where
  pub state : p ≢ place image i 3
  pub high : p ≢ place image i 8
  pub low : p ≢ place image i 9
  pub key_high : (shape_in image).key_part ≡ true → p ≢ place image i 16
  pub key_low : (shape_in image).key_part ≡ true → p ≢ place image i 17
  pub mark : (p < mark_place image i) ⊎ (mark_place image i + 4 ≤ p)

-- and not the state of a key
pub record Unmanaged (image : List ℕ) (p : ℕ) : Type 0 where
  pub entry : (i : ℕ) → i < count_in image → Elsewhere image i p
  pub key : (k : ℕ) → k < key_count_in image → p ≢ key_at image k + 2

pub record ManagedAlone (before image : List ℕ) : Type 0 where
  pub valid : ImageRules before → ImageRules image
  pub size : length image ≡ length before
  pub elsewhere : (p : ℕ) → Unmanaged before p → octet image p ≡ octet before p

-- ---- the promise

abbrev pub image_after : List ℕ → List ℕ → List Step → List ℕ
image_after image numbers steps = (ran (begun image) (call (frames.load numbers) ∷ steps)).image

abbrev pub shown_of : ℕ → List ℕ → List ℕ → List Step → List Shown
shown_of e image numbers steps = trace e (begun image) (call (frames.load numbers) ∷ steps)

pub record Run (image numbers : List ℕ) (steps : List Step) : Type 0 where
  pub images : ManagedAlone image (image_after image numbers steps)
  pub sent : (e : ℕ) → e < count_in image → SentRise (shown_of e image numbers steps)
  pub released : (e : ℕ) → e < count_in image → ReleasedRise (seen (shown_of e image numbers steps))
  pub sent_once : (e : ℕ) → e < count_in image → Once (sent_in (seen (shown_of e image numbers steps)))
  pub released_once : (e : ℕ) → e < count_in image → Once (released_in (seen (shown_of e image numbers steps)))

abbrev pub Runs : Type 0
Runs = (image numbers : List ℕ) (steps : List Step) → Octets image → OfOctets steps → Run image numbers steps
