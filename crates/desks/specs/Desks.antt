-- Document 02, request 10: what one desk does shows in no answer to the other. Take desk d, which is 1 or 2, and two runs on images of version
-- 4 that differ only in the other desk's bodies, numbers and calls: loads, and the calls of desk 0 and of desk d, are the same in both, and
-- between them either run has any whole calls of the other desk, or none. Then every answer to desk d is the same in both: its number, its
-- length, its stores, and the frame, the data or the reply that is handed out.
-- It supposes of the two images what document 02 supposes at the start: they are valid, agree or disagree with their numbers alike, and have
-- contents, owners, key part and desk d's bodies and numbers in common. Contents, owners, validity and agreement then stay alike by themselves.
-- Of the key part it is supposed after every step that it is the same in both, as a deactivation by desk 0 looks at all bodies and may be
-- done in one run and refused in the other. A call that is cut leaves only a load, so cuts stand at the same places in both: one of the other
-- desk is cut in both, be it another one after another number of stores. It supposes nothing else but that the commands are octets, and 32
-- numbers.
-- Assumes nothing.
use Rattle.std.specs.Prelude.{ℕ, ◌≤◌, ◌<◌, ◌≡◌, ◌≢◌, ◌⊎◌, Bool, true, false, List, [], ◌∷◌, length}
use Rattle.octets.specs.Lists.{octet, Octets}
use Rattle.link.specs.Calls.{secured, checked}
use Rattle.commands.specs.Commanding.{commanded}
use Rattle.promises.specs.Images.{version_in, count_in, place, part_place, owner_at, last_at, ImageRules, Agreeing}
use Rattle.promises.specs.Isolation.{SameAnswer}
use Rattle.promises.specs.Runs.{State, load, send, check, send_cut, check_cut}
use Rattle.command_promises.specs.Runs.{Step, call, command, command_cut, after, ran}

-- ---- whose call a step is

-- a call of a desk of which P holds, its command octets; a load is no desk's call
unfoldable pub By : (ℕ → Type 0) → Step → Type 0
By P (call (load any)) = ⊥
By P (call (send said spi frame output)) = P said.desk
By P (call (check said frame output)) = P said.desk
By P (call (send_cut said spi frame output j any)) = P said.desk
By P (call (check_cut said frame output j any)) = P said.desk
By P (command desk c output) = P desk × Octets c
By P (command_cut desk c output j any) = P desk × Octets c

unfoldable pub is_load : Step → Bool
is_load (call (load any)) = true
is_load (call (send said spi frame output)) = false
is_load (call (check said frame output)) = false
is_load (call (send_cut said spi frame output j any)) = false
is_load (call (check_cut said frame output j any)) = false
is_load (command desk c output) = false
is_load (command_cut desk c output j any) = false

-- cut, and then loaded
unfoldable pub is_cut : Step → Bool
is_cut (call (load any)) = false
is_cut (call (send said spi frame output)) = false
is_cut (call (check said frame output)) = false
is_cut (call (send_cut said spi frame output j any)) = true
is_cut (call (check_cut said frame output j any)) = true
is_cut (command desk c output) = false
is_cut (command_cut desk c output j any) = true

abbrev pub Own : ℕ → ℕ → Type 0
Own d desk = desk ≡ d

abbrev pub OwnOrOffice : ℕ → ℕ → Type 0
OwnOrOffice d desk = (desk ≡ 0) ⊎ (desk ≡ d)

abbrev pub Other : ℕ → ℕ → Type 0
Other d desk = (desk ≢ 0) × (desk ≢ d)

-- ---- two runs, side by side

-- a step of both; whole calls of the other desk, in the one and in the other run; and a cut call of the other desk in each
pub data Pair : Type 0 where
  same : Step → Pair
  apart : List Step → List Step → Pair
  apart_cut : Step → Step → Pair

-- where it leaves the one run, and the other
unfoldable pub here : State → Pair → State
here x (same v) = after x v
here x (apart vs ws) = ran x vs
here x (apart_cut v w) = after x v

unfoldable pub there : State → Pair → State
there y (same v) = after y v
there y (apart vs ws) = ran y ws
there y (apart_cut v w) = after y w

unfoldable pub AllOther : ℕ → List Step → Type 0
AllOther d [] = Unit {0}
AllOther d (v ∷ vs) = By (Other d) v × (is_cut v ≡ false) × AllOther d vs

unfoldable pub Allowed : ℕ → Pair → Type 0
Allowed d (same v) = (is_load v ≡ true) ⊎ By (OwnOrOffice d) v
Allowed d (apart vs ws) = AllOther d vs × AllOther d ws
Allowed d (apart_cut v w) = By (Other d) v × (is_cut v ≡ true) × By (Other d) w × (is_cut w ≡ true)

unfoldable pub AllAllowed : ℕ → List Pair → Type 0
AllAllowed d [] = Unit {0}
AllAllowed d (p ∷ ps) = Allowed d p × AllAllowed d ps

-- ---- the start

pub record Sound (x : State) : Type 0 where
  pub octets : Octets x.image
  pub version : version_in x.image ≡ 4
  pub valid : ImageRules x.image
  pub thirty_two : length x.numbers ≡ 32

-- an octet that both have: it stands in no body but of desk d, or is the last of a body, its owner
abbrev pub Common : ℕ → List ℕ → ℕ → Type 0
Common d image p = (i : ℕ) → i < count_in image → place image i 0 ≤ p → p < place image i 22 → owner_at image i ≡ d

pub record Alike (d : ℕ) (x y : State) : Type 0 where
  pub size : length y.image ≡ length x.image
  pub octets : (p : ℕ) → Common d x.image p → octet y.image p ≡ octet x.image p
  pub numbers : (i : ℕ) → i < count_in x.image → owner_at x.image i ≡ d → last_at y.numbers i ≡ last_at x.numbers i

abbrev pub AgreeingState : State → Type 0
AgreeingState x = Agreeing x.image x.numbers

pub record Start (d : ℕ) (x y : State) : Type 0 where
  pub one : Sound x
  pub other : Sound y
  pub alike : Alike d x y
  pub agree : AgreeingState x → AgreeingState y
  pub agreed : AgreeingState y → AgreeingState x

-- ---- the key part, after every step

abbrev pub SameKeyPart : State → State → Type 0
SameKeyPart x y = (p : ℕ) → part_place x.image ≤ p → octet y.image p ≡ octet x.image p

unfoldable pub KeyPartSame : State → State → List Pair → Type 0
KeyPartSame x y [] = Unit {0}
KeyPartSame x y (p ∷ ps) = SameKeyPart (here x p) (there y p) × KeyPartSame (here x p) (there y p) ps

-- ---- the answers

-- of a whole call; one that is cut hands out nothing, and a load answers no desk
unfoldable pub Answered : State → State → Step → Type 0
Answered x y (call (load any)) = Unit {0}
Answered x y (call (send said spi frame output)) =
    SameAnswer (secured x.image x.numbers said spi frame output) (secured y.image y.numbers said spi frame output)
Answered x y (call (check said frame output)) =
    SameAnswer (checked x.image x.numbers said frame output) (checked y.image y.numbers said frame output)
Answered x y (call (send_cut said spi frame output j any)) = Unit {0}
Answered x y (call (check_cut said frame output j any)) = Unit {0}
Answered x y (command desk c output) =
    SameAnswer (commanded x.image x.numbers desk c output) (commanded y.image y.numbers desk c output)
Answered x y (command_cut desk c output j any) = Unit {0}

-- those to desk d
unfoldable pub AnsweredTo : ℕ → State → State → List Pair → Type 0
AnsweredTo d x y [] = Unit {0}
AnsweredTo d x y (same v ∷ ps) = (By (Own d) v → Answered x y v) × AnsweredTo d (after x v) (after y v) ps
AnsweredTo d x y (apart vs ws ∷ ps) = AnsweredTo d (ran x vs) (ran y ws) ps
AnsweredTo d x y (apart_cut v w ∷ ps) = AnsweredTo d (after x v) (after y w) ps

-- ---- the promise

abbrev pub Desks : Type 0
Desks = (d : ℕ) → (1 ≤ d) × (d ≤ 2) → (x y : State) (pairs : List Pair) → Start d x y → AllAllowed d pairs → KeyPartSame x y pairs
    → AnsweredTo d x y pairs
