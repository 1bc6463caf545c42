-- Document 02, requests 10 and 11: what one desk does shows neither in an answer to the other nor in the other's report. Take two runs as the
-- promise on desks has them, with notes: for desk d, which is 1 or 2, every answer to it is the same in both, with commands to the notes among
-- its calls, and after every step its report is the same, octet for octet. The log is not the same, and no answer to desk d tells it.
-- It supposes what the promise on desks supposes, and of the notes three reports each, of which desk d's is the same in both at the start. What
-- the logs hold, and the lists for their events, may differ.
-- Assumes nothing.
use Rattle.std.specs.Prelude.{ℕ, ◌≤◌, ◌≡◌, List, [], ◌∷◌, length}
use Rattle.link.specs.Calls.{secured}
use Rattle.noting.specs.Noted.{check_noted, command_noted}
use Rattle.promises.specs.Isolation.{SameAnswer}
use Rattle.promises.specs.Runs.{load, send, check, send_cut, check_cut}
use Rattle.command_promises.specs.Runs.{Step, call, command, command_cut}
use Rattle.desks.specs.Desks.{By, Own, Pair, same, apart, apart_cut, AllAllowed, Start, KeyPartSame}
use Rattle.noted_promises.specs.Reports.{three_reports, report_in}
use Rattle.noted_promises.specs.Runs.{NotedState, after, ran}

-- ---- the report

abbrev pub SameReport : ℕ → NotedState → NotedState → Type 0
SameReport d x y = report_in x.notes d ≡ report_in y.notes d

pub record ReportsAlike (d : ℕ) (x y : NotedState) : Type 0 where
  pub one : length (three_reports x.notes) ≡ 12
  pub other : length (three_reports y.notes) ≡ 12
  pub report : SameReport d x y

-- ---- the answers

-- of a whole call; one that is cut hands out nothing, and a load answers no desk
unfoldable pub NotedAnswered : NotedState → NotedState → Step → Type 0
NotedAnswered x y (call (load any)) = Unit {0}
NotedAnswered x y (call (send said spi frame output)) =
    SameAnswer (secured x.state.image x.state.numbers said spi frame output)
    (secured y.state.image y.state.numbers said spi frame output)
NotedAnswered x y (call (check said frame output)) =
    SameAnswer (check_noted x.notes x.state.image x.state.numbers said frame output).left
    (check_noted y.notes y.state.image y.state.numbers said frame output).left
NotedAnswered x y (call (send_cut said spi frame output j any)) = Unit {0}
NotedAnswered x y (call (check_cut said frame output j any)) = Unit {0}
NotedAnswered x y (command desk c output) =
    SameAnswer (command_noted x.notes x.state.image x.state.numbers desk c output).left
    (command_noted y.notes y.state.image y.state.numbers desk c output).left
NotedAnswered x y (command_cut desk c output j any) = Unit {0}

-- those to desk d, and its report after every step
unfoldable pub ToldTo : ℕ → NotedState → NotedState → List Pair → Type 0
ToldTo d x y [] = Unit {0}
ToldTo d x y (same v ∷ ps) =
    (By (Own d) v → NotedAnswered x y v) × SameReport d (after x v) (after y v) × ToldTo d (after x v) (after y v) ps
ToldTo d x y (apart vs ws ∷ ps) = SameReport d (ran x vs) (ran y ws) × ToldTo d (ran x vs) (ran y ws) ps
ToldTo d x y (apart_cut v w ∷ ps) = SameReport d (after x v) (after y w) × ToldTo d (after x v) (after y w) ps

-- ---- the promise

abbrev pub NotedDesks : Type 0
NotedDesks = (d : ℕ) → (1 ≤ d) × (d ≤ 2) → (x y : NotedState) (pairs : List Pair) → Start d x.state y.state → ReportsAlike d x y
    → AllAllowed d pairs → KeyPartSame x.state y.state pairs → ToldTo d x y pairs
