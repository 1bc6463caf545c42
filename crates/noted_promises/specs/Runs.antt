-- Document 02, request 11: the log counts the calls themselves. Take any run, of loads, sendings, checks and commands by any desks and with any
-- arguments, any of which may be cut, after which only a load comes. It begins with a log that is fresh, beside a list that has room for 256
-- events and may hold anything. Then the events are the whole checks and the whole commands since the last erase that was done, of which a dump
-- and an erase are none. The first 256 of them are kept, in their order, each with its desk, its first command octet (0 for a check and for an
-- empty command) and its answer; all the others are counted as dropped, until 4,294,967,295, where the count stays. The list keeps its length, and
-- behind its first 768 octets it stays as it was. And beside the notes the run is the run without them: image and numbers after the same steps
-- are the same, so what is promised of runs holds of runs with notes. It supposes nothing else.
-- Assumes nothing.
use Rattle.std.specs.Prelude.{ℕ, ◌+◌, ◌-◌, ◌*◌, ◌≤◌, ◌<◌, min, ◌≡◌, cond, List, [], ◌∷◌, ◌++◌, eqb, length, take, drop}
use Rattle.octets.specs.Lists.{octet}
use Rattle.notes.specs.Noting.{LentNotes}
use Rattle.noting.specs.Noted.{Noted, check_noted, command_noted}
use Rattle.promises.specs.Runs.{State, kept, load, send, check, send_cut, check_cut}
use Rattle.command_promises.specs.Runs as plain
use Rattle.command_promises.specs.Runs.{Step, call, command, command_cut}

-- ---- a run

-- image and numbers, and the notes that the last check or command returned
pub record NotedState : Type 0 where
  pub state : State
  pub notes : LentNotes

-- a step that is handed no notes
abbrev pub unnoted : NotedState → Step → NotedState
unnoted x v = record { state = plain.after x.state v; notes = x.notes }

abbrev pub noted : Noted → NotedState
noted y = record { state = kept y.left; notes = y.notes }

unfoldable pub after : NotedState → Step → NotedState
after x (call (load any)) = unnoted x (call (load any))
after x (call (send said spi frame output)) = unnoted x (call (send said spi frame output))
after x (call (check said frame output)) = noted (check_noted x.notes x.state.image x.state.numbers said frame output)
after x (call (send_cut said spi frame output j any)) = unnoted x (call (send_cut said spi frame output j any))
after x (call (check_cut said frame output j any)) = unnoted x (call (check_cut said frame output j any))
after x (command desk c output) = noted (command_noted x.notes x.state.image x.state.numbers desk c output)
after x (command_cut desk c output j any) = unnoted x (command_cut desk c output j any)

unfoldable pub ran : NotedState → List Step → NotedState
ran x [] = x
ran x (v ∷ vs) = ran (after x v) vs

-- ---- the events, counted from the calls

-- desk, first command octet, answer
abbrev pub Event : Type 0
Event = ℕ × ℕ × ℕ

-- after a command with that first octet and that answer, where es came before it
abbrev pub events_of : List Event → ℕ → ℕ → ℕ → List Event
events_of es desk tag answer =
    cond (eqb tag 0x34) (cond (eqb answer 0) [] es) (cond (eqb tag 0x33) es (es ++ ((desk, tag, answer) ∷ [])))

unfoldable pub counted : NotedState → List Event → Step → List Event
counted x es (call (load any)) = es
counted x es (call (send said spi frame output)) = es
counted x es (call (check said frame output)) =
    es ++ ((said.desk, 0, (check_noted x.notes x.state.image x.state.numbers said frame output).left.answer) ∷ [])
counted x es (call (send_cut said spi frame output j any)) = es
counted x es (call (check_cut said frame output j any)) = es
counted x es (command desk c output) =
    events_of es desk (octet c 0) (command_noted x.notes x.state.image x.state.numbers desk c output).left.answer
counted x es (command_cut desk c output j any) = es

unfoldable pub events_in : NotedState → List Event → List Step → List Event
events_in x es [] = es
events_in x es (v ∷ vs) = events_in (after x v) (counted x es v) vs

-- ---- what is promised of the log

-- as they lie in the list: three octets each
unfoldable pub octets_of : List Event → List ℕ
octets_of [] = []
octets_of (e ∷ es) = e.0 ∷ e.1 ∷ e.2 ∷ octets_of es

-- the log after the events es and no others; its list was `lent`
pub record Counted (lent : List ℕ) (es : List Event) (n : LentNotes) : Type 0 where
  pub first : n.notes.log.kept ≡ min (length es) 256
  pub events : take (3 * n.notes.log.kept) n.events ≡ octets_of (take 256 es)
  pub others : n.notes.log.dropped ≡ min (length es - 256) 4294967295
  pub all : n.notes.log.dropped < 4294967295 → n.notes.log.kept + n.notes.log.dropped ≡ length es
  pub size : length n.events ≡ length lent
  pub behind : drop 768 n.events ≡ drop 768 lent

pub record Fresh (n : LentNotes) : Type 0 where
  pub kept : n.notes.log.kept ≡ 0
  pub dropped : n.notes.log.dropped ≡ 0
  pub room : 768 ≤ length n.events

-- ---- the promise

pub record NotedRuns : Type 0 where
  pub log : (x : NotedState) (steps : List Step) → Fresh x.notes → Counted x.notes.events (events_in x [] steps) (ran x steps).notes
  pub beside : (x : NotedState) (steps : List Step) → (ran x steps).state ≡ plain.ran x.state steps
