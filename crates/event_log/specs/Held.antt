-- Document 02, request 11: the log as the caller lends it: two counts, and beside them a list for the events, three octets each, desk, tag and
-- answer, one event behind the other. Whatever they hold is a log.
-- Assumes nothing.
use Rattle.std.specs.Prelude.{ℕ, zero, suc, ◌+◌, ◌*◌, ◌/◌, cond, List, [], ◌∷◌, ◌++◌, ltb, length, set, take}
use Rattle.octets.specs.Lists.{octet}
use Rattle.octets.specs.Output.{written}
use Rattle.event_log.specs.Events.{Event, Running, most_events, most_dropped, event_length, dump_value}
use Rattle.event_log.specs.declared.events.Log.{Log}

pub record LentLog : Type 0 where
  pub counts : Log
  pub events : List ℕ

abbrev pub lent_log : Log → List ℕ → LentLog
lent_log counts events = record { counts = counts; events = events }

-- ---- the log in them

abbrev pub event_at : List ℕ → ℕ → Event
event_at s i =
    record {
      desk = octet s (event_length * i);
      tag = octet s (event_length * i + 1);
      answer = octet s (event_length * i + 2);
    }

-- the first n events
unfoldable pub events_in : ℕ → List ℕ → List Event
events_in zero s = []
events_in (suc n) s = events_in n s ++ (event_at s n ∷ [])

-- how many events the list has room for, whole ones, and at most 256
unfoldable pub room_for : List ℕ → ℕ
room_for events = cond (ltb (length events / event_length) most_events) (length events / event_length) most_events

-- a count above the room is read as the room
abbrev pub kept_count : ℕ → List ℕ → ℕ
kept_count kept events = cond (ltb kept (room_for events)) kept (room_for events)

abbrev pub held : LentLog → Running
held l = record { kept = events_in (kept_count l.counts.kept l.events) l.events; dropped = l.counts.dropped }

-- ---- after an event, and after an erase

abbrev pub event_put : List ℕ → ℕ → Event → List ℕ
event_put s at e = set (set (set s at e.desk) (at + 1) e.tag) (at + 2) e.answer

unfoldable pub entered_in : LentLog → Event → LentLog
entered_in l e =
    let kept = l.counts.kept in
    let dropped = l.counts.dropped in
    cond (ltb kept (room_for l.events))
    (lent_log (record { kept = kept + 1; dropped = dropped }) (event_put l.events (event_length * kept) e))
    (cond (ltb dropped most_dropped)
    (lent_log (record { kept = kept; dropped = dropped + 1 }) l.events)
    l)

-- nothing is kept and nothing was dropped; what the list holds is no event then
abbrev pub fresh_log : Log
fresh_log = record { kept = 0; dropped = 0 }

abbrev pub erased_in : LentLog → LentLog
erased_in l = lent_log fresh_log l.events

abbrev pub event : ℕ → ℕ → ℕ → Event
event desk tag answer = record { desk = desk; tag = tag; answer = answer }

-- ---- for the contracts of inner functions: an output with the first n events behind its first three octets

abbrev pub lines_behind : List ℕ → List ℕ → ℕ → List ℕ
lines_behind output events n = written (take 3 output ++ dump_value (events_in n events)) output
