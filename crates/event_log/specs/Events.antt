-- Document 02, request 11: the event log. One running record of 256 events, one for each check or command; when it is full, new events are
-- counted as dropped.
-- Assumes nothing.
use Rattle.std.specs.Prelude.{ℕ, ◌+◌, ◌*◌, cond, List, [], ◌∷◌, ◌++◌, ltb, length}
use Rattle.octets.specs.Numbers.{bytes}

-- one check or command: the desk that it came from, the command's first octet or 0, and the number of the answer
pub record Event : Type 0 where
  pub desk : ℕ
  pub tag : ℕ
  pub answer : ℕ

-- the events that are kept, the first of them first, and how many were dropped
pub record Running : Type 0 where
  pub kept : List Event
  pub dropped : ℕ

abbrev pub most_events : ℕ
most_events = 256

-- the count of dropped events stays there
abbrev pub most_dropped : ℕ
most_dropped = 4294967295

-- ---- one event more

unfoldable pub entering : Running → Event → Running
entering l e =
    cond (ltb (length l.kept) most_events)
    (record { kept = l.kept ++ (e ∷ []); dropped = l.dropped })
    (record { kept = l.kept; dropped = cond (ltb l.dropped most_dropped) (l.dropped + 1) l.dropped })

-- ---- the reply to a dump: for each event its tag, a length of 2 in two octets, its desk and its answer

abbrev pub event_line : Event → List ℕ
event_line e = e.tag ∷ 0 ∷ 2 ∷ e.desk ∷ e.answer ∷ []

unfoldable pub dump_value : List Event → List ℕ
dump_value [] = []
dump_value (e ∷ es) = event_line e ++ dump_value es

-- a tag, the length of the value in two octets, the value
unfoldable pub dump_reply : List Event → List ℕ
dump_reply es = 0xB3 ∷ (bytes 2 (length (dump_value es)) ++ dump_value es)

-- ---- the reply to an erase: the events that are left, none, and the free space in octets of events, where there is room for so many

abbrev pub event_length : ℕ
event_length = 3

abbrev pub erase_value : ℕ → List ℕ
erase_value room = bytes 2 0 ++ bytes 2 (event_length * room)

unfoldable pub erase_reply : ℕ → List ℕ
erase_reply room = 0xB4 ∷ (bytes 2 (length (erase_value room)) ++ erase_value room)
