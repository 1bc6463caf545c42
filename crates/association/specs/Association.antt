-- An association as a call sees it: the body of the entry that matches, the version by which the body is read, its key, the entry's number, and
-- the number that names it in an IV.
-- Assumes nothing.
use Rattle.std.specs.Prelude.{ℕ, Bool, true, false, cond, List, [], Option, Some, None}
use Rattle.octets.specs.Lists.{part}
use Rattle.bodies.specs.Body.{service_of, kind_in, direction_of, state_of, window_of, mask_of}
use Rattle.image.specs.Image.{version_of, layout, spi_of, body_of, key_of, mark_in}
use Rattle.numbers.specs.Numbers.{number_of}
use Rattle.association.specs.Search.{entry_for}
use Rattle.association.specs.declared.entry.Entry.{Entry}
use Rattle.association.specs.declared.held.Held.{Held}
use Rattle.association.specs.declared.search.Wanted.{Wanted}

pub record Association : Type 0 where
  pub version : ℕ
  pub body : List ℕ
  pub key : List ℕ
  pub number : ℕ
  pub naming : ℕ

-- request 9: where several bodies may name one key, the SPI names the association in an IV, so that no two make the same one. Below version 3
-- nothing does
unfoldable pub naming_of : List ℕ → ℕ → ℕ
naming_of image i = cond (layout image).keys (spi_of image i) 0

-- that of entry i
unfoldable pub association_of : List ℕ → List ℕ → ℕ → Association
association_of image last i =
    record { version = version_of image; body = body_of image i; key = key_of image i; number = number_of last i; naming = naming_of image i }

-- what the code holds of a body, its key and what names it: the fields that protect a frame
unfoldable pub held : List ℕ → List ℕ → ℕ → Held
held body key naming = record { service = service_of body; window = window_of body; mask = mask_of body; key = key; naming = naming }

abbrev pub held_in : Association → Held
held_in a = held a.body a.key a.naming

-- an entry as a report shows it
unfoldable pub entry_of : List ℕ → ℕ → Entry
entry_of image i =
    let body = body_of image i in
    record {
      spi = spi_of image i;
      service = service_of body;
      kind = kind_in body;
      direction = direction_of body;
      state = state_of body;
      window = window_of body;
      mark = mark_in image i;
    }

-- ---- one association, or none

pub data Match : Type 0 where
  one : Association → Match
  none : Match

abbrev pub is_none : Match → Bool
is_none (one a) = false
is_none none = true

-- the one there is; where there is none, one whose octets all read as 0
abbrev pub the_one : Match → Association
the_one (one a) = a
the_one none = record { version = 0; body = []; key = part 0 32 []; number = 0; naming = 0 }

abbrev pub match_at : List ℕ → List ℕ → Option ℕ → Match
match_at image last (Some i) = one (association_of image last i)
match_at image last None = none

-- the association that the search finds
unfoldable pub matching : List ℕ → List ℕ → Wanted → Match
matching image last w = match_at image last (entry_for image w)

-- the entry that it finds, and 0 for none
abbrev pub index_of : Option ℕ → ℕ
index_of (Some i) = i
index_of None = 0
