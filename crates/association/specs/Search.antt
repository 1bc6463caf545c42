-- Document 01, 'What comes back', answer 4, and document 02, requests 2, 5 and 10: what a frame and its SPI ask of an entry, and the search,
-- which ends at the first entry that matches. It is made for a desk, and finds what that desk sees alone.
-- Assumes nothing.
use Rattle.std.specs.Prelude.{ℕ, zero, suc, ◌+◌, ◌/◌, ◌%◌, ◌^◌, Bool, cond, not, ◌&&◌, ◌||◌, List, eqb, ltb, Option, Some, None}
use Rattle.kinds.specs.Kinds.{has_map, kind_of}
use Rattle.bodies.specs.Body.{kind_in, direction_of, state_of, spacecraft_of, channel_of, holds_set, map_of, owner_of, key_office, operational}
use Rattle.image.specs.Image.{version_of, count_of, spi_of, body_of}
use Rattle.association.specs.declared.search.Wanted.{Wanted}

-- whether a channel is in a set of eight bits, the lowest for channel 0
abbrev pub in_set : ℕ → ℕ → Bool
in_set set channel = ltb channel 8 && eqb (set / 2 ^ channel % 2) 1

abbrev pub serves_channel : ℕ → List ℕ → ℕ → Bool
serves_channel version body channel =
    cond (holds_set version body) (in_set (channel_of body) channel) (eqb (channel_of body) channel)

-- of a kind that has no MAP, any
abbrev pub serves_map : List ℕ → ℕ → Bool
serves_map body map = not (has_map (kind_of (kind_in body))) || eqb (map_of body) map

-- operational, and of that direction, kind, spacecraft, channel and MAP
unfoldable pub body_serves : ℕ → List ℕ → Wanted → Bool
body_serves version body w =
    eqb (state_of body) operational
    && eqb (direction_of body) w.direction
    && eqb (kind_in body) w.kind
    && eqb (spacecraft_of body) w.spacecraft
    && serves_channel version body w.channel
    && serves_map body w.map

-- the key office's desk sees every body, another those that belong to it
abbrev pub sees : ℕ → ℕ → Bool
sees desk owner = eqb desk key_office || eqb desk owner

-- whether entry i has an SPI, for a desk: an entry that the desk does not see has none for it
unfoldable pub has_spi : List ℕ → ℕ → ℕ → ℕ → Bool
has_spi image desk spi i = eqb (spi_of image i) spi && sees desk (owner_of (version_of image) (body_of image i))

unfoldable pub matches : List ℕ → Wanted → ℕ → Bool
matches image w i = has_spi image w.desk w.spi i && body_serves (version_of image) (body_of image i) w

-- the first of the n numbers from i on at which a test passes
unfoldable pub first_from : ℕ → ℕ → (ℕ → Bool) → Option ℕ
first_from i zero test = None
first_from i (suc n) test = cond (test i) (Some i) (first_from (i + 1) n test)

unfoldable pub entry_for : List ℕ → Wanted → Option ℕ
entry_for image w = first_from 0 (count_of image) (matches image w)

-- the entry with an SPI, whatever its direction, kind and state
unfoldable pub with_spi : List ℕ → ℕ → ℕ → Option ℕ
with_spi image desk spi = first_from 0 (count_of image) (has_spi image desk spi)
