-- Document 01, 'Frames', and document 02, request 9: the security header under what an association holds: the SPI in two octets, then the field
-- of its service, which holds the number.
-- Assumes nothing.
use Rattle.std.specs.Prelude.{ℕ, ◌+◌, ◌-◌, Bool, cond, List, ◌++◌, eqb, drop}
use Rattle.octets.specs.Numbers.{number, bytes}
use Rattle.association.specs.declared.held.Held.{Held}
use Rattle.services.specs.Services.{Service, service}

abbrev pub service_in : Held → Service
service_in h = service h.service

abbrev pub security_length : Held → ℕ
security_length h = 2 + (service_in h).field

-- the field of a service for a number, under what names the association: the IV of service 2 is four octets that hold that, the SPI from
-- version 3 on and 0 below, and the number in eight. So below version 3 it is the number in twelve octets
abbrev pub field_under : Service → ℕ → ℕ → List ℕ
field_under s naming n = bytes s.named naming ++ bytes (s.field - s.named) n

-- the number that a field holds. One that names another association holds none that is accepted: it reads as 0, which no window takes
abbrev pub names : Service → ℕ → List ℕ → Bool
names s naming field = eqb (number s.named field) (number s.named (bytes s.named naming))

unfoldable pub number_under : Service → ℕ → List ℕ → ℕ
number_under s naming field = cond (names s naming field) (number (s.field - s.named) (drop s.named field)) 0

abbrev pub field_for : Held → ℕ → List ℕ
field_for h n = field_under (service_in h) h.naming n

abbrev pub number_from : Held → List ℕ → ℕ
number_from h field = number_under (service_in h) h.naming field
