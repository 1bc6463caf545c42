-- What the functions make of a frame's data, for their own contracts: under a security header the data as it goes out, the clear data that
-- comes back, and the MAC. No definition of a frame cites this file.
-- Assumes nothing.
use Rattle.std.specs.Prelude.{List, ℕ, drop}
use Rattle.association.specs.declared.held.Held.{Held}
use Rattle.services.specs.SecurityHeader.{service_in}

abbrev pub text_under : Held → List ℕ → List ℕ → List ℕ
text_under h security clear = (service_in h).going_out h.key (drop 2 security) clear

abbrev pub clear_under : Held → List ℕ → List ℕ → List ℕ
clear_under h security text = (service_in h).coming_in h.key (drop 2 security) text

abbrev pub mac_under : Held → List ℕ → List ℕ → List ℕ → List ℕ
mac_under h security before text = (service_in h).mac h.key (drop 2 security) before text
