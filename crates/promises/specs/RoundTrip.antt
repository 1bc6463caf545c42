-- Demand 2: what one end secures the other end releases. If securing a frame under an SPI answers 0, then checking the frame that went out,
-- under the same kind and the same word on the check field, answers 0 at the other end's desk, which may be another, and its result is
-- exactly the clear frame's data. It supposes what document 01 lets it suppose: the other end's image is valid and its numbers agree with
-- it, its entry is operational, seen by that desk, and holds the same SPI, service, kind, key, mask, spacecraft and MAP with direction 2
-- and serves the frame's channel (whatever other channels either end serves, whatever ID either has for the key, and whichever version
-- either image has; but under service 2 both are below version 3, or neither is, so that they make the IV alike), its output is long
-- enough, and the number on the frame lies in its window. One statement for both services and every kind, with a check field and without.
-- Assumes nothing.
use Rattle.std.specs.Prelude.{ℕ, ◌≤◌, ◌<◌, ◌≡◌, List, length}
use Rattle.link.specs.Calls.{Left, handed, secured, checked}
use Rattle.judging.specs.Said.{Said}
use Rattle.octets.specs.Lists.{Octets}
use Rattle.promises.specs.Images.{shape_in, count_in, spi_at, service_at, kind_at, direction_at, state_at, spacecraft_at, map_at}
use Rattle.promises.specs.Images.{window_at, mask_at, key_octets_at, last_at, ServesChannel, ImageRules, Agreeing, Sees, InWindow}
use Rattle.promises.specs.Forms.{form_said}
use Rattle.promises.specs.Frames.{data_in_clear, number_on}

-- the same kind and the same word on the check field, from a desk
abbrev pub by : ℕ → Said → Said
by desk said = record { desk = desk; kind = said.kind; field = said.field }

-- entry i of the image there, against entry e of the image here, for a frame that is sent under entry e and checked by a desk
pub record OtherEnd (said : Said) (frame here : List ℕ) (e : ℕ) (there numbers : List ℕ) (i desk : ℕ) : Type 0 where
  pub valid : ImageRules there
  pub agree : Agreeing there numbers
  pub entry : i < count_in there
  pub seen : Sees there desk i
  pub spi : spi_at there i ≡ spi_at here e
  pub service : service_at there i ≡ service_at here e
  pub kind : kind_at there i ≡ kind_at here e
  pub key : key_octets_at there i ≡ key_octets_at here e
  pub iv : service_at here e ≡ 2 → (shape_in there).key_part ≡ (shape_in here).key_part
  pub mask : mask_at there i ≡ mask_at here e
  pub spacecraft : spacecraft_at there i ≡ spacecraft_at here e
  pub channel : ServesChannel there i ((form_said said).channel frame)
  pub map : map_at there i ≡ map_at here e
  pub direction : direction_at there i ≡ 2
  pub state : state_at there i ≡ 2

pub record Released (text : List ℕ) (x : Left) : Type 0 where
  pub answer : x.answer ≡ 0
  pub size : x.length ≡ length text
  pub result : handed x ≡ text

pub record RoundTrip : Type 0 where
  pub released : (here sendNumbers : List ℕ) (said : Said) (spi : ℕ) (frame sendOutput there numbers output : List ℕ) (e i desk : ℕ)
      → Octets there
      → let x = secured here sendNumbers said spi frame sendOutput in
      x.answer ≡ 0
      → e < count_in here
      → spi_at here e ≡ spi
      → OtherEnd said frame here e there numbers i desk
      → InWindow (last_at numbers i) (window_at there i) (number_on (shape_in here) (service_at here e) said (handed x))
      → length (data_in_clear said frame) ≤ length output
      → Released (data_in_clear said frame) (checked there numbers (by desk said) (handed x) output)
