-- Management round trips. After a stop, sending and checking under that SPI answer 4, to every desk. A start that names the right channels,
-- from a desk that sees the entry, then answers 0,
-- and image and numbers are again what they were before the stop, so that every later call gives what it would have given. The same
-- holds after stop, expire, rekey and start. A number that was set is read back.
-- Assumes nothing.
use Rattle.std.specs.Prelude.{ℕ, ◌+◌, ◌*◌, ◌≤◌, ◌≡◌, cond, List, ◌∷◌, ◌++◌, length}
use Rattle.octets.specs.Lists.{octet, Octets}
use Rattle.octets.specs.Numbers.{number_at, bytes}
use Rattle.link.specs.Calls.{Left, handed, secured, checked}
use Rattle.commands.specs.Commanding.{commanded}
use Rattle.judging.specs.Said.{Said}
use Rattle.promises.specs.Frames.{FrameRules, RightField, spi_on}
use Rattle.promises.specs.Images.{shape_in, spi_at, key_id_at, Sees}
use Rattle.command_promises.specs.Answers.{FormRules}
use Rattle.command_promises.specs.Rows.{Names, IsChannel}

-- a command of that tag and a right length for the SPI of entry e
pub record Speaks (image : List ℕ) (e t : ℕ) (command : List ℕ) : Type 0 where
  pub octets : Octets command
  pub form : FormRules command
  pub tag : octet command 0 ≡ t
  pub spi : number_at 3 2 command ≡ spi_at image e

-- a start whose channels are the entry's
pub record Starts (image : List ℕ) (e : ℕ) (command : List ℕ) : Type 0 where
  pub speaks : Speaks image e 0x1B command
  pub channels : (i : ℕ) → 5 + 4 * i + 4 ≤ length command → IsChannel image e (number_at (5 + 4 * i) 4 command)

-- a rekey with key ID 0, or where the image has a key part the ID of the entry's own key, and number 0
pub record Rekeys (image : List ℕ) (e : ℕ) (command : List ℕ) : Type 0 where
  pub speaks : Speaks image e 0x16 command
  pub key : number_at 5 2 command ≡ cond (shape_in image).key_part (key_id_at image e) 0
  pub number : number_at 7 12 command ≡ 0

-- all as it was, after a call that is done
pub record Restored (image numbers : List ℕ) (x : Left) : Type 0 where
  pub answer : x.answer ≡ 0
  pub images : x.image ≡ image
  pub lasts : x.numbers ≡ numbers

-- what image and numbers after a stop mean for entry e's association
pub record Stopped (image numbers : List ℕ) (e : ℕ) (after last : List ℕ) : Type 0 where
  pub sending : (said : Said) (frame output : List ℕ) → said.desk ≤ 2 → FrameRules said frame 1 → RightField said frame
      → (secured after last said (spi_at image e) frame output).answer ≡ 4
  pub checking : (said : Said) (frame output : List ℕ) → said.desk ≤ 2 → FrameRules said frame 2 → RightField said frame → spi_on said frame ≡ spi_at image e
      → (checked after last said frame output).answer ≡ 4
  pub started : (desk : ℕ) (start output : List ℕ) → Sees image desk e → Starts image e start
      → Restored image numbers (commanded after last desk start output)
  pub rekeyed : (desk : ℕ) (expire out rekey out2 start out3 : List ℕ) → Sees image desk e → Speaks image e 0x19 expire → Rekeys image e rekey → Starts image e start
      → let y = commanded after last desk expire out in
      let z = commanded y.image y.numbers desk rekey out2 in
      Restored image numbers (commanded z.image z.numbers desk start out3)

pub record Management : Type 0 where
  pub stopped : (image numbers : List ℕ) (desk : ℕ) (stop output : List ℕ) (e : ℕ) → Octets image → length numbers ≡ 32
      → Names image desk stop e
      → Octets stop → octet stop 0 ≡ 0x1E → let x = commanded image numbers desk stop output in
      x.answer ≡ 0 → Stopped image numbers e x.image x.numbers
  pub read_back : (image numbers : List ℕ) (desk reader : ℕ) (set read output room : List ℕ) (e : ℕ) → Octets image → length numbers ≡ 32
      → Names image desk set e → Sees image reader e
      → Octets set → octet set 0 ≡ 0x1A → Speaks image e 0x10 read → 17 ≤ length room
      → let x = commanded image numbers desk set output in
      x.answer ≡ 0 → let y = commanded x.image x.numbers reader read room in
      (y.answer ≡ 0) × (handed y ≡ 0x90 ∷ 0 ∷ 14 ∷ (bytes 2 (spi_at image e) ++ bytes 12 (number_at 5 12 set)))
