-- Other projects' bodies change nothing of a command's answer either. With two valid images whose numbers agree with their marks, the same
-- command of the same desk with an output of the same length gives the same answer number, length, stores and reply, if both images have an
-- entry with the command's SPI, with the same body, read by the same version, and the same number, which the desk sees, or neither has one,
-- or the command names none; and if the keys of both have the same IDs and states. A start names channels, and the same octets of a TM body
-- are one channel in version 1 and a set in version 2. A deactivation alone looks at all bodies: of it this is said where both images have
-- operational bodies for the key, or neither has.
-- Assumes nothing.
use Rattle.std.specs.Prelude.{ℕ, ◌<◌, ◌≡◌, false, List, length}
use Rattle.octets.specs.Lists.{octet}
use Rattle.commands.specs.Commanding.{commanded}
use Rattle.promises.specs.Images.{version_in, whole_body_at, last_at, key_count_in, id_of_key, state_of_key}
use Rattle.promises.specs.Isolation.{Standing, SameAnswer}
use Rattle.command_promises.specs.Answers.{row_in}
use Rattle.command_promises.specs.Rows.{Names, Serving, key_named}

pub data SameNamed (image numbers other otherNumbers : List ℕ) (desk : ℕ) (command : List ℕ) : Type 0 where
  both : (i j : ℕ) → Names image desk command i → Names other desk command j → version_in image ≡ version_in other
      → whole_body_at image i ≡ whole_body_at other j → last_at numbers i ≡ last_at otherNumbers j → SameNamed image numbers other otherNumbers desk command
  neither : ((i : ℕ) → Names image desk command i → ⊥) → ((j : ℕ) → Names other desk command j → ⊥)
      → SameNamed image numbers other otherNumbers desk command
  none : (row_in command).names ≡ false → SameNamed image numbers other otherNumbers desk command

-- as many keys, with the same IDs and states; and for a deactivation by the key office, the named one serves in both or in neither
pub record SameKeys (image other : List ℕ) (desk : ℕ) (command : List ℕ) : Type 0 where
  pub count : key_count_in image ≡ key_count_in other
  pub ids : (k : ℕ) → k < key_count_in image → id_of_key image k ≡ id_of_key other k
  pub states : (k : ℕ) → k < key_count_in image → state_of_key image k ≡ state_of_key other k
  pub here : desk ≡ 0 → octet command 0 ≡ 0x03 → (i : ℕ) → Serving image (key_named command) i → (j : ℕ) × Serving other (key_named command) j
  pub there : desk ≡ 0 → octet command 0 ≡ 0x03 → (j : ℕ) → Serving other (key_named command) j → (i : ℕ) × Serving image (key_named command) i

pub record CommandIsolation : Type 0 where
  pub commanding : (image numbers other otherNumbers : List ℕ) (desk : ℕ) (command output otherOutput : List ℕ) → Standing image numbers
      → Standing other otherNumbers → length output ≡ length otherOutput → SameNamed image numbers other otherNumbers desk command
      → SameKeys image other desk command
      → SameAnswer (commanded image numbers desk command output) (commanded other otherNumbers desk command otherOutput)
