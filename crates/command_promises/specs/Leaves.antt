-- Demand 1, what a command that answers 0 leaves, octet by octet: the octets that it stores, in their order, and no other; the image where it
-- is cut after any j of them, which is valid again; the numbers, of which set number changes one; and the reply at the start of the output,
-- whose rest stays. Afterwards the numbers agree with the marks. It supposes an image and a command of octets, and 32 numbers.
-- Assumes nothing.
use Rattle.std.specs.Prelude.{ℕ, zero, suc, ◌+◌, ◌-◌, ◌*◌, ◌/◌, ◌≤◌, min, ◌≡◌, cond, List, [], ◌∷◌, ◌++◌, length, set, take, drop}
use Rattle.octets.specs.Lists.{octet, Octets}
use Rattle.octets.specs.Numbers.{number_at, bytes}
use Rattle.marks.specs.Stores.{stored}
use Rattle.marks.specs.declared.plans.Store.{Store}
use Rattle.commands.specs.Commanding.{commanded, commanded_cut}
use Rattle.promises.specs.Images.{shape_in, spi_at, place, state_at, key_count_in, key_at, id_of_key, state_of_key, HasId, last_at, ImageRules, Agreeing}
use Rattle.promises.specs.Leaves.{MarkAlone}
use Rattle.command_promises.specs.Rows.{Names, key_named, is_between, keys_between, first_named, last_named}

-- whatever the command
pub record Lawfully (image numbers : List ℕ) (desk : ℕ) (command output : List ℕ) : Type 0 where
  pub valid : ImageRules image → ImageRules (commanded image numbers desk command output).image
  pub cut_valid : (j : ℕ) → ImageRules image → ImageRules (commanded_cut image numbers desk command output j)
  pub agree : Agreeing (commanded image numbers desk command output).image (commanded image numbers desk command output).numbers
  pub few : (commanded image numbers desk command output).stores ≤ 16

-- the stores, the numbers and the reply
pub record Leaves (image numbers : List ℕ) (desk : ℕ) (command output : List ℕ) (stores : List Store) (last reply : List ℕ) : Type 0 where
  pub whole : (commanded image numbers desk command output).image ≡ stored image stores
  pub cut : (j : ℕ) → commanded_cut image numbers desk command output j ≡ stored image (take j stores)
  pub count : (commanded image numbers desk command output).stores ≡ length stores
  pub lasts : (commanded image numbers desk command output).numbers ≡ last
  pub size : (commanded image numbers desk command output).length ≡ length reply
  pub outputs : (commanded image numbers desk command output).output ≡ reply ++ drop (length reply) output

abbrev pub writes : ℕ → ℕ → Store
writes at value = record { at = at; value = value }

-- set number: the mark rises one at a time to that of the new number, and nothing else of the image changes
pub record SetsNumber (image numbers : List ℕ) (desk : ℕ) (command output : List ℕ) (e n : ℕ) : Type 0 where
  pub cut : (j : ℕ)
      → MarkAlone image e (last_at numbers e / 64 + min j (n / 64 - last_at numbers e / 64)) (commanded_cut image numbers desk command output j)
  pub whole : MarkAlone image e (n / 64) (commanded image numbers desk command output).image
  pub count : (commanded image numbers desk command output).stores ≡ n / 64 - last_at numbers e / 64
  pub lasts : (commanded image numbers desk command output).numbers ≡ set numbers e n
  pub size : (commanded image numbers desk command output).length ≡ 0
  pub outputs : (commanded image numbers desk command output).output ≡ output

-- what a rekey stores of the key ID, where the image has a key part; the state comes last
abbrev pub renames : List ℕ → List ℕ → ℕ → List Store
renames image command e =
    cond (shape_in image).key_part (writes (place image e 16) (octet command 5) ∷ writes (place image e 17) (octet command 6) ∷ []) []

-- the command of each tag, under entry e
pub record LeavesAt (image numbers : List ℕ) (desk : ℕ) (command output : List ℕ) (e : ℕ) : Type 0 where
  pub start : octet command 0 ≡ 0x1B → Leaves image numbers desk command output (writes (place image e 3) 2 ∷ []) numbers []
  pub stop : octet command 0 ≡ 0x1E → Leaves image numbers desk command output (writes (place image e 3) 1 ∷ []) numbers []
  pub rekey : octet command 0 ≡ 0x16 → Leaves image numbers desk command output (renames image command e ++ (writes (place image e 3) 1 ∷ [])) numbers []
  pub expire : octet command 0 ≡ 0x19 → Leaves image numbers desk command output (writes (place image e 3) 0 ∷ []) numbers []
  pub set_window : octet command 0 ≡ 0x15
      → Leaves image numbers desk command output
      (writes (place image e 8) (octet command 5) ∷ writes (place image e 9) (octet command 6) ∷ []) numbers []
  pub status : octet command 0 ≡ 0x1F
      → Leaves image numbers desk command output [] numbers (0x9F ∷ 0 ∷ 3 ∷ (bytes 2 (spi_at image e) ++ (state_at image e ∷ [])))
  pub read_number : octet command 0 ≡ 0x10
      → Leaves image numbers desk command output [] numbers (0x90 ∷ 0 ∷ 14 ∷ (bytes 2 (spi_at image e) ++ bytes 12 (last_at numbers e)))
  pub set_number : octet command 0 ≡ 0x1A → SetsNumber image numbers desk command output e (number_at 5 12 command)

-- an inventory of the keys of an image: how many have an ID from the first to the last, then ID and state of each, rising
unfoldable pub told_keys : List ℕ → ℕ → ℕ → ℕ → List ℕ
told_keys image first last zero = []
told_keys image first last (suc n) =
    told_keys image first last n
    ++ cond (is_between image first last n) (bytes 2 (id_of_key image n) ++ (state_of_key image n ∷ [])) []

abbrev pub inventory_reply : List ℕ → ℕ → ℕ → List ℕ
inventory_reply image first last =
    let total = keys_between image first last (key_count_in image) in
    (0x87 ∷ (bytes 2 (2 + 3 * total) ++ bytes 2 total)) ++ told_keys image first last (key_count_in image)

pub record CommandLeaving : Type 0 where
  pub always : (image numbers : List ℕ) (desk : ℕ) (command output : List ℕ) → Octets image → Octets command → length numbers ≡ 32
      → (commanded image numbers desk command output).answer ≡ 0 → Lawfully image numbers desk command output
  pub named : (image numbers : List ℕ) (desk : ℕ) (command output : List ℕ) (e : ℕ) → Octets image → Octets command → length numbers ≡ 32
      → Names image desk command e → (commanded image numbers desk command output).answer ≡ 0 → LeavesAt image numbers desk command output e
  -- activation and deactivation, of the key that has the ID
  pub activation : (image numbers : List ℕ) (desk : ℕ) (command output : List ℕ) (k : ℕ) → HasId image (key_named command) k → octet command 0 ≡ 0x02
      → (commanded image numbers desk command output).answer ≡ 0
      → Leaves image numbers desk command output (writes (key_at image k + 2) 1 ∷ []) numbers []
  pub deactivation : (image numbers : List ℕ) (desk : ℕ) (command output : List ℕ) (k : ℕ) → HasId image (key_named command) k → octet command 0 ≡ 0x03
      → (commanded image numbers desk command output).answer ≡ 0
      → Leaves image numbers desk command output (writes (key_at image k + 2) 2 ∷ []) numbers []
  pub ping : (image numbers : List ℕ) (desk : ℕ) (command output : List ℕ) → octet command 0 ≡ 0x31
      → (commanded image numbers desk command output).answer ≡ 0 → Leaves image numbers desk command output [] numbers (0xB1 ∷ 0 ∷ 0 ∷ [])
  pub inventory : (image numbers : List ℕ) (desk : ℕ) (command output : List ℕ) → octet command 0 ≡ 0x07
      → (commanded image numbers desk command output).answer ≡ 0
      → Leaves image numbers desk command output [] numbers (inventory_reply image (first_named command) (last_named command))
