-- Document 02, request 11: what dump and erase do. A dump that is done replies the events that are kept, in their order, and leaves the notes as
-- they were, octet for octet; an erase that is done replies the room that there is, and afterwards no event is kept and none was dropped. The
-- reply stands at the start of the output, whose rest stays, and neither stores anything. From a desk other than the key office's they answer
-- 19, and a dump or an erase that is refused leaves the notes as they were: it is no event. An alarm reset that is done has no reply. It
-- supposes nothing of the notes and the list of events; of the image, where an answer is told, that it is valid, of octets, and agrees.
-- Assumes nothing.
use Rattle.std.specs.Prelude.{ℕ, zero, suc, ◌+◌, ◌*◌, ◌≤◌, ◌≡◌, ◌≢◌, List, [], ◌∷◌, ◌++◌, length, drop}
use Rattle.octets.specs.Lists.{octet, Octets}
use Rattle.octets.specs.Numbers.{bytes}
use Rattle.link.specs.Calls.{Left}
use Rattle.notes.specs.Noting.{LentNotes}
use Rattle.noting.specs.Noted.{command_noted}
use Rattle.promises.specs.Images.{ImageRules, Agreeing}
use Rattle.noted_promises.specs.Answers.{room_in, kept_in}
use Rattle.noted_promises.specs.Refusals.{ForLog}
use Rattle.noted_promises.specs.Reports.{three_reports}

-- ---- the first i events of a list that has desk, tag and answer of each: of each its tag, a length of 2, its desk and its answer

unfoldable pub lines_of : ℕ → List ℕ → List ℕ
lines_of zero events = []
lines_of (suc i) events =
    lines_of i events ++ (octet events (3 * i + 1) ∷ 0 ∷ 2 ∷ octet events (3 * i) ∷ octet events (3 * i + 2) ∷ [])

abbrev pub dump_of : LentNotes → List ℕ
dump_of n = 0xB3 ∷ (bytes 2 (5 * kept_in n) ++ lines_of (kept_in n) n.events)

-- no event, and the octets of events that there is room for
abbrev pub erase_of : LentNotes → List ℕ
erase_of n = 0xB4 ∷ 0 ∷ 4 ∷ 0 ∷ 0 ∷ bytes 2 (3 * room_in n)

-- ---- what is left

pub record Replies (image numbers output reply : List ℕ) (x : Left) : Type 0 where
  pub size : x.length ≡ length reply
  pub stores : x.stores ≡ 0
  pub images : x.image ≡ image
  pub lasts : x.numbers ≡ numbers
  pub outputs : x.output ≡ reply ++ drop (length reply) output

pub record Erased (before after : LentNotes) : Type 0 where
  pub kept : after.notes.log.kept ≡ 0
  pub dropped : after.notes.log.dropped ≡ 0
  pub events : after.events ≡ before.events
  pub reports : three_reports after ≡ three_reports before

-- ---- the promise

pub record Dumped : Type 0 where
  pub dump : (n : LentNotes) (image numbers : List ℕ) (desk : ℕ) (command output : List ℕ)
      → let y = command_noted n image numbers desk command output in
      octet command 0 ≡ 0x33 → y.left.answer ≡ 0 → Replies image numbers output (dump_of n) y.left × (y.notes ≡ n)
  pub erase : (n : LentNotes) (image numbers : List ℕ) (desk : ℕ) (command output : List ℕ)
      → let y = command_noted n image numbers desk command output in
      octet command 0 ≡ 0x34 → y.left.answer ≡ 0 → Replies image numbers output (erase_of n) y.left × Erased n y.notes
  -- with room for 256 events
  pub room : (n : LentNotes) → 768 ≤ length n.events → erase_of n ≡ 0xB4 ∷ 0 ∷ 4 ∷ 0 ∷ 0 ∷ 3 ∷ 0 ∷ []
  pub reset : (n : LentNotes) (image numbers : List ℕ) (desk : ℕ) (command output : List ℕ)
      → let y = command_noted n image numbers desk command output in
      octet command 0 ≡ 0x37 → y.left.answer ≡ 0 → Replies image numbers output [] y.left
  pub refused : (n : LentNotes) (image numbers : List ℕ) (desk : ℕ) (command output : List ℕ)
      → let y = command_noted n image numbers desk command output in
      ForLog command → (y.left.answer ≡ 0 → ⊥) → y.notes ≡ n
  pub desks : (n : LentNotes) (image numbers : List ℕ) (desk : ℕ) (command output : List ℕ) → Octets image → ImageRules image → Agreeing image numbers
      → ForLog command → desk ≢ 0 → (command_noted n image numbers desk command output).left.answer ≡ 19
