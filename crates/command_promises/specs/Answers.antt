-- Demand 1 for commands, when the answer is 0 and when it is another. A command reports the answer of the first rule in the paper's order that
-- is broken, and 0 if none is. The rules stand here as plain propositions on the command's own octets, so a module that refuses without a
-- reason, accepts in spite of one, or tests in another order is not the one that is promised. It supposes only that the image's numbers are
-- octets.
-- Assumes nothing.
use Rattle.std.specs.Prelude.{ℕ, ◌+◌, ◌≤◌, true, ◌⊎◌, ◌≡◌, List, length}
use Rattle.octets.specs.Lists.{octet, Octets}
use Rattle.octets.specs.Numbers.{number_at}
use Rattle.judging.specs.declared.answers.Refusal.TheVariants as answer
use Rattle.commands.specs.Commanding.{commanded}
use Rattle.promises.specs.Answers.{Rules, rule, no_more, report_of, Exactly}
use Rattle.promises.specs.Images.{state_at, ImageRules, Agreeing}
use Rattle.command_promises.specs.Rows.{Row, Names, row_of}

abbrev pub row_in : List ℕ → Row
row_in command = row_of (octet command 0)

-- 13: the length field counts the octets behind it, and they are as many as the tag asks
pub record FormRules (command : List ℕ) : Type 0 where
  pub field : length command ≡ 3 + number_at 1 2 command
  pub size : (row_in command).Size (length command)

-- 19: one of the three desks; and a key command, which its first octet tells whatever its length, from the key office's
abbrev pub KeyCommand : List ℕ → Type 0
KeyCommand command = (octet command 0 ≡ 0x02) ⊎ ((octet command 0 ≡ 0x03) ⊎ (octet command 0 ≡ 0x07))

pub record DeskRules (desk : ℕ) (command : List ℕ) : Type 0 where
  pub known : desk ≤ 2
  pub office : KeyCommand command → desk ≡ 0

-- entry e is the one that the command names; a command that names none says so of any
abbrev pub About : List ℕ → ℕ → List ℕ → ℕ → Type 0
About image desk command e = (row_in command).names ≡ true → Names image desk command e

-- in the order 1, 2, 19, 13, 14, 15, 16, 17, 18, 6; `under` the entry that the command names, of which a valid image has at most one
abbrev pub command_rules : List ℕ → List ℕ → ℕ → List ℕ → List ℕ → Rules
command_rules image numbers desk command output =
    let under : (ℕ → Type 0) → Type 0 = λ kept. (e : ℕ) → About image desk command e → kept e in
    rule answer.BadImage (ImageRules image)
    (rule answer.BadMarks (Agreeing image numbers)
    (rule answer.WrongDesk (DeskRules desk command)
    (rule answer.BadCommand (FormRules command)
    (rule answer.UnknownSpi ((e : ℕ) × About image desk command e)
    (rule answer.WrongState (under (λ e. (row_in command).State (state_at image e)))
    (rule answer.BadValue (under ((row_in command).Value image numbers command))
    (rule answer.UnknownKey (under ((row_in command).Known image command))
    (rule answer.WrongKeyState (under ((row_in command).Ready image command))
    (rule answer.NoRoom ((row_in command).reply image command ≤ length output)
    no_more)))))))))

pub record CommandAnswers : Type 0 where
  pub commanding : (image numbers : List ℕ) (desk : ℕ) (command output : List ℕ) → Octets image
      → Exactly (command_rules image numbers desk command output) (report_of (commanded image numbers desk command output))
