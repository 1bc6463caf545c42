-- `command_cut_lent` is right because with 32 numbers it is the module's cut, and with another count nothing is stored.
-- Assumes nothing.
use mathlib.Core.Path.{refl, ap, ◌∙◌}
use mathlib.Core.List.{List}
use Prim.Native.Nat.{ℕ}
use lib.ListN.{length, take}
use Rattle.link.specs.Calls.{cut}
use Rattle.commands.specs.Commanding.{made_by, command_reply}
use Rattle.lent_commands.proofs.command_cut_lent.Goals as goal

pub returns-then-numbers-ne32 : goal.returns-then-numbers-ne32
returns-then-numbers-ne32 c = record { counted = λ e. absurd (c.if-numbers-ne32.true e); miscounted = λ n. (refl, refl) }

pub returns : goal.returns
returns c = let g = c.args in
    record {
      counted = λ e. (
        c.command_cut.ensures.value
            ∙ ap (λ (n : List ℕ). length (take g.stores (made_by (command_reply g.image.now n g.desk g.command.now g.room)))) c.numbers_in.ensures,
        c.command_cut.ensures.image_after
            ∙ ap (λ (n : List ℕ). cut (command_reply g.image.now n g.desk g.command.now g.room) g.image.now g.stores) c.numbers_in.ensures,
      );
      miscounted = λ n. absurd (n c.if-numbers-ne32.false);
    }
