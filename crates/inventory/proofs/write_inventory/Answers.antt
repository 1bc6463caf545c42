-- `write_inventory` is right because it puts the two pieces of the reply one behind the other, where both have room.
-- Assumes nothing.
use mathlib.Core.Path.{◌≡◌, ap, subst, sym, ◌∙◌}
use mathlib.Core.List.{List, ◌∷◌, ◌++◌}
use Prim.Native.Nat.{ℕ, ◌+◌, ◌*◌}
use native.Mathlib.Omega.{arith}
use lib.ListN.{length}
use Rattle.octets.specs.Numbers.{bytes}
use Rattle.octets.specs.Output.{fronted}
use Rattle.writing.specs.Text.{end_to_end}
use Rattle.writing.proofs.Puts.{put_then, put_fronted, no_room}
use Rattle.command_form.specs.Form.{reply_tag, reply_to}
use Rattle.inventory.specs.Inventory.{between, passing, told_between, inventory}
use Rattle.inventory.proofs.Totals.{keys_length, reply-length, reply_pieces}
use borrow.Author.Rules.{rules}
use Rattle.inventory.proofs.write_inventory.Goals.{After-opening}
use Rattle.inventory.proofs.write_inventory.Goals as goal

pub returns-then-output-total : goal.returns-then-output-total
returns-then-output-total c = let g = c.args in
    (no_room (reply_to 0x07 (inventory g.image.now g.at g.count g.first g.last)) g.output.now
    (omega (arith, reply-length g.image.now g.at g.first g.last g.count, c.total_between-total.ensures))).1

-- what stands before the keys

opened : (c : After-opening) → let g = c.args in
    let total = passing g.count (between g.image.now g.at g.first g.last) in
    c.opening.result ≡ reply_tag 0x07 ∷ (bytes 2 (2 + 3 * total) ++ bytes 2 total)
opened c = c.opening.ensures ∙ ap (λ (n : ℕ). reply_tag 0x07 ∷ (bytes 2 (2 + 3 * n) ++ bytes 2 n)) c.total_between-total.ensures

pub put_keys-requires : goal.put_keys-requires
put_keys-requires c = let g = c.args in
    let five : length c.opening.result ≡ 5 = search rules in
    omega (
      arith,
      keys_length g.image.now g.at g.first g.last g.count,
      c.total_between-total.ensures,
      c.put_text-behind.ensures.place,
      c.put_text-behind.ensures.size,
    )

pub returns : goal.returns
returns c = let g = c.args in
    let told : List ℕ = end_to_end g.count (told_between g.image.now g.at g.first g.last) in
    subst (λ (t : List ℕ). c.put_keys.new.out ≡ fronted t g.output.now)
    (ap (λ (t : List ℕ). t ++ told) (opened (goal.at.returns c).After-opening) ∙ sym (reply_pieces g.image.now g.at g.first g.last g.count))
    (put_fronted (put_then c.put_text-behind.ensures c.put_keys.ensures))
