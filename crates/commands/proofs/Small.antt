-- What a command reports is small: its reply has at most 197 octets, of an inventory with all 64 keys, and its stores are at most 16.
-- Assumes nothing.
use Prim.Native.Nat.{ℕ, ◌≤◌}
use mathlib.Core.Path.{◌≡◌}
use mathlib.Core.Bool.{true}
use mathlib.Core.List.{List}
use native.Mathlib.Decide.{ℕ_discrete}
use native.Mathlib.Omega.{arith}
use lib.ListN.{length}
use Rattle.octets.specs.Lists.{Octets}
use Rattle.octets.specs.Numbers.{bytes}
use Rattle.image.specs.Image.{part_at, key_count, valid_image}
use Rattle.image.proofs.ValidImages.{keys-few}
use Rattle.numbers.specs.Numbers.{number_of}
use Rattle.judging.specs.Replies.{Reply}
use Rattle.link.specs.Calls.{left}
use Rattle.link.proofs.Leaving.{left-done, left-refused}
use Rattle.link.proofs.Small.{Small, small-refused}
use Rattle.command_form.specs.Form.{value_of, first_named, last_named}
use Rattle.inventory.proofs.Totals.{reply-most}
use Rattle.procedures.specs.Procedures.{procedure_is}
use Rattle.procedures.specs.declared.procedure.Procedure as code
use Rattle.procedures.specs.declared.procedure.Procedure.TheVariants as procedure
use Rattle.commands.specs.Commanding.{command_reply, commanded}
use Rattle.commands.proofs.Doing.{does}
use Rattle.commands.proofs.Done.{Done, done, Where, at, nowhere, turning, place}

pub reply_short : (p : code.Procedure) (image : List ℕ) (e last : ℕ) (value : List ℕ) → valid_image image ≡ true
    → length ((procedure_is p).reply image e last value) ≤ 197
unfolding bytes
reply_short procedure.Start image e last value v = omega arith
reply_short procedure.Stop image e last value v = omega arith
reply_short procedure.Rekey image e last value v = omega arith
reply_short procedure.Expire image e last value v = omega arith
reply_short procedure.SetNumber image e last value v = omega arith
reply_short procedure.SetWindow image e last value v = omega arith
reply_short procedure.Status image e last value v = omega arith
reply_short procedure.ReadNumber image e last value v = omega arith
reply_short procedure.Ping image e last value v = omega arith
reply_short procedure.Activation image e last value v = omega arith
reply_short procedure.Deactivation image e last value v = omega arith
reply_short procedure.Inventory image e last value v =
    reply-most image (part_at image) (first_named value) (last_named value) (key_count image) (keys-few image v)

few : (image last : List ℕ) (desk : ℕ) (command : List ℕ) (q : Reply) → Where image last desk command q → length q.stores ≤ 16
few image last desk command q (at p i calls names listed spi ready is) = rw is (does p image last i _ names ready).few
few image last desk command q (nowhere none same) = rw none (omega arith)
few image last desk command q (turning id state one turns same) = rw one (omega arith)

pub commanded-small : (image last : List ℕ) (desk : ℕ) (command output : List ℕ) → Octets image → Octets command → length last ≡ 32
    → Small (commanded image last desk command output)
unfolding commanded
commanded-small image last desk command output octets spoken thirty_two = by_answer (ℕ_discrete q.answer 0)
  where
    q : Reply
    q = command_reply image last desk command (length output)

    by_answer : Dec (q.answer ≡ 0) → Small (left q image last output)
    by_answer (yes z) =
        let d : Done image last desk command (length output) = done image last desk command (length output) z in
        rw (left-done q image last output z)
        (record {
          short =
              rw d.reply
              (omega (arith, reply_short d.procedure image d.entry (number_of last d.entry) (value_of command) d.valid));
          few = few image last desk command q (place image last desk command (length output) octets spoken thirty_two d);
        })
    by_answer (no z) = rw (left-refused q image last output z) (small-refused q.answer image last output)
