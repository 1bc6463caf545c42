-- What every step of a run keeps, commands among them, whole or cut: the image but for what commands may change, its validity, and numbers
-- that agree with it.
-- Assumes nothing.
use Prim.Native.Nat.{ℕ}
use mathlib.Core.Path.{◌≡◌, refl, sym, ap, ◌∙◌}
use mathlib.Core.Bool.{true}
use mathlib.Core.List.{List}
use native.Mathlib.Decide.{ℕ_discrete}
use lib.ListN.{length, take, length-set}
use lib.Seq.{take-length, take-nil}
use Rattle.octets.specs.Lists.{Octets}
use Rattle.image.specs.Image.{valid_image}
use Rattle.marks.specs.Stores.{stored}
use Rattle.marks.specs.declared.plans.Store.{Store}
use Rattle.judging.specs.Replies.{Reply}
use Rattle.link.specs.Calls.{done, left, cut, loaded}
use Rattle.link.proofs.Leaving.{left-done, left-refused, cut-done, cut-refused}
use Rattle.command_form.specs.Form.{value_of}
use Rattle.procedures.specs.Procedures.{key_state_in, procedure_is}
use Rattle.commands.specs.Commanding.{command_reply, commanded, commanded_cut}
use Rattle.commands.proofs.Doing.{stores_of, number_for, does}
use Rattle.commands.proofs.Done as deciding
use Rattle.commands.proofs.Done.{Where, at, nowhere, turning, place}
use Rattle.commands.proofs.Managed.{Managed, first_of_one}
use Rattle.commands.proofs.Turning.{turned_valid, turned_octets}
use Rattle.promises.specs.Runs.{State, kept}
use Rattle.promises.specs.Runs as frames
use Rattle.promises.proofs.Keeps as frame
use Rattle.promises.proofs.Keeps.{Inv, loaded-image, load_inv}
use Rattle.command_promises.specs.Runs.{Step, call, command, command_cut, after}
use Rattle.command_promises.proofs.NamedKeys.{turned_agrees}
use Rattle.command_promises.proofs.Unmanaged.{Same, same_itself, same-marks, same_managed, same_turned}

pub record Keeps (x y : State) : Type 0 where
  pub inv : Inv y
  pub stays : valid_image y.image ≡ valid_image x.image
  pub same : Same x.image y.image

module _ (x : State) (inv : Inv x) where
  abbrev s : List ℕ
  s = x.image

  abbrev last : List ℕ
  last = x.numbers

  unchanged : Keeps x x
  unchanged = record { inv = inv; stays = refl; same = same_itself s }

  load-keeps : (t any : List ℕ) → Octets t → valid_image t ≡ valid_image s → Same s t → Keeps x (kept (loaded t any))
  load-keeps t any octets stays same =
      record {
        inv = load_inv t any octets;
        stays = ap valid_image (loaded-image t any) ∙ stays;
        same = rw (loaded-image t any) same;
      }

  -- ---- a command

  module _ (desk : ℕ) (c output : List ℕ) (spoken : Octets c) where
    abbrev q : Reply
    q = command_reply s last desk c (length output)

    pub valid_so : q.answer ≡ 0 → valid_image s ≡ true
    valid_so z = (deciding.done s last desk c (length output) z).valid

    pub where_done : q.answer ≡ 0 → Where s last desk c q
    where_done z =
        let d = deciding.done s last desk c (length output) z in
        place s last desk c (length output) inv.octets spoken (inv.good d.valid).thirty_two d

    done-keeps : q.answer ≡ 0 → Where s last desk c q → Keeps x (kept (done q s last output))
    unfolding stored
    done-keeps z (at p i calls named listed spi ready is) =
        let w = does p s last i (value_of c) named ready in
        let stores : List Store = stores_of (procedure_is p) s last i (value_of c) in
        let m : Managed s i (stored s stores) = rw (take-length stores) at (w.after (length stores)) in
        rw is
        (record {
          inv =
              record {
                octets = m.octets;
                good = λ passed.
                    record {
                      thirty_two = length-set last i (number_for (procedure_is p) last i (value_of c)) ∙ (inv.good (valid_so z)).thirty_two;
                      agree = w.agree;
                    };
              };
          stays = m.valid ∙ sym (valid_so z);
          same = same_managed s i (stored s stores) listed m;
        })
    done-keeps z (nowhere none same) = rw (none, same) unchanged
    done-keeps z (turning id state one turns same) =
        rw (one, same)
        (record {
          inv =
              record {
                octets = turned_octets s id state turns inv.octets;
                good = λ passed.
                    record {
                      thirty_two = (inv.good (valid_so z)).thirty_two;
                      agree = turned_agrees s last id state turns (inv.good (valid_so z)).agree;
                    };
              };
          stays = turned_valid s id state turns ∙ sym (valid_so z);
          same = same_turned s id state turns.known;
        })

    command-keeps : Keeps x (kept (commanded s last desk c output))
    unfolding commanded
    command-keeps = by_answer (ℕ_discrete q.answer 0)
      where
        by_answer : Dec (q.answer ≡ 0) → Keeps x (kept (left q s last output))
        by_answer (yes z) = rw (left-done q s last output z) (done-keeps z (where_done z))
        by_answer (no z) = rw (left-refused q s last output z) unchanged

    cut_at : (j : ℕ) (any : List ℕ) → q.answer ≡ 0 → Where s last desk c q → Keeps x (kept (loaded (stored s (take j q.stores)) any))
    unfolding stored
    cut_at j any z (at p i calls named listed spi ready is) =
        let m = (does p s last i (value_of c) named ready).after j in
        rw is
        (load-keeps (stored s (take j (stores_of (procedure_is p) s last i (value_of c)))) any m.octets
        (m.valid ∙ sym (valid_so z)) (same_managed s i _ listed m))
    cut_at j any z (nowhere none same) = rw (none, take-nil {A = Store} j) (load-keeps s any inv.octets refl (same_itself s))
    cut_at j any z (turning id state one turns same) =
        rw one
        (first_of_one (λ (t : List ℕ). Keeps x (kept (loaded t any))) s (key_state_in s id state)
        (load-keeps s any inv.octets refl (same_itself s))
        (load-keeps _ any (turned_octets s id state turns inv.octets) (turned_valid s id state turns ∙ sym (valid_so z))
        (same_turned s id state turns.known)) j)

    cut_keeps : (j : ℕ) (any : List ℕ) → Keeps x (kept (loaded (commanded_cut s last desk c output j) any))
    unfolding commanded_cut
    cut_keeps j any = by_answer (ℕ_discrete q.answer 0)
      where
        by_answer : Dec (q.answer ≡ 0) → Keeps x (kept (loaded (cut q s j) any))
        by_answer (yes z) = rw (cut-done q s j z) (cut_at j any z (where_done z))
        by_answer (no z) = rw (cut-refused q s j z) (load-keeps s any inv.octets refl (same_itself s))

-- ---- every step

-- the command of a step is octets
unfoldable pub Spoken : Step → Type 0
Spoken (call v) = Unit {0}
Spoken (command desk c output) = Octets c
Spoken (command_cut desk c output j any) = Octets c

pub keeps : (x : State) (v : Step) → Spoken v → Inv x → Keeps x (after x v)
unfolding after Spoken
keeps x (call v) spoken inv =
    let k = frame.keeps x v inv in
    record { inv = k.inv; stays = k.stays; same = same-marks x.image (frames.after x v).image k.same }
keeps x (command desk c output) spoken inv = command-keeps x inv desk c output spoken
keeps x (command_cut desk c output j any) spoken inv = cut_keeps x inv desk c output spoken j any
