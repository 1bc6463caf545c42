-- What every step of a run keeps, load or call, whole or cut: the image but for its marks, its validity, and numbers that agree with it.
-- Assumes nothing.
use Prim.Native.Nat.{ℕ, ◌+◌, ◌*◌, ◌<◌}
use mathlib.Core.Path.{◌≡◌, refl, sym, ap, ◌∙◌}
use mathlib.Core.Bool.{Bool, true, false, cond}
use mathlib.Core.List.{List, []}
use native.Mathlib.Decide.{ℕ_discrete}
use lib.ListN.{length, take, length-set}
use Rattle.octets.specs.Lists.{Octets}
use Rattle.image.specs.Image.{count_of, valid_image, mark_in}
use Rattle.numbers.specs.Numbers.{loaded_numbers, agrees}
use Rattle.numbers.specs.Stores.{after_stores}
use Rattle.marks.specs.declared.plans.Store.{Store}
use Rattle.marks.specs.Stores.{stored}
use Rattle.numbers.proofs.LoadedNumbers.{length-loaded, loaded-entry, load-agrees}
use Rattle.image.proofs.ValidImages.{valid}
use Rattle.link.specs.Calls.{refused, done, left, cut, loaded, securing_entry, securing_reply, secured, secured_cut}
use Rattle.link.specs.Calls.{comparison, checking_reply, checking_entry, checked_as, checked, checked_cut_as, checked_cut}
use Rattle.judging.specs.Replies.{Reply}
use Rattle.judging.specs.Said.{Said}
use Rattle.link.proofs.Leaving.{left-done, left-refused, cut-done, cut-refused}
use Rattle.promises.specs.Frames.{spi_on}
use Rattle.promises.specs.Images.{last_at}
use Rattle.promises.specs.Runs.{Step, load, send, check, send_cut, check_cut, State, kept, after}
use Rattle.promises.proofs.Stored.{raised_by, all_after, agree_again, outside}
use Rattle.promises.proofs.Unmarked.{Same, same_itself}
use Rattle.promises.proofs.Used.{Used, send_used, check_used}

-- ---- a state of a run, and the next

pub record Good (image numbers : List ℕ) : Type 0 where
  pub thirty_two : length numbers ≡ 32
  pub agree : agrees image numbers ≡ true

pub record Inv (x : State) : Type 0 where
  pub octets : Octets x.image
  pub good : valid_image x.image ≡ true → Good x.image x.numbers

pub record Keeps (x y : State) : Type 0 where
  pub inv : Inv y
  pub stays : valid_image y.image ≡ valid_image x.image
  pub same : Same x.image y.image

-- ---- a load

pub loaded-image : (image any : List ℕ) → (loaded image any).image ≡ image
unfolding loaded
loaded-image image any = by_test (valid_image image)
  where
    by_test : (t : Bool)
        → (cond t (record { answer = 0; length = 0; stores = 0; image = image; numbers = loaded_numbers image; output = [] })
        (refused 1 image any [])).image ≡ image
    by_test true = refl
    by_test false = refl

module _ (image any : List ℕ) (passed : valid_image image ≡ true) where
  loaded-numbers : (loaded image any).numbers ≡ loaded_numbers image
  unfolding loaded
  loaded-numbers = rw passed

  loaded_good : Good image (loaded image any).numbers
  loaded_good =
      rw loaded-numbers (record { thirty_two = length-loaded image; agree = load-agrees image (valid image passed).laid.count })

  pub loaded_last : (e : ℕ) → e < count_of image → last_at (loaded image any).numbers e ≡ 64 * mark_in image e + 63
  loaded_last e below = ap (λ (l : List ℕ). last_at l e) loaded-numbers ∙ loaded-entry image (valid image passed).laid.count e below

pub load_inv : (image any : List ℕ) → Octets image → Inv (kept (loaded image any))
load_inv image any octets =
    record {
      octets = rw (loaded-image image any) octets;
      good = λ passed. rw (loaded-image image any) (loaded_good image any (rw (loaded-image image any) at passed));
    }

module _ (x : State) (inv : Inv x) where
  abbrev s : List ℕ
  s = x.image

  abbrev last : List ℕ
  last = x.numbers

  -- of an image t that was made of the state's by stores
  load-keeps : (t any : List ℕ) → Octets t → valid_image t ≡ valid_image s → Same s t → Keeps x (kept (loaded t any))
  load-keeps t any octets stays same =
      record {
        inv = load_inv t any octets;
        stays = ap valid_image (loaded-image t any) ∙ stays;
        same = rw (loaded-image t any) same;
      }

  reload_keeps : (any : List ℕ) → Keeps x (kept (loaded s any))
  reload_keeps any = load-keeps s any inv.octets refl (same_itself s)

  unchanged : Keeps x x
  unchanged = record { inv = inv; stays = refl; same = same_itself s }

  -- ---- a call with that reply at entry d

  module _ (direction : ℕ) (said : Said) (spi : ℕ) (frame : List ℕ) (d room : ℕ) (q : Reply)
      (used : q.answer ≡ 0 → Used s last direction said spi frame d room q) where
    module _ (z : q.answer ≡ 0) where
      abbrev stopped : ℕ → List ℕ
      stopped j = after_stores s d q.number j

      stopped-octets : (j : ℕ) → Octets (stopped j)
      stopped-octets j = (raised_by s last inv.octets direction said spi frame d room q (used z) j).octets

      stopped-same : (j : ℕ) → Same s (stopped j)
      stopped-same j =
          let r = raised_by s last inv.octets direction said spi frame d room q (used z) j in
          record { size = r.long; elsewhere = λ p m. r.outside p (outside s d p (m d (used z).serves.entry)) }

      stopped-valid : (j : ℕ) → valid_image (stopped j) ≡ valid_image s
      stopped-valid j = (raised_by s last inv.octets direction said spi frame d room q (used z) j).valid ∙ sym (used z).valid

      whole : stored s q.stores ≡ stopped (length q.stores)
      whole = all_after s last inv.octets direction said spi frame d room q (used z)

      cut_short : (j : ℕ) → stored s (take j q.stores) ≡ stopped j
      unfolding after_stores
      cut_short j = ap (λ (l : List Store). stored s (take j l)) (used z).plan

      done-keeps : (output : List ℕ) → Keeps x (kept (done q s last output))
      done-keeps output =
          let thirty_two = (inv.good (used z).valid).thirty_two in
          record {
            inv =
                record {
                  octets = rw whole (stopped-octets (length q.stores));
                  good = λ passed.
                      record {
                        thirty_two = length-set last q.entry q.number ∙ thirty_two;
                        agree = agree_again s last inv.octets direction said spi frame d room q (used z) thirty_two;
                      };
                };
            stays = rw whole (stopped-valid (length q.stores));
            same = rw whole (stopped-same (length q.stores));
          }

    call-keeps : (output : List ℕ) → Keeps x (kept (left q s last output))
    call-keeps output = by_answer (ℕ_discrete q.answer 0)
      where
        by_answer : Dec (q.answer ≡ 0) → Keeps x (kept (left q s last output))
        by_answer (yes z) = rw (left-done q s last output z) (done-keeps z output)
        by_answer (no z) = rw (left-refused q s last output z) unchanged

    cut_keeps : (j : ℕ) (any : List ℕ) → Keeps x (kept (loaded (cut q s j) any))
    cut_keeps j any = by_answer (ℕ_discrete q.answer 0)
      where
        by_answer : Dec (q.answer ≡ 0) → Keeps x (kept (loaded (cut q s j) any))
        by_answer (yes z) =
            rw (cut-done q s j z ∙ cut_short z j) (load-keeps (stopped z j) any (stopped-octets z j) (stopped-valid z j) (stopped-same z j))
        by_answer (no z) = rw (cut-refused q s j z) (reload_keeps any)

-- ---- every step

pub keeps : (x : State) (v : Step) → Inv x → Keeps x (after x v)
unfolding after secured secured_cut checked checked_as checked_cut checked_cut_as
keeps x (load any) inv = reload_keeps x inv any
keeps x (send said spi frame output) inv =
    call-keeps x inv 1 said spi frame (securing_entry x.image said spi frame) (length output)
    (securing_reply x.image x.numbers said spi frame (length output)) (send_used x.image x.numbers said spi frame output) output
keeps x (check said frame output) inv =
    let right = comparison x.image x.numbers said frame in
    call-keeps x inv 2 said (spi_on said frame) frame (checking_entry x.image said frame) (length output)
    (checking_reply right x.image x.numbers said frame (length output)) (check_used right x.image x.numbers said frame output) output
keeps x (send_cut said spi frame output j any) inv =
    cut_keeps x inv 1 said spi frame (securing_entry x.image said spi frame) (length output)
    (securing_reply x.image x.numbers said spi frame (length output)) (send_used x.image x.numbers said spi frame output) j any
keeps x (check_cut said frame output j any) inv =
    let right = comparison x.image x.numbers said frame in
    cut_keeps x inv 2 said (spi_on said frame) frame (checking_entry x.image said frame) (length output)
    (checking_reply right x.image x.numbers said frame (length output)) (check_used right x.image x.numbers said frame output) j any
