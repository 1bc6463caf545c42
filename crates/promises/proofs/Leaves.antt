-- What a done call leaves: a sending and a check carry out their replies at the entry with the frame's SPI, and a load is decided by the
-- image.
-- Assumes nothing.
use Prim.Native.Nat.{ℕ, ◌+◌, ◌*◌, ◌<◌}
use mathlib.Core.Path.{◌≡◌, refl, ap, ◌∙◌, subst}
use mathlib.Core.Bool.{Bool, true, false, cond}
use mathlib.Core.List.{List, []}
use native.Mathlib.Omega.{arith}
use lib.ListN.{length}
use Rattle.octets.specs.Lists.{Octets}
use Rattle.image.specs.Image.{valid_image}
use Rattle.numbers.specs.Numbers.{loaded_numbers}
use Rattle.numbers.proofs.LoadedNumbers.{length-loaded, loaded-entry, loaded-none, load-agrees}
use Rattle.image.proofs.ValidImages.{valid}
use Rattle.link.specs.Calls.{refused, done, loaded, secured, checked}
use Rattle.judging.specs.Replies.{Reply}
use Rattle.judging.specs.Said.{Said}
use Rattle.promises.specs.Frames.{spi_on}
use Rattle.promises.specs.Images.{count_in, spi_at}
use Rattle.promises.specs.Leaves.{Leaves, Loaded, Sending, Checking, Leaving}
use Rattle.promises.proofs.Released as released
use Rattle.promises.proofs.Sent as sent
use Rattle.promises.proofs.Stored.{mark-alone, leaves}
use Rattle.promises.proofs.Used.{Used}
use Rattle.promises.proofs.Valids.{mark_of_code, agreement}

-- ---- a load

module _ (image numbers : List ℕ) (octets : Octets image) where
  load-leaves : (t : Bool) → valid_image image ≡ t
      → let x = cond t (record { answer = 0; length = 0; stores = 0; image = image; numbers = loaded_numbers image; output = [] })
      (refused 1 image numbers []) in
      x.answer ≡ 0 → Loaded image x
  load-leaves true passed z =
      let most = (valid image passed).laid.count in
      record {
        images = refl;
        stores = refl;
        size = refl;
        agree = agreement image (loaded_numbers image) octets (load-agrees image most);
        thirty_two = length-loaded image;
        entries = λ i m below code.
            loaded-entry image most i below ∙ ap (λ (x : ℕ). 64 * x + 63) (mark_of_code image octets i m code);
        others = loaded-none image;
      }
  load-leaves false passed z = absurd (omega arith)

-- ---- a sending

module _ (image numbers : List ℕ) (said : Said) (spi : ℕ) (frame output : List ℕ) (e : ℕ) (octets : Octets image) (thirty_two : length numbers ≡ 32)
    (below : e < count_in image) (spis : spi_at image e ≡ spi) (done-so : (secured image numbers said spi frame output).answer ≡ 0) where
  abbrev s : Reply
  s = sent.reply image numbers said spi frame output e below spis done-so

  whole-sending : secured image numbers said spi frame output ≡ done s image numbers output
  whole-sending = sent.whole image numbers said spi frame output e below spis done-so

  used_sending : Used image numbers 1 said spi frame e (length output) s
  used_sending = sent.used image numbers said spi frame output e below spis done-so

  send-leaves : Sending image numbers said spi frame output e (secured image numbers said spi frame output)
  send-leaves =
      record {
        leaves =
            subst (λ (n : ℕ). Leaves image numbers output e n (secured image numbers said spi frame output))
            (sent.number image numbers said spi frame output e below spis done-so)
            (rw whole-sending
            (leaves image numbers octets 1 said spi frame e (length output) s used_sending thirty_two output used_sending.roomy));
        out = sent.made image numbers said spi frame output e below spis done-so;
        cut = λ j.
            rw (whole-sending, sent.cut-image image numbers said spi frame output e below spis done-so j)
            (mark-alone image numbers octets 1 said spi frame e (length output) s used_sending j);
      }

-- ---- a check

module _ (image numbers : List ℕ) (said : Said) (frame output : List ℕ) (e : ℕ) (octets : Octets image) (thirty_two : length numbers ≡ 32)
    (below : e < count_in image) (spis : spi_at image e ≡ spi_on said frame)
    (done-so : (checked image numbers said frame output).answer ≡ 0) where
  abbrev c : Reply
  c = released.reply image numbers said frame output e below spis done-so

  whole-check : checked image numbers said frame output ≡ done c image numbers output
  whole-check = released.whole image numbers said frame output e below spis done-so

  used_check : Used image numbers 2 said (spi_on said frame) frame e (length output) c
  used_check = released.used image numbers said frame output e below spis done-so

  check-leaves : Checking image numbers said frame output e (checked image numbers said frame output)
  check-leaves =
      record {
        leaves =
            subst (λ (n : ℕ). Leaves image numbers output e n (checked image numbers said frame output))
            (released.number image numbers said frame output e below spis done-so)
            (rw whole-check
            (leaves image numbers octets 2 said (spi_on said frame) frame e (length output) c used_check thirty_two output
            used_check.roomy));
        out = released.out image numbers said frame output e below spis done-so;
        cut = λ j.
            rw (whole-check, released.cut-image image numbers said frame output e below spis done-so j)
            (mark-alone image numbers octets 2 said (spi_on said frame) frame e (length output) c used_check j);
      }

-- ---- all of them

pub leaving : Leaving
unfolding loaded
leaving =
    record {
      loading = λ image numbers octets. load-leaves image numbers octets (valid_image image) refl;
      sending = send-leaves;
      checking = check-leaves;
    }
