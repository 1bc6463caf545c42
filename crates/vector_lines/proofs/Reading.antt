-- What is read of a field over zeros is what the field spells, as much as there is room for.
-- Assumes nothing.
use Prim.Native.Nat.{ℕ, zero, suc, min, ◌-◌, ◌<◌}
use mathlib.Core.Path.{◌≡◌, refl}
use mathlib.Core.Bool.{Bool, true, false, ◌&&◌}
use mathlib.Core.List.{List}
use native.Mathlib.Decide.{dec_lt}
use native.Mathlib.Omega.{arith}
use lib.ListN.{length, take, drop, replicate, length-replicate, length-take}
use lib.Seq.{take_all}
use Rattle.lines.specs.Fields.{field_of}
use Rattle.lines.specs.Hexadecimal.{octets_of, Read}
use Rattle.vector_lines.specs.Spelled.{text_in, octets_in}

take_min : (room : ℕ) (s : List ℕ) → take (min room (length s)) s ≡ take room s
take_min room s = by-room (dec_lt (length s) room)
  where
    by-room : Dec (length s < room) → take (min room (length s)) s ≡ take room s
    by-room (no h) = let e : min room (length s) ≡ room = omega arith in rw e
    by-room (yes h) = rw (take_all (min room (length s)) s (omega arith), take_all room s (omega arith))

drop-zeros : (m room : ℕ) → drop {A = ℕ} m (replicate room 0) ≡ replicate (room - m) 0
drop-zeros zero room = let e : room - 0 ≡ room = omega arith in rw e
drop-zeros (suc m) zero = let e : 0 - suc m ≡ 0 = omega arith in rw e
drop-zeros (suc m) (suc room) = let e : suc room - suc m ≡ room - m = omega arith in rw e (drop-zeros m room)

module _ (room k : ℕ) (line : List ℕ) {text after : List ℕ} {n : ℕ} (field : text ≡ field_of k line) (read : Read text (replicate room 0) after n) where
  many : n ≡ min room (length (octets_of (field_of k line)))
  many = rw (← field, read.many, length-replicate)

  pub many_read : n ≡ length (text_in room k line)
  many_read = rw (length-take room (octets_of (field_of k line))) many

  first_read : take n (octets_of (field_of k line)) ≡ text_in room k line
  first_read = rw many (take_min room (octets_of (field_of k line)))

  pub filled : after ≡ octets_in room k line
  unfolding octets_in
  filled = rw (read.front, field, first_read, drop-zeros n room, many_read)

pub both : (a b : Bool) → (a && b) ≡ true → (a ≡ true) × (b ≡ true)
both true b e = (refl, e)
both false b e = (e, cc)
