-- Two images of different projects share an entry, or have none for a frame. By computing.
-- Assumes nothing.
use Prim.Native.Nat.{ℕ}
use mathlib.Core.Path.{◌≡◌, refl}
use mathlib.Core.Bool.{true}
use mathlib.Core.List.{List, [], ◌∷◌, ◌++◌}
use lib.Dec.{lit<}
use lib.ListN.{replicate}
use Rattle.octets.specs.Numbers.{bytes}
use Rattle.image.specs.Image.{valid_image}
use Rattle.numbers.specs.Numbers.{agrees}
use Rattle.link.specs.Calls.{secured, checked}
use Rattle.promises.specs.Cases.{image_with, one_number, frame_c, secured_c, room, image_b, receiver, bare}
use Rattle.promises.specs.Frames.{spi_on}
use Rattle.promises.specs.KeyedCases.{keyed_body, key_of, shared_image, one_keyed}
use Rattle.promises.specs.Isolation.{Standing, both, neither, SameAnswer}
use Rattle.promises.proofs.Answers.{nobody}
use Rattle.promises.proofs.Computing.{everything}
use Rattle.promises.proofs.Isolation.{isolation}
use Rattle.promises.proofs.Valids.{rules-kept, agreement, serving}
use Rattle.witness_frames.proofs.Computed.{are_octets, octets_of_lem}
use Rattle.witness_frames.proofs.Frames.{other_frame}
use Rattle.witness_frames.proofs.Ends.{out}

-- the entry of the cases behind another project's entry, of SPI 3
abbrev besides : ℕ → ℕ → ℕ → ℕ → List ℕ
besides version channel kind direction =
    version ∷ 0x02 ∷ 0x00 ∷ 0x03 ∷ 0x00 ∷ 0x0A ∷ 0x00 ∷ 0x09 ∷ 0x00 ∷ 0x3E ∷ []
    ++ (0x02 ∷ 0x03 ∷ 0x01 ∷ 0x02 ∷ 0x00 ∷ 0x01 ∷ 0x02 ∷ 0x00 ∷ 0x00 ∷ 0x07 ∷ [])
    ++ replicate 6 0x00
    ++ replicate 32 0x09
    ++ bytes 4 0x00000001
    ++ (0x01 ∷ kind ∷ direction ∷ 0x02 ∷ 0x00 ∷ 0x1B ∷ channel ∷ 0x00 ∷ 0x00 ∷ 0x64 ∷ [])
    ++ replicate 5 0xFF
    ++ (0x00 ∷ [])
    ++ replicate 32 0x07
    ++ bytes 4 0x00000000

-- that of case B, sending or receiving, in version 2
abbrev two_projects : ℕ → List ℕ
two_projects direction = besides 2 5 1 direction

abbrev two_numbers : List ℕ
two_numbers = 100 ∷ 63 ∷ replicate 30 0

standing : (image numbers : List ℕ) → are_octets image ≡ true → valid_image image ≡ true → agrees image numbers ≡ true
    → Standing image numbers
standing image numbers o v a =
    let octets = octets_of_lem image o in
    record { octets = octets; valid = rules-kept image octets v; agree = agreement image numbers octets a }

-- one project's image, of version 1, and two projects', sending and receiving
one-sends : Standing image_b (one_number 63)
unfolding everything
one-sends = standing image_b (one_number 63) refl refl refl

two-send : Standing (two_projects 1) two_numbers
unfolding everything
two-send = standing (two_projects 1) two_numbers refl refl refl

one_receives : Standing (receiver 100 0) (one_number 63)
unfolding everything
one_receives = standing (receiver 100 0) (one_number 63) refl refl refl

two_receive : Standing (two_projects 2) two_numbers
unfolding everything
two_receive = standing (two_projects 2) two_numbers refl refl refl

-- a sending, and the check of the frame that it hands out, under the entry that both images have
pub same-sending : SameAnswer (secured image_b (one_number 63) (bare 1) 9 frame_c room) (secured (two_projects 1) two_numbers (bare 1) 9 frame_c room)
unfolding everything
same-sending =
    isolation.sending image_b (one_number 63) (two_projects 1) two_numbers (bare 1) 9 frame_c room room one-sends two-send refl
    (both 0 1 (serving image_b 1 (bare 1) 9 frame_c 0 (lit< tt) refl) (serving (two_projects 1) 1 (bare 1) 9 frame_c 1 (lit< tt) refl)
    refl refl refl)

pub same_check : let frame = out 1 5 1 5 1 (bare 1) frame_c in
    SameAnswer (checked (receiver 100 0) (one_number 63) (bare 1) frame room) (checked (two_projects 2) two_numbers (bare 1) frame room)
unfolding everything
same_check =
    let frame = out 1 5 1 5 1 (bare 1) frame_c in
    let spi = spi_on (bare 1) frame in
    isolation.checking (receiver 100 0) (one_number 63) (two_projects 2) two_numbers (bare 1) frame room room one_receives two_receive refl
    (both 0 1 (serving (receiver 100 0) 2 (bare 1) spi frame 0 (lit< tt) refl) (serving (two_projects 2) 2 (bare 1) spi frame 1 (lit< tt) refl)
    refl refl refl)

-- in version 2: a sending on channel 1 of the set of channels 1 and 5
set-sends : Standing (image_with 2 0x22 1 3 1 100 0) (one_number 63)
unfolding everything
set-sends = standing (image_with 2 0x22 1 3 1 100 0) (one_number 63) refl refl refl

set-sends_besides : Standing (besides 2 0x22 3 1) two_numbers
unfolding everything
set-sends_besides = standing (besides 2 0x22 3 1) two_numbers refl refl refl

pub same-sending-by-sets : let one = image_with 2 0x22 1 3 1 100 0 in
    SameAnswer (secured one (one_number 63) (bare 3) 9 other_frame room) (secured (besides 2 0x22 3 1) two_numbers (bare 3) 9 other_frame room)
unfolding everything
same-sending-by-sets =
    let one = image_with 2 0x22 1 3 1 100 0 in
    let two = besides 2 0x22 3 1 in
    isolation.sending one (one_number 63) two two_numbers (bare 3) 9 other_frame room room set-sends set-sends_besides refl
    (both 0 1 (serving one 1 (bare 3) 9 other_frame 0 (lit< tt) refl) (serving two 1 (bare 3) 9 other_frame 1 (lit< tt) refl)
    refl refl refl)

-- in version 3: the entry of SPI 9 names key 5, which has another neighbour; and beside it is another project's entry
abbrev besides_keyed : List ℕ
besides_keyed =
    shared_image (keyed_body 2 1 1 2 0x0005 0) (keyed_body 1 1 2 2 0x0009 1) 3 (key_of 0x0004 2 0x01 ++ key_of 0x0005 1 0x07 ++ key_of 0x0009 1 0x02)

key-sends : Standing (one_keyed 2 1 2 1) (one_number 63)
unfolding everything
key-sends = standing (one_keyed 2 1 2 1) (one_number 63) refl refl refl

key-sends_besides : Standing besides_keyed (63 ∷ 100 ∷ replicate 30 0)
unfolding everything
key-sends_besides = standing besides_keyed (63 ∷ 100 ∷ replicate 30 0) refl refl refl

pub same-sending-by-keys :
    SameAnswer (secured (one_keyed 2 1 2 1) (one_number 63) (bare 1) 9 frame_c room) (secured besides_keyed (63 ∷ 100 ∷ replicate 30 0) (bare 1) 9 frame_c room)
unfolding everything
same-sending-by-keys =
    isolation.sending (one_keyed 2 1 2 1) (one_number 63) besides_keyed (63 ∷ 100 ∷ replicate 30 0) (bare 1) 9 frame_c room room key-sends key-sends_besides refl
    (both 0 0 (serving (one_keyed 2 1 2 1) 1 (bare 1) 9 frame_c 0 (lit< tt) refl) (serving besides_keyed 1 (bare 1) 9 frame_c 0 (lit< tt) refl)
    refl refl refl)

-- a sending under SPI 8 and a check at the ends that send: neither image has an entry for them
pub neither-sends : SameAnswer (secured image_b (one_number 63) (bare 1) 8 frame_c room) (secured (two_projects 1) two_numbers (bare 1) 8 frame_c room)
unfolding everything
neither-sends =
    isolation.sending image_b (one_number 63) (two_projects 1) two_numbers (bare 1) 8 frame_c room room one-sends two-send refl
    (neither (λ i s. nobody image_b (one_number 63) one-sends.octets 1 (bare 1) 8 frame_c refl (i, s))
    (λ i s. nobody (two_projects 1) two_numbers two-send.octets 1 (bare 1) 8 frame_c refl (i, s)))

pub neither-checks :
    SameAnswer (checked image_b (one_number 63) (bare 1) (secured_c 64) room) (checked (two_projects 1) two_numbers (bare 1) (secured_c 64) room)
unfolding everything
neither-checks =
    isolation.checking image_b (one_number 63) (two_projects 1) two_numbers (bare 1) (secured_c 64) room room one-sends two-send refl
    (neither (λ i s. nobody image_b (one_number 63) one-sends.octets 2 (bare 1) 9 (secured_c 64) refl (i, s))
    (λ i s. nobody (two_projects 1) two_numbers two-send.octets 2 (bare 1) 9 (secured_c 64) refl (i, s)))
