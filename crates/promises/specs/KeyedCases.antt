-- Document 02, request 9, octet by octet on small images of version 3: the smallest, one with an association, and each rule of the key part
-- broken by itself; what a frame of service 2 begins with, where its mark stands, and an IV that begins otherwise. The ciphers are never
-- computed. It supposes nothing.
-- Assumes nothing.
use Rattle.std.specs.Prelude.{ℕ, ◌≡◌, Bool, true, false, List, [], ◌∷◌, ◌++◌, eqb, set, take, replicate}
use Rattle.octets.specs.Numbers.{bytes}
use Rattle.octets.specs.Same.{same}
use Rattle.link.specs.Calls.{Left, handed, loaded, secured, checked_as}
use Rattle.promises.specs.Cases.{all_true, one_number, frame_c, bare, room}

-- ---- what the cases speak of

-- a body of 22 octets: spacecraft 27, channel 5, window 100
unfoldable pub keyed_body : ℕ → ℕ → ℕ → ℕ → ℕ → ℕ → List ℕ
keyed_body service kind direction state id code =
    service ∷ kind ∷ direction ∷ state ∷ 0x00 ∷ 0x1B ∷ 0x05 ∷ 0x00 ∷ 0x00 ∷ 0x64
    ∷ (replicate 5 0xFF ++ (0x00 ∷ (bytes 2 id ++ bytes 4 code)))

-- a key: ID, state, and 32 octets
unfoldable pub key_of : ℕ → ℕ → ℕ → List ℕ
key_of id state value = bytes 2 id ++ (state ∷ replicate 32 value)

-- SPI 9, with its body at 10 and the key part at 32
unfoldable pub keyed_image : List ℕ → ℕ → List ℕ → List ℕ
keyed_image body count keys =
    0x03 ∷ 0x01 ∷ 0x00 ∷ 0x09 ∷ 0x00 ∷ 0x0A ∷ 0xFF ∷ 0xFF ∷ 0x00 ∷ 0x20 ∷ (body ++ (count ∷ keys))

-- SPIs 9 and 10, with their bodies at 14 and 36 and the key part at 58
unfoldable pub shared_image : List ℕ → List ℕ → ℕ → List ℕ → List ℕ
shared_image first second count keys =
    0x03 ∷ 0x02 ∷ 0x00 ∷ 0x09 ∷ 0x00 ∷ 0x0E ∷ 0x00 ∷ 0x0A ∷ 0x00 ∷ 0x24 ∷ 0xFF ∷ 0xFF ∷ 0x00 ∷ 0x3A ∷ (first ++ (second ++ (count ∷ keys)))

-- one association of TC that names key 5, in that direction and state, with that state of key 5; and key 6, active
abbrev pub one_keyed : ℕ → ℕ → ℕ → ℕ → List ℕ
one_keyed service direction state keyState =
    keyed_image (keyed_body service 1 direction state 0x0005 0) 2 (key_of 0x0005 keyState 0x07 ++ key_of 0x0006 1 0x08)

-- a frame of service 2 with that IV, and some MAC
unfoldable pub secured_with : List ℕ → List ℕ
secured_with iv = 0x00 ∷ 0x1B ∷ 0x14 ∷ 0x23 ∷ 0x00 ∷ 0x00 ∷ 0x09 ∷ (iv ++ (0xAA ∷ replicate 16 0x00))

abbrev pub iv_of : ℕ → ℕ → ℕ → List ℕ
iv_of spi zeros n = bytes 4 spi ++ (bytes 4 zeros ++ bytes 4 n)

abbrev pub loads : List ℕ → ℕ
loads image = (loaded image []).answer

abbrev pub checks : Bool → List ℕ → ℕ
checks right iv = (checked_as right (one_keyed 2 2 2 1) (one_number 63) (bare 1) (secured_with iv) room).answer

abbrev pub sends : Left
sends = secured (one_keyed 2 1 2 1) (one_number 63) (bare 1) 9 frame_c room

-- ---- the cases

unfoldable pub keyed_cases : List Bool
keyed_cases =
    -- the smallest image; its size, its last entry, and a key that is counted and not there
    eqb (loads (0x03 ∷ 0x00 ∷ 0xFF ∷ 0xFF ∷ 0x00 ∷ 0x06 ∷ 0x00 ∷ [])) 0
    ∷ eqb (loads (0x03 ∷ 0x00 ∷ 0xFF ∷ 0xFF ∷ 0x00 ∷ 0x06 ∷ [])) 1
    ∷ eqb (loads (0x03 ∷ 0x00 ∷ 0xFF ∷ 0xFE ∷ 0x00 ∷ 0x06 ∷ 0x00 ∷ [])) 1
    ∷ eqb (loads (0x03 ∷ 0x00 ∷ 0xFF ∷ 0xFF ∷ 0x00 ∷ 0x07 ∷ 0x00 ∷ [])) 1
    ∷ eqb (loads (0x03 ∷ 0x00 ∷ 0xFF ∷ 0xFF ∷ 0x00 ∷ 0x06 ∷ 0x01 ∷ [])) 1
    ∷ eqb (loads (0x05 ∷ 0x00 ∷ 0xFF ∷ 0xFF ∷ 0x00 ∷ 0x06 ∷ 0x00 ∷ [])) 1
    -- an operational body names an active key; one that is not may name any ID
    ∷ same (loaded (one_keyed 2 1 2 1) []).numbers (one_number 63)
    ∷ eqb (loads (one_keyed 2 1 2 0)) 1
    ∷ eqb (loads (one_keyed 2 1 2 2)) 1
    ∷ eqb (loads (keyed_image (keyed_body 2 1 1 2 0x0004 0) 1 (key_of 0x0005 1 0x07))) 1
    ∷ eqb (loads (keyed_image (keyed_body 2 1 1 1 0x0004 0) 1 (key_of 0x0005 1 0x07))) 0
    ∷ eqb (loads (one_keyed 2 1 1 2)) 0
    -- the IDs rise, from 0 on, and a state is at most 2
    ∷ eqb (loads (keyed_image (keyed_body 2 1 1 2 0x0000 0) 2 (key_of 0x0000 1 0x07 ++ key_of 0xFFFF 0 0x08))) 0
    ∷ eqb (loads (keyed_image (keyed_body 2 1 1 2 0x0005 0) 2 (key_of 0x0005 1 0x07 ++ key_of 0x0005 1 0x08))) 1
    ∷ eqb (loads (keyed_image (keyed_body 2 1 1 2 0x0005 0) 2 (key_of 0x0006 1 0x07 ++ key_of 0x0005 1 0x08))) 1
    ∷ eqb (loads (one_keyed 2 1 1 3)) 1
    -- what goes out: header with the new length, SPI, and the IV, which is the SPI, four zeros and 64; the last octet of the mark, at 31, goes to 1
    ∷ same (take 19 (handed sends)) (0x00 ∷ 0x1B ∷ 0x14 ∷ 0x23 ∷ 0x00 ∷ 0x00 ∷ 0x09 ∷ iv_of 9 0 64)
    ∷ same sends.image (set (one_keyed 2 1 2 1) 31 0x01)
    -- a check: the same IV; the SPI of another, an octet that is not 0 before the number, and the number alone in twelve octets: 8, after 7
    ∷ eqb (checks true (iv_of 9 0 64)) 0
    ∷ eqb (checks true (iv_of 10 0 64)) 8
    ∷ eqb (checks true (iv_of 9 1 64)) 8
    ∷ eqb (checks true (bytes 12 64)) 8
    ∷ eqb (checks true (iv_of 9 0 164)) 8
    ∷ eqb (checks false (iv_of 10 0 64)) 7
    ∷ []

abbrev pub KeyedCasesHold : Type 0
KeyedCasesHold = all_true keyed_cases ≡ true
