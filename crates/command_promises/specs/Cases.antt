-- Every command and every answer of document 02, requests 5 and 9, computed under the image of case B: SPI 9, kind 1, spacecraft 27, channel 5,
-- window 100, body at 6, so state at 9 and window at 14 and 15; a start under each kind and under a set of channels; and, in version 3, under
-- an association that names key 5 of two. It supposes nothing.
-- Assumes nothing.
use Rattle.std.specs.Prelude.{ℕ, ◌+◌, ◌*◌, ◌≡◌, Bool, true, List, [], ◌∷◌, ◌++◌, eqb, length, set, replicate}
use Rattle.octets.specs.Numbers.{bytes}
use Rattle.octets.specs.Same.{same}
use Rattle.link.specs.Calls.{Left, handed, loaded}
use Rattle.commands.specs.Commanding.{commanded, commanded_cut}
use Rattle.promises.specs.Cases.{all_true, image_with, image_b, sender, one_number}
use Rattle.promises.specs.KeyedCases.{keyed_body, key_of, keyed_image, one_keyed}

-- the image with that state
abbrev pub in_state : ℕ → List ℕ
in_state s = set image_b 9 s

abbrev pub spoken : ℕ → List ℕ → List ℕ
spoken tag value = tag ∷ (bytes 2 (length value) ++ value)

abbrev pub nine : List ℕ
nine = 0x00 ∷ 0x09 ∷ []

-- spacecraft 27 · 64 + channel 5
abbrev pub channel : List ℕ
channel = 0x00 ∷ 0x00 ∷ 0x06 ∷ 0xC5 ∷ []

abbrev pub start : List ℕ
start = spoken 0x1B (nine ++ channel)

abbrev pub stop : List ℕ
stop = spoken 0x1E nine

abbrev pub rekey : List ℕ
rekey = spoken 0x16 (nine ++ (0x00 ∷ 0x00 ∷ bytes 12 0))

abbrev pub expire : List ℕ
expire = spoken 0x19 nine

abbrev pub set_number : ℕ → List ℕ
set_number n = spoken 0x1A (nine ++ bytes 12 n)

abbrev pub set_window : ℕ → List ℕ
set_window w = spoken 0x15 (nine ++ bytes 2 w)

abbrev pub status : List ℕ
status = spoken 0x1F nine

abbrev pub read_number : List ℕ
read_number = spoken 0x10 nine

abbrev pub ping : List ℕ
ping = 0x31 ∷ 0x00 ∷ 0x00 ∷ []

abbrev pub space : List ℕ
space = replicate 17 0

-- the image of a version with that channel octet and kind, keyed; and a start that names that channel
abbrev pub keyed_as : ℕ → ℕ → ℕ → List ℕ
keyed_as version channel kind = set (image_with version channel 1 kind 1 100 0) 9 1

abbrev pub naming : ℕ → List ℕ
naming n = spoken 0x1B (nine ++ bytes 4 n)

abbrev pub given : List ℕ → List ℕ → Left
given image command = commanded image (one_number 63) 0 command space

-- a command for a key; and a rekey of SPI 9 to one, with that number
abbrev pub for_key : ℕ → ℕ → List ℕ
for_key tag id = spoken tag (bytes 2 id)

abbrev pub keys_from : ℕ → ℕ → List ℕ
keys_from first last = spoken 0x07 (bytes 2 first ++ bytes 2 last)

abbrev pub rekey_to : ℕ → ℕ → List ℕ
rekey_to id n = spoken 0x16 (nine ++ (bytes 2 id ++ bytes 12 n))

-- the association keyed or unkeyed, with that ID in its body, before keys 5 and 6, both active
abbrev pub naming_key : ℕ → ℕ → List ℕ
naming_key state id = keyed_image (keyed_body 2 1 1 state id 0) 2 (key_of 0x0005 1 0x07 ++ key_of 0x0006 1 0x08)

unfoldable pub command_cases : List Bool
command_cases =
    -- the four that move the state
    same (given (in_state 1) start).image image_b
    ∷ same (given image_b stop).image (in_state 1)
    ∷ same (given (in_state 1) expire).image (in_state 0)
    ∷ same (given (in_state 0) rekey).image (in_state 1)
    ∷ eqb (given image_b stop).stores 1
    ∷ eqb (given image_b stop).length 0
    ∷ same (given image_b stop).numbers (one_number 63)
    ∷ same (commanded_cut image_b (one_number 63) 0 stop space 0) image_b
    ∷ same (commanded_cut image_b (one_number 63) 0 stop space 1) (in_state 1)
    -- the number: 163 stores 01, then 03; a cut after the first loads as 127; 1,087 takes 16 stores
    ∷ same (given image_b (set_number 163)).image (sender 100 0x03)
    ∷ same (given image_b (set_number 163)).numbers (one_number 163)
    ∷ eqb (given image_b (set_number 163)).stores 2
    ∷ same (loaded (commanded_cut image_b (one_number 63) 0 (set_number 163) space 1) []).numbers (one_number 127)
    ∷ eqb (given image_b (set_number 1087)).stores 16
    ∷ eqb (given image_b (set_number 63)).answer 16
    ∷ eqb (given image_b (set_number 1088)).answer 16
    ∷ eqb (commanded (sender 100 0x02000000) (one_number 4294967295) 0 (set_number 4294967296) space).answer 16
    -- the window: 100 to 1,024; between the stores it is 1,124, which loads, and start refuses it
    ∷ same (given (in_state 1) (set_window 1024)).image (set (sender 1024 0) 9 1)
    ∷ eqb (loaded (commanded_cut (in_state 1) (one_number 63) 0 (set_window 1024) space 1) []).answer 0
    ∷ eqb (given (commanded_cut (in_state 1) (one_number 63) 0 (set_window 1024) space 1) start).answer 16
    ∷ eqb (given image_b (set_window 1024)).answer 15
    ∷ eqb (given (in_state 1) (set_window 0)).answer 16
    ∷ eqb (given (in_state 1) (set_window 1025)).answer 16
    -- a channel by its kind, whole: 24 bits with MAP 0, 15 bits, and version bits 01 before 14; of a set each of its members, and no other
    ∷ eqb (given (keyed_as 1 0x05 2) (naming (27 * 64 * 64 + 5 * 64))).answer 0
    ∷ eqb (given (keyed_as 1 0x05 2) (naming (27 * 64 + 5))).answer 16
    ∷ eqb (given (keyed_as 1 0x05 3) (naming (27 * 8 + 5))).answer 0
    ∷ eqb (given (keyed_as 1 0x05 4) (naming (0x4000 + 27 * 64 + 5))).answer 0
    ∷ eqb (given (keyed_as 1 0x05 4) (naming (27 * 64 + 5))).answer 16
    ∷ eqb (given (keyed_as 2 0x24 3) (naming (27 * 8 + 2))).answer 0
    ∷ eqb (given (keyed_as 2 0x24 3) (naming (27 * 8 + 5))).answer 0
    ∷ eqb (given (keyed_as 2 0x24 3) (naming (27 * 8 + 3))).answer 16
    -- replies
    ∷ same (handed (given image_b status)) (0x9F ∷ 0x00 ∷ 0x03 ∷ 0x00 ∷ 0x09 ∷ 0x02 ∷ [])
    ∷ same (handed (given image_b read_number)) (0x90 ∷ 0x00 ∷ 0x0E ∷ 0x00 ∷ 0x09 ∷ bytes 12 63)
    ∷ same (handed (given image_b ping)) (0xB1 ∷ 0x00 ∷ 0x00 ∷ [])
    -- a key: from pre-active to active, and from active to deactivated where no operational body names it
    ∷ same (given (one_keyed 2 1 1 0) (for_key 0x02 5)).image (one_keyed 2 1 1 1)
    ∷ same (given (one_keyed 2 1 1 1) (for_key 0x03 5)).image (one_keyed 2 1 1 2)
    ∷ eqb (given (one_keyed 2 1 1 1) (for_key 0x03 5)).stores 1
    ∷ same (commanded_cut (one_keyed 2 1 1 1) (one_number 63) 0 (for_key 0x03 5) space 0) (one_keyed 2 1 1 1)
    ∷ eqb (given (one_keyed 2 1 2 1) (for_key 0x03 6)).answer 0
    ∷ eqb (given (one_keyed 2 1 2 1) (for_key 0x03 5)).answer 18
    ∷ eqb (given (one_keyed 2 1 1 0) (for_key 0x03 5)).answer 18
    ∷ eqb (given (one_keyed 2 1 1 1) (for_key 0x02 5)).answer 18
    ∷ eqb (given (one_keyed 2 1 1 2) (for_key 0x02 5)).answer 18
    ∷ eqb (given (one_keyed 2 1 1 0) (for_key 0x02 4)).answer 17
    ∷ eqb (given (one_keyed 2 1 1 0) (for_key 0x03 7)).answer 17
    ∷ eqb (given image_b (for_key 0x02 0)).answer 17
    ∷ eqb (given image_b (for_key 0x03 9)).answer 17
    ∷ eqb (given (one_keyed 2 1 1 0) (spoken 0x02 (bytes 3 5))).answer 13
    -- the inventory of all, of one, of none, and of an image without keys
    ∷ same (handed (given (one_keyed 2 1 1 0) (keys_from 0 0xFFFF)))
    (0x87 ∷ 0x00 ∷ 0x08 ∷ 0x00 ∷ 0x02 ∷ 0x00 ∷ 0x05 ∷ 0x00 ∷ 0x00 ∷ 0x06 ∷ 0x01 ∷ [])
    ∷ same (handed (given (one_keyed 2 1 1 0) (keys_from 6 6))) (0x87 ∷ 0x00 ∷ 0x05 ∷ 0x00 ∷ 0x01 ∷ 0x00 ∷ 0x06 ∷ 0x01 ∷ [])
    ∷ same (handed (given (one_keyed 2 1 1 0) (keys_from 6 5))) (0x87 ∷ 0x00 ∷ 0x02 ∷ 0x00 ∷ 0x00 ∷ [])
    ∷ same (handed (given image_b (keys_from 0 0xFFFF))) (0x87 ∷ 0x00 ∷ 0x02 ∷ 0x00 ∷ 0x00 ∷ [])
    ∷ eqb (commanded (one_keyed 2 1 1 0) (one_number 63) 0 (keys_from 0 0xFFFF) (replicate 10 0)).answer 6
    ∷ eqb (given image_b (spoken 0x07 (bytes 2 0))).answer 13
    -- start needs the key that its body names
    ∷ same (given (one_keyed 2 1 1 1) start).image (one_keyed 2 1 2 1)
    ∷ eqb (given (one_keyed 2 1 1 0) start).answer 18
    ∷ eqb (given (one_keyed 2 1 1 2) start).answer 18
    ∷ eqb (given (naming_key 1 4) start).answer 17
    ∷ eqb (given (naming_key 1 4) (naming 0)).answer 16
    -- rekey stores the ID, and the state last; a cut leaves one new octet, and the image loads
    ∷ same (given (naming_key 0 0x1234) (rekey_to 6 0)).image (naming_key 1 6)
    ∷ eqb (given (naming_key 0 0x1234) (rekey_to 6 0)).stores 3
    ∷ same (commanded_cut (naming_key 0 0x1234) (one_number 63) 0 (rekey_to 6 0) space 1) (naming_key 0 0x0034)
    ∷ same (commanded_cut (naming_key 0 0x1234) (one_number 63) 0 (rekey_to 6 0) space 2) (naming_key 0 6)
    ∷ eqb (loaded (commanded_cut (naming_key 0 0x1234) (one_number 63) 0 (rekey_to 6 0) space 1) []).answer 0
    ∷ eqb (given (naming_key 0 5) (rekey_to 4 0)).answer 17
    ∷ eqb (given (naming_key 0 5) (rekey_to 4 1)).answer 16
    ∷ eqb (given (one_keyed 2 1 0 0) (rekey_to 5 0)).answer 18
    ∷ eqb (given (one_keyed 2 1 0 2) (rekey_to 5 0)).answer 18
    -- 1, 2, 19, 13, 14, 15, 16, 6, each where those behind it apply too
    ∷ eqb (commanded (0x03 ∷ []) [] 0 (0x00 ∷ []) []).answer 1
    ∷ eqb (commanded image_b (one_number 64) 0 (0x00 ∷ []) []).answer 2
    -- 19: a desk behind the last, and a key command of another desk than the key office's, also one of a wrong length; no first octet is none
    ∷ eqb (commanded image_b (one_number 63) 3 (0x00 ∷ []) []).answer 19
    ∷ eqb (commanded image_b (one_number 63) 1 (0x02 ∷ []) []).answer 19
    ∷ eqb (commanded image_b (one_number 63) 2 (for_key 0x03 5) []).answer 19
    ∷ eqb (commanded image_b (one_number 63) 1 (0x07 ∷ 0x00 ∷ []) []).answer 19
    ∷ eqb (commanded image_b (one_number 63) 1 [] []).answer 13
    -- and 14 for the guest's desk, as every body of an older version is desk 1's
    ∷ eqb (commanded image_b (one_number 63) 1 status space).answer 0
    ∷ eqb (commanded image_b (one_number 63) 2 status space).answer 14
    ∷ eqb (given image_b (0x1F ∷ 0x00 ∷ [])).answer 13
    ∷ eqb (given image_b (spoken 0x1C nine)).answer 13
    ∷ eqb (given image_b (spoken 0x1B nine)).answer 13
    ∷ eqb (given image_b (0x1E ∷ 0x00 ∷ 0x02 ∷ 0x00 ∷ 0x09 ∷ 0x00 ∷ [])).answer 13
    ∷ eqb (given image_b (spoken 0x1E (0x00 ∷ 0x08 ∷ []))).answer 14
    ∷ eqb (given image_b (spoken 0x1B (nine ++ bytes 4 0))).answer 15
    ∷ eqb (given (in_state 1) (spoken 0x1B (nine ++ (channel ++ bytes 4 0)))).answer 16
    ∷ eqb (given (in_state 0) (spoken 0x16 (nine ++ (0x00 ∷ 0x01 ∷ bytes 12 0)))).answer 16
    ∷ eqb (commanded image_b (one_number 63) 0 read_number (replicate 16 0)).answer 6
    ∷ eqb (commanded image_b (one_number 63) 0 ping (replicate 2 0)).answer 6
    ∷ []

abbrev pub CommandCasesHold : Type 0
CommandCasesHold = all_true command_cases ≡ true
