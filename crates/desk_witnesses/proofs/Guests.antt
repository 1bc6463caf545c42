-- Two runs that differ for desk 1, in body, number and calls, cut ones among them, and in which desk 2 sends, checks and commands. They meet
-- what the promise on desks supposes, and desk 1 is answered otherwise in the one than in the other. By computing; the ciphers stay shut, so
-- the frame that is checked is too short to be compared.
-- Assumes nothing.
use Prim.Native.Nat.{ℕ, zero, suc, ◌+◌, ◌-◌, ◌≤◌, ◌<◌}
use mathlib.Core.Path.{◌≡◌, refl, sym, ap, ◌∙◌}
use mathlib.Core.Logic.{◌⊎◌, inl, inr}
use mathlib.Core.Bool.{Bool, true, false, ◌&&◌}
use mathlib.Core.List.{List, [], ◌∷◌, ◌++◌}
use native.Mathlib.Decide.{dec_lt}
use native.Mathlib.Omega.{arith}
use borrow.Author.Tests.{eqb-true}
use lib.Dec.{eqb}
use lib.ListN.{take, drop, replicate}
use lib.Seq.{get_or-take, get_or-drop}
use Rattle.octets.specs.Lists.{octet}
use Rattle.octets.specs.Same as lists
use Rattle.octets.proofs.Alls.{and_left, and_right}
use Rattle.octets.proofs.Sameness.{same_eq}
use Rattle.association.specs.Search.{with_spi}
use Rattle.command_form.specs.Channels.{channels_right}
use Rattle.named_keys.specs.NamedKeys.{unserved}
use Rattle.procedures.specs.Procedures.{with_tag, called}
use Rattle.link.specs.Calls.{secured, checked, comparison}
use Rattle.judging.specs.Said.{Said}
use Rattle.addressing.specs.Addressing.{entry_named}
use Rattle.commands.specs.Commanding.{command_reply, commanded, commanded_cut}
use Rattle.promises.specs.Cases.{frame_c}
use Rattle.promises.specs.Images.{part_place, owner_at, last_at}
use Rattle.promises.specs.KeyedCases.{keyed_body, key_of}
use Rattle.promises.specs.Runs as frames
use Rattle.promises.specs.Runs.{State, load, send, check, send_cut, check_cut}
use Rattle.promises.proofs.Computing.{everything}
use Rattle.promises.proofs.Valids.{rules-kept, agreement}
use Rattle.command_promises.specs.Cases.{spoken, start, stop, set_number, for_key, space}
use Rattle.command_promises.specs.Runs.{Step, call, command, command_cut, after, ran}
use Rattle.desks.specs.Desks.{By, is_load, is_cut, Other, Pair, same, apart, apart_cut, here, there, AllOther, Allowed, AllAllowed, Sound, Common}
use Rattle.desks.specs.Desks.{Start, SameKeyPart, KeyPartSame, AnsweredTo}
use Rattle.desks.proofs.Desks.{desks}
use Rattle.witness_frames.proofs.Computed.{octets_of_lem}

-- ---- the two images: SPI 9 is desk 1's, SPIs 10 and 11 are desk 2's; bodies at 18, 41 and 64, the key part at 87

abbrev pub owned_by : ℕ → List ℕ → List ℕ
owned_by desk body = body ++ (desk ∷ [])

unfoldable pub image_of : List ℕ → List ℕ
image_of guest =
    0x04 ∷ 0x03 ∷ 0x00 ∷ 0x09 ∷ 0x00 ∷ 0x12 ∷ 0x00 ∷ 0x0A ∷ 0x00 ∷ 0x29 ∷ 0x00 ∷ 0x0B ∷ 0x00 ∷ 0x40 ∷ 0xFF ∷ 0xFF ∷ 0x00 ∷ 0x57
    ∷ (owned_by 1 guest
    ++ (owned_by 2 (keyed_body 1 1 1 2 0x0005 0)
    ++ (owned_by 2 (keyed_body 1 1 2 2 0x0005 0) ++ (0x02 ∷ (key_of 0x0005 1 0x07 ++ key_of 0x0006 1 0x08)))))

-- desk 1's is operational in the one, and keyed, under another key and with another mark, in the other
abbrev pub one : State
one = record { image = image_of (keyed_body 1 1 1 2 0x0005 0); numbers = 63 ∷ 63 ∷ 63 ∷ replicate 29 0 }

abbrev pub other : State
other = record { image = image_of (keyed_body 1 1 1 1 0x0005 1); numbers = 100 ∷ 63 ∷ 63 ∷ replicate 29 0 }

-- ---- the two runs

abbrev pub out : List ℕ
out = replicate 40 0

abbrev pub by : ℕ → Said
by desk = record { desk = desk; kind = 1; field = false }

abbrev pub ten : List ℕ
ten = 0x00 ∷ 0x0A ∷ []

-- a secured frame of SPI 11 that has no room for its number
abbrev pub short : List ℕ
short = 0x00 ∷ 0x1B ∷ 0x14 ∷ 0x07 ∷ 0x00 ∷ 0x00 ∷ 0x0B ∷ 0xAA ∷ []

abbrev pub pairs : List Pair
pairs =
    apart (call (send (by 1) 9 frame_c out) ∷ command 1 stop space ∷ []) (call (send (by 1) 9 frame_c out) ∷ [])
    ∷ same (call (send (by 2) 10 frame_c out))
    ∷ apart_cut (command_cut 1 start space 1 []) (command_cut 1 (set_number 200) space 1 [])
    ∷ same (call (check (by 2) short out))
    ∷ apart [] (command 1 start space ∷ call (send (by 1) 9 frame_c out) ∷ [])
    ∷ same (command 2 (spoken 0x10 ten) space)
    ∷ same (command 0 (for_key 0x03 6) space)
    ∷ same (call (load []))
    ∷ same (command 2 (spoken 0x1E ten) space)
    ∷ same (call (send (by 2) 10 frame_c out))
    ∷ []

-- ---- what is supposed of them

-- the same before a place, and from another on
shared_by : (s t : List ℕ) (a b : ℕ) → take a t ≡ take a s → drop b t ≡ drop b s → (p : ℕ) → (p < a) ⊎ (b ≤ p) → octet t p ≡ octet s p
shared_by s t a b front behind p (inl h) =
    sym (get_or-take a t p 0 h) ∙ ap (λ (l : List ℕ). octet l p) front ∙ get_or-take a s p 0 h
shared_by s t a b front behind p (inr h) =
    let at : b + (p - b) ≡ p = omega arith in
    ap (octet t) (sym at)
    ∙ sym (get_or-drop b t (p - b) 0)
    ∙ ap (λ (l : List ℕ). octet l (p - b)) behind
    ∙ get_or-drop b s (p - b) 0
    ∙ ap (octet s) at

keys-by : (x y : State) → part_place x.image ≡ 87 → drop 87 y.image ≡ drop 87 x.image → SameKeyPart x y
keys-by x y at same_keys p h = shared_by x.image y.image 0 87 refl same_keys p (inr (omega arith))

sound_one : Sound one
unfolding everything image_of
sound_one =
    let octets = octets_of_lem one.image refl in
    record { octets = octets; version = refl; valid = rules-kept one.image octets refl; thirty_two = refl }

sound_other : Sound other
unfolding everything image_of
sound_other =
    let octets = octets_of_lem other.image refl in
    record { octets = octets; version = refl; valid = rules-kept other.image octets refl; thirty_two = refl }

starts : Start 2 one other
unfolding everything image_of
starts =
    record {
      one = sound_one;
      other = sound_other;
      alike =
          record {
            size = refl;
            octets = λ p c. shared_by one.image other.image 18 40 refl refl p (side p c (dec_lt p 18) (dec_lt p 40));
            numbers = lasts;
          };
      agree = λ a. agreement other.image other.numbers sound_other.octets refl;
      agreed = λ a. agreement one.image one.numbers sound_one.octets refl;
    }
  where
    side : (p : ℕ) → Common 2 one.image p → Dec (p < 18) → Dec (p < 40) → (p < 18) ⊎ (40 ≤ p)
    side p c (yes l) m = inl l
    side p c (no l) (yes m) = let mine : ◌≡◌ {A = ℕ} 1 2 = c 0 (omega arith) (omega arith) (omega arith) in absurd (omega arith)
    side p c (no l) (no m) = inr (omega arith)

    lasts : (i : ℕ) → i < 3 → owner_at one.image i ≡ 2 → last_at other.numbers i ≡ last_at one.numbers i
    lasts zero h mine = absurd (omega arith)
    lasts (suc zero) h mine = refl
    lasts (suc (suc zero)) h mine = refl
    lasts (suc (suc (suc i))) h mine = absurd (omega arith)

-- desk 1 is the other
host : Other 2 1
host = (λ e. omega arith, λ e. omega arith)

allowed : AllAllowed 2 pairs
unfolding everything By is_load is_cut AllOther Allowed AllAllowed
allowed = (
  ((host, refl, ((host, octets_of_lem stop refl), refl, tt)), (host, refl, tt)),
  (
    inr (inr refl),
    (
      ((host, octets_of_lem start refl), refl, (host, octets_of_lem (set_number 200) refl), refl),
      (
        inr (inr refl),
        (
          (tt, ((host, octets_of_lem start refl), refl, (host, refl, tt))),
          (
            inr (inr refl, octets_of_lem (spoken 0x10 ten) refl),
            (
              inr (inl refl, octets_of_lem (for_key 0x03 6) refl),
              (inl refl, (inr (inr refl, octets_of_lem (spoken 0x1E ten) refl), (inr (inr refl), tt))),
            ),
          ),
        ),
      ),
    ),
  ),
)

-- that the key parts are the same after every step, as a test that computes
unfoldable keys_tested : State → State → List Pair → Bool
keys_tested x y [] = true
keys_tested x y (p ∷ ps) =
    (eqb (part_place (here x p).image) 87 && lists.same (drop 87 (there y p).image) (drop 87 (here x p).image))
    && keys_tested (here x p) (there y p) ps

keys_tested_lem : (ps : List Pair) (x y : State) → keys_tested x y ps ≡ true → KeyPartSame x y ps
unfolding keys_tested KeyPartSame
keys_tested_lem [] x y e = tt
keys_tested_lem (p ∷ ps) x y e =
    let place : Bool = eqb (part_place (here x p).image) 87 in
    let part : Bool = lists.same (drop 87 (there y p).image) (drop 87 (here x p).image) in
    let first : (place && part) ≡ true = and_left (place && part) (keys_tested (here x p) (there y p) ps) e in (
      keys-by (here x p) (there y p) (eqb-true (part_place (here x p).image) 87 (and_left place part first))
          (same_eq (drop 87 (there y p).image) (drop 87 (here x p).image) (and_right place part first)),
      keys_tested_lem ps (here x p) (there y p) (and_right (place && part) (keys_tested (here x p) (there y p) ps) e),
    )

key_parts_lem : KeyPartSame one other pairs
unfolding everything image_of with_spi channels_right unserved with_tag called entry_named command_reply commanded commanded_cut checked comparison frames.after after ran here there keys_tested
key_parts_lem = keys_tested_lem pairs one other refl

pub guests_alike : AnsweredTo 2 one other pairs
guests_alike = desks 2 (omega arith, omega arith) one other pairs starts allowed key_parts_lem

-- ---- and they differ for desk 1

-- the numbers of the answers of a run's whole calls
unfoldable pub answer : State → Step → List ℕ
answer x (call (load any)) = []
answer x (call (send said spi frame output)) = (secured x.image x.numbers said spi frame output).answer ∷ []
answer x (call (check said frame output)) = (checked x.image x.numbers said frame output).answer ∷ []
answer x (call (send_cut said spi frame output j any)) = []
answer x (call (check_cut said frame output j any)) = []
answer x (command desk c output) = (commanded x.image x.numbers desk c output).answer ∷ []
answer x (command_cut desk c output j any) = []

unfoldable pub told : State → List Step → List ℕ
told x [] = []
told x (v ∷ vs) = answer x v ++ told (after x v) vs

-- the steps of either run
unfoldable pub steps_here : List Pair → List Step
steps_here [] = []
steps_here (same v ∷ ps) = v ∷ steps_here ps
steps_here (apart vs ws ∷ ps) = vs ++ steps_here ps
steps_here (apart_cut v w ∷ ps) = v ∷ steps_here ps

unfoldable pub steps_there : List Pair → List Step
steps_there [] = []
steps_there (same v ∷ ps) = v ∷ steps_there ps
steps_there (apart vs ws ∷ ps) = ws ++ steps_there ps
steps_there (apart_cut v w ∷ ps) = w ∷ steps_there ps

-- desk 1 sends and stops; in the other run its sending is answered by 4, and later it starts and sends. Desk 2: 0, 5, 0, and behind the key
-- office's 0 again 0, and 4 as its own association is stopped
pub hosts_differ :
    (told one (steps_here pairs) ≡ 0 ∷ 0 ∷ 0 ∷ 5 ∷ 0 ∷ 0 ∷ 0 ∷ 4 ∷ [])
    × (told other (steps_there pairs) ≡ 4 ∷ 0 ∷ 5 ∷ 0 ∷ 0 ∷ 0 ∷ 0 ∷ 0 ∷ 4 ∷ [])
unfolding everything image_of with_spi channels_right unserved with_tag called entry_named command_reply commanded commanded_cut checked comparison frames.after after answer told steps_here steps_there
hosts_differ = (refl, refl)
