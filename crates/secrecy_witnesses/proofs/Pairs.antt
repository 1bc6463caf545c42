-- Two runs side by side, under other keys and with other data, with fresh notes: a frame whose MAC is wrong in both is refused by 7 and reported,
-- one whose MAC is right in both is released, and a load follows; on images of every version. By computing: the ciphers stay shut, so a MAC
-- is that of its key and frame, whatever octets that may be, or has other octets.
-- Assumes nothing.
use Prim.Native.Nat.{ℕ, suc, ◌+◌, ◌-◌, ◌≤◌, ◌<◌}
use mathlib.Core.Path.{◌≡◌, refl, sym, ap, ◌∙◌, subst}
use mathlib.Core.Logic.{◌⊎◌, inl, inr}
use mathlib.Core.Bool.{Bool, true, false, true≢false}
use mathlib.Core.List.{List, [], ◌∷◌, ◌++◌}
use native.Mathlib.Omega.{arith}
use lib.Dec.{lit<}
use lib.ListN.{length, drop, replicate, get_or-append}
use Rattle.octets.specs.Lists.{octet, tab, Octets}
use Rattle.octets.specs.Same.{same}
use Rattle.octets.proofs.Parts.{octet_past, tab_self}
use Rattle.octets.proofs.Rules.{octet-tab}
use Rattle.octets.proofs.Sameness.{same_refl, same_ne}
use Rattle.cmac.specs.Mac.{cmac}
use Rattle.cmac.proofs.Laws.{length-cmac}
use Rattle.frame.specs.Parts.{mac_of}
use Rattle.masking.specs.Masked.{masked}
use Rattle.protection.specs.Protection.{covered_before, mac_right, clear_data}
use Rattle.link.specs.Calls.{Left, refused, handed, matched_number, comparison, checked_as, checked}
use Rattle.reports.specs.Desks.{desk_report, with_report}
use Rattle.reports.specs.Report.{renewing, laid}
use Rattle.event_log.specs.Held.{room_for, entered_in}
use Rattle.notes.specs.Noting.{LentNotes, lent_notes, reports_in, fresh_notes}
use Rattle.noting.specs.Noted.{Noted, check_left, check_noted}
use Rattle.promises.specs.Cases.{one_number, room, bare}
use Rattle.promises.specs.Frames.{field_on, RightField}
use Rattle.promises.specs.Images.{count_in, service_at, key_octets_at}
use Rattle.promises.proofs.Computing.{everything}
use Rattle.secrecy.specs.Secrecy.{ButKeys, State, kept, Given, load, check, loading, checking, RightMac, SameWay, Alike, SameTold, Untold}
use Rattle.secrecy.proofs.Secrecy.{secrecy}
use Rattle.witness_frames.proofs.Computed.{octets_of_lem}

-- ---- two images

-- one entry that receives: SPI 9, service 1, TC of spacecraft 27 and channel 5, window 100
abbrev fields : List ℕ
fields = 0x01 ∷ 0x01 ∷ 0x02 ∷ 0x02 ∷ 0x00 ∷ 0x1B ∷ 0x05 ∷ 0x00 ∷ 0x00 ∷ 0x64 ∷ 0xFF ∷ 0xFF ∷ 0xFF ∷ 0xFF ∷ 0xFF ∷ 0x00 ∷ []

pub data Version : Type 0 where
  one : Version
  two : Version
  three : Version
  four : Version

-- from version 3 on: key 5, active, in a key part at that position, and behind the mark the owner, if the version has one
abbrev keyed : ℕ → ℕ → List ℕ → List ℕ
keyed version position owner =
    version ∷ 0x01 ∷ 0x00 ∷ 0x09 ∷ 0x00 ∷ 0x0A ∷ 0xFF ∷ 0xFF ∷ 0x00 ∷ position
    ∷ (fields ++ (0x00 ∷ 0x05 ∷ 0x00 ∷ 0x00 ∷ 0x00 ∷ 0x00 ∷ (owner ++ (0x01 ∷ 0x00 ∷ 0x05 ∷ 0x01 ∷ []))))

-- before the octets of the key, and behind them
abbrev before : Version → List ℕ
before one = 0x01 ∷ 0x01 ∷ 0x00 ∷ 0x09 ∷ 0x00 ∷ 0x06 ∷ fields
before two = 0x02 ∷ 0x01 ∷ 0x00 ∷ 0x09 ∷ 0x00 ∷ 0x06 ∷ fields
before three = keyed 0x03 0x20 []
before four = keyed 0x04 0x21 (0x01 ∷ [])

abbrev behind : Version → List ℕ
behind one = 0x00 ∷ 0x00 ∷ 0x00 ∷ 0x00 ∷ []
behind two = 0x00 ∷ 0x00 ∷ 0x00 ∷ 0x00 ∷ []
behind three = []
behind four = []

abbrev image : Version → ℕ → List ℕ
image version key = before version ++ (replicate 32 key ++ behind version)

octets-here : (version : Version) → Octets (image version 7)
octets-here one = octets_of_lem (image one 7) refl
octets-here two = octets_of_lem (image two 7) refl
octets-here three = octets_of_lem (image three 7) refl
octets-here four = octets_of_lem (image four 7) refl

octets-there : (version : Version) → Octets (image version 9)
octets-there one = octets_of_lem (image one 9) refl
octets-there two = octets_of_lem (image two 9) refl
octets-there three = octets_of_lem (image three 9) refl
octets-there four = octets_of_lem (image four 9) refl

-- lists that differ in 32 octets alone
around : (front back : List ℕ) (p : ℕ) → (p < length front) ⊎ (length front + 32 ≤ p)
    → octet (front ++ (replicate 32 9 ++ back)) p ≡ octet (front ++ (replicate 32 7 ++ back)) p
around front back p (inl h) =
    get_or-append front (replicate 32 9 ++ back) 0 p h ∙ sym (get_or-append front (replicate 32 7 ++ back) 0 p h)
around front back p (inr h) =
    let q : ℕ = p - length front in
    octet_past front (replicate 32 9 ++ back) p (omega arith)
    ∙ octet_past (replicate 32 9) back q (omega arith)
    ∙ sym (octet_past (replicate 32 7) back q (omega arith))
    ∙ sym (octet_past front (replicate 32 7 ++ back) p (omega arith))

but_keys : (version : Version) → ButKeys (image version 7) (image version 9)
unfolding everything
but_keys one = record { size = refl; elsewhere = λ p out. around (before one) (behind one) p (out 0 (lit< tt)) }
but_keys two = record { size = refl; elsewhere = λ p out. around (before two) (behind two) p (out 0 (lit< tt)) }
but_keys three = record { size = refl; elsewhere = λ p out. around (before three) [] p (out 0 (lit< tt)) }
but_keys four = record { size = refl; elsewhere = λ p out. around (before four) [] p (out 0 (lit< tt)) }

-- ---- frames of number 64

-- what the MAC covers, which the mask leaves as it is; and the frame with these octets for a MAC
abbrev covered : ℕ → List ℕ
covered content = 0x00 ∷ 0x1B ∷ 0x14 ∷ 0x1B ∷ 0x00 ∷ 0x00 ∷ 0x09 ∷ 0x00 ∷ 0x00 ∷ 0x00 ∷ 0x40 ∷ content ∷ []

abbrev frame : ℕ → (ℕ → ℕ) → List ℕ
frame content mac = covered content ++ tab 16 mac

-- the right MAC under a key, octet by octet, and one of which every octet is another
abbrev right : ℕ → ℕ → ℕ → ℕ
right key content i = octet (cmac (replicate 32 key) (covered content)) i

abbrev wrong : ℕ → ℕ → ℕ → ℕ
wrong key content i = suc (right key content i)

module _ (key content : ℕ) where
  abbrev made : List ℕ
  made = cmac (replicate 32 key) (covered content)

  is_right : made ≡ tab 16 (right key content)
  is_right =
      sym (ap (λ (n : ℕ). tab n (octet made)) (sym (length-cmac (replicate 32 key) (covered content))) ∙ tab_self made)

  is_wrong : made ≡ tab 16 (wrong key content) → ⊥
  is_wrong e =
      let first : octet made 0 ≡ suc (octet made 0) = ap (λ (m : List ℕ). octet m 0) e ∙ octet-tab 16 (wrong key content) 0 (omega arith) in
      omega arith

-- how the comparison falls out
compared : (version : Version) (key content : ℕ) (mac : ℕ → ℕ)
    → comparison (image version key) (one_number 63) (bare 1) (frame content mac)
    ≡ same (cmac (replicate 32 key) (covered content)) (tab 16 mac)
unfolding everything comparison mac_right covered_before masked mac_of
compared one key content mac = refl
compared two key content mac = refl
compared three key content mac = refl
compared four key content mac = refl

-- ---- a pair of checks, of data AA and BB under keys of 7 and of 9

abbrev given : ℕ → (ℕ → ℕ) → Given
given content mac = record { frame = frame content mac; output = room }

-- the notes matter to none of what follows
abbrev state : Version → ℕ → LentNotes → State
state version key notes = record { image = image version key; numbers = one_number 63; notes = notes }

-- with room for two events
abbrev fresh : LentNotes
fresh = lent_notes fresh_notes (replicate 6 0)

-- the MAC that the promise asks for, and the one on the frame
asked : (version : Version) (key content : ℕ) (mac : ℕ → ℕ)
    → SameWay (RightMac (state version key fresh) 0 (bare 1) (frame content mac)) (cmac (replicate 32 key) (covered content) ≡ tab 16 mac)
unfolding everything
asked one key content mac = ((λ r. r), (λ r. r))
asked two key content mac = ((λ r. r), (λ r. r))
asked three key content mac = ((λ r. r), (λ r. r))
asked four key content mac = ((λ r. r), (λ r. r))

-- entry 0 is the only one
one_entry : (version : Version) (key e : ℕ) → e < count_in (image version key) → e ≡ 0
one_entry one key e h = omega arith
one_entry two key e h = omega arith
one_entry three key e h = omega arith
one_entry four key e h = omega arith

module _ (version : Version) (n m : LentNotes) (here there : ℕ → ℕ)
    (same_way : SameWay (RightMac (state version 7 n) 0 (bare 1) (frame 0xAA here)) (RightMac (state version 9 m) 0 (bare 1) (frame 0xBB there))) where
  alike : Alike (state version 7 n) (state version 9 m) (bare 1) (given 0xAA here) (given 0xBB there)
  unfolding everything
  alike =
      record {
        size = refl;
        room = refl;
        header = λ j h. front j (omega arith);
        spi = refl;
        field = λ e s. rw (one_entry version 7 e s.entry) (of version);
        check_field = λ b. ((λ r. no_field (frame 0xBB there)), (λ r. no_field (frame 0xAA here)));
        mac = λ e b. rw (one_entry version 7 e b.serves.entry) same_way;
      }
    where
      front : (j : ℕ) → j < 5 → octet (frame 0xBB there) j ≡ octet (frame 0xAA here) j
      front j h =
          let five : List ℕ = 0x00 ∷ 0x1B ∷ 0x14 ∷ 0x1B ∷ 0x00 ∷ [] in
          get_or-append five (drop 5 (frame 0xBB there)) 0 j h ∙ sym (get_or-append five (drop 5 (frame 0xAA here)) 0 j h)

      of : (u : Version) → field_on (service_at (image u 7) 0) (bare 1) (frame 0xBB there) ≡ field_on (service_at (image u 7) 0) (bare 1) (frame 0xAA here)
      of one = refl
      of two = refl
      of three = refl
      of four = refl

      no_field : (s : List ℕ) → RightField (bare 1) s
      no_field s = record { right = λ present. absurd (true≢false (sym present)) }

module _ (version : Version) (n m : LentNotes) where
  wrong_alike : Alike (state version 7 n) (state version 9 m) (bare 1) (given 0xAA (wrong 7 0xAA)) (given 0xBB (wrong 9 0xBB))
  wrong_alike =
      alike version n m (wrong 7 0xAA) (wrong 9 0xBB)
      ((λ r. absurd (is_wrong 7 0xAA ((asked version 7 0xAA (wrong 7 0xAA)).0 r))), (λ r. absurd (is_wrong 9 0xBB ((asked version 9 0xBB (wrong 9 0xBB)).0 r))))

  right-alike : Alike (state version 7 n) (state version 9 m) (bare 1) (given 0xAA (right 7 0xAA)) (given 0xBB (right 9 0xBB))
  right-alike =
      alike version n m (right 7 0xAA) (right 9 0xBB)
      ((λ r. (asked version 9 0xBB (right 9 0xBB)).1 (is_right 9 0xBB)), (λ r. (asked version 7 0xAA (right 7 0xAA)).1 (is_right 7 0xAA)))

-- ---- what the calls leave: of a wrong MAC all as it was, and of a right one the data

abbrev called : Version → ℕ → ℕ → (ℕ → ℕ) → Left
called version key content mac = checked (image version key) (one_number 63) (bare 1) (frame content mac) room

as_compared : (version : Version) (key content : ℕ) (mac : ℕ → ℕ) (r : Bool) → same (made key content) (tab 16 mac) ≡ r
    → called version key content mac ≡ checked_as r (image version key) (one_number 63) (bare 1) (frame content mac) room
unfolding checked
as_compared version key content mac r e =
    ap (λ (t : Bool). checked_as t (image version key) (one_number 63) (bare 1) (frame content mac) room) (compared version key content mac ∙ e)

refused-by_7 : (version : Version) (key content : ℕ) → called version key content (wrong key content) ≡ refused 7 (image version key) (one_number 63) room
unfolding everything
refused-by_7 version key content =
    as_compared version key content (wrong key content) false (same_ne (made key content) (tab 16 (wrong key content)) (is_wrong key content))
    ∙ of version
  where
    of : (u : Version)
        → checked_as false (image u key) (one_number 63) (bare 1) (frame content (wrong key content)) room ≡ refused 7 (image u key) (one_number 63) room
    of one = refl
    of two = refl
    of three = refl
    of four = refl

pub record Released (content : ℕ) (x : Left) : Type 0 where
  pub answer : x.answer ≡ 0
  pub stores : x.stores ≡ 1
  pub released : handed x ≡ content ∷ []

released : (version : Version) (key content : ℕ) → Released content (called version key content (right key content))
unfolding everything clear_data
released version key content =
    let rights : same (made key content) (tab 16 (right key content)) ≡ true =
    ap (same (made key content)) (sym (is_right key content)) ∙ same_refl (made key content)
    in
    subst (Released content) (sym (as_compared version key content (right key content) true rights)) (of version)
  where
    of : (u : Version) → Released content (checked_as true (image u key) (one_number 63) (bare 1) (frame content (right key content)) room)
    of one = record { answer = refl; stores = refl; released = refl }
    of two = record { answer = refl; stores = refl; released = refl }
    of three = record { answer = refl; stores = refl; released = refl }
    of four = record { answer = refl; stores = refl; released = refl }

-- ---- the promise on them

-- the keys are not the same, and neither is what is released
pub keys_differ : (version : Version) → same (key_octets_at (image version 7) 0) (key_octets_at (image version 9) 0) ≡ false
unfolding everything
keys_differ one = refl
keys_differ two = refl
keys_differ three = refl
keys_differ four = refl

-- a frame with the wrong MAC, and then one with the right MAC
abbrev refusal : Version → ℕ → ℕ → Noted
refusal version key content = checking (state version key fresh) (bare 1) (given content (wrong key content))

abbrev release : Version → ℕ → ℕ → Noted
release version key content =
    checking (state version key (refusal version key content).notes) (bare 1) (given content (right key content))

pub both-refused : (version : Version) → ((refusal version 7 0xAA).left.answer ≡ 7) × ((refusal version 9 0xBB).left.answer ≡ 7)
unfolding check_noted
both-refused version = (
  ap (λ (x : Left). x.answer) (refused-by_7 version 7 0xAA),
  ap (λ (x : Left). x.answer) (refused-by_7 version 9 0xBB),
)

-- the refusal is reported to desk 1: alarm and bad MAC, the SPI, and the number that the entry has; and is the first event
pub record Reports (notes : LentNotes) : Type 0 where
  pub reports : reports_in notes ≡ 0xC0 ∷ 0 ∷ 0 ∷ 0 ∷ 0xCA ∷ 0 ∷ 9 ∷ 63 ∷ 0xC0 ∷ 0 ∷ 0 ∷ 0 ∷ []
  pub events : notes.events ≡ 1 ∷ 0 ∷ 7 ∷ 0 ∷ 0 ∷ 0 ∷ []

reports : (version : Version) (key content : ℕ)
    → let f = frame content (wrong key content) in
    Reports (check_left fresh (image version key) (one_number 63) (bare 1) f (refused 7 (image version key) (one_number 63) room)).notes
unfolding everything matched_number desk_report with_report renewing laid room_for entered_in
reports one key content = record { reports = refl; events = refl }
reports two key content = record { reports = refl; events = refl }
reports three key content = record { reports = refl; events = refl }
reports four key content = record { reports = refl; events = refl }

pub refusal-reported : (version : Version) (key content : ℕ) → Reports (refusal version key content).notes
unfolding check_noted
refusal-reported version key content =
    subst (λ (x : Left). Reports (check_left fresh (image version key) (one_number 63) (bare 1) (frame content (wrong key content)) x).notes)
    (sym (refused-by_7 version key content)) (reports version key content)

-- all but the notes is as it was, so the next check is as if it were the first
stays : (version : Version) (key content : ℕ) → kept (refusal version key content) ≡ state version key (refusal version key content).notes
unfolding check_noted
stays version key content =
    ap (λ (x : Left). record { image = x.image; numbers = x.numbers; notes = (refusal version key content).notes }) (refused-by_7 version key content)

pub both-released : (version : Version) → Released 0xAA (release version 7 0xAA).left × Released 0xBB (release version 9 0xBB).left
unfolding check_noted
both-released version = (released version 7 0xAA, released version 9 0xBB)

-- a refusal, a release and a load, in both
pub runs_told : (version : Version)
    → let u = release version 7 0xAA in
    let v = release version 9 0xBB in
    SameTold (refusal version 7 0xAA) (refusal version 9 0xBB) × SameTold u v × SameTold (loading (kept u) []) (loading (kept v) [])
unfolding Untold
runs_told version =
    let more = check (bare 1) (given 0xAA (right 7 0xAA)) (given 0xBB (right 9 0xBB)) ∷ load [] ∷ [] in
    let steps = check (bare 1) (given 0xAA (wrong 7 0xAA)) (given 0xBB (wrong 9 0xBB)) ∷ more in
    let x = refusal version 7 0xAA in
    let y = refusal version 9 0xBB in
    let both =
    secrecy (state version 7 fresh) (state version 9 fresh) steps (octets-here version) (octets-there version) (but_keys version) refl refl
    (wrong_alike version fresh fresh)
    in
    let here : Untold (state version 7 x.notes) (kept y) more = subst (λ (s : State). Untold s (kept y) more) (stays version 7 0xAA) both.1 in
    let there : Untold (state version 7 x.notes) (state version 9 y.notes) more =
    subst (λ (s : State). Untold (state version 7 x.notes) s more) (stays version 9 0xBB) here
    in
    let then = there (right-alike version x.notes y.notes) in
    (both.0, then.0, then.1.0)
