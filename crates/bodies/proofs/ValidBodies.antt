-- Document 01, 'The image': what a body that passes the test is known to be. Its rules, which the definition tests one behind the other, are
-- facts with names.
-- Assumes nothing.
use mathlib.Core.Path.{◌≡◌, refl}
use mathlib.Core.Bool.{Bool, true, false, ◌&&◌, ◌||◌}
use mathlib.Core.List.{List}
use Prim.Native.Nat.{ℕ, zero, suc, ◌^◌, ◌≤◌, ◌<◌}
use native.Mathlib.Omega.{arith}
use borrow.Author.Tests.{eqb-true, leb-true, ltb-true, eq-eqb, ne_eqb}
use lib.Dec.{eqb, leb}
use lib.ListN.{length, get_or-eq_default}
use Rattle.std.specs.Prelude.{Option, Some, None}
use Rattle.octets.specs.Lists.{octet}
use Rattle.octets.proofs.Alls.{and_left, and_right}
use Rattle.octets.proofs.Parts.{length_part}
use Rattle.kinds.specs.Kinds.{kind_is, kind_of, named}
use Rattle.kinds.specs.declared.kinds.Kind as code
use Rattle.bodies.specs.Body.{service_of, kind_in, direction_of, state_of, spacecraft_of, channel_of, holds_set, map_of, window_of, mask_of, mark_of, owner_of}
use Rattle.bodies.specs.Body.{first_desk, last_desk, operational, most_window, channel_ok, kind_ok, window_ok, body_ok}
use Rattle.bodies.specs.Layout.{mask_place, mask_length}

-- a mask has six octets
pub length-mask : (body : List ℕ) → length (mask_of body) ≡ mask_length
length-mask body = length_part mask_place mask_length body

-- the kind's number names one; spacecraft, virtual channels and MAP are what it allows, and the mask covers its header alone
pub record KindKept (version : ℕ) (body : List ℕ) : Type 0 where
  pub number : (1 ≤ kind_in body) × (kind_in body ≤ 4)
  pub is_named : (k : code.Kind) × (named (kind_in body) ≡ Some k)
  pub spacecraft : spacecraft_of body ≤ (kind_of (kind_in body)).most_spacecraft
  pub channel : holds_set version body ≡ false → channel_of body ≤ (kind_of (kind_in body)).most_channel
  pub channels : holds_set version body ≡ true → 1 ≤ channel_of body
  pub map : map_of body ≤ (kind_of (kind_in body)).most_map
  pub mask : octet (mask_of body) (kind_of (kind_in body)).under_mask ≡ 0

-- every rule of a body
pub record ValidBody (version : ℕ) (body : List ℕ) : Type 0 where
  pub service : (1 ≤ service_of body) × (service_of body ≤ 2)
  pub direction : (1 ≤ direction_of body) × (direction_of body ≤ 2)
  pub state : state_of body ≤ operational
  pub kind : KindKept version body
  pub window : state_of body ≡ operational → (1 ≤ window_of body) × (window_of body ≤ most_window)
  pub mark : mark_of version body < 2 ^ 26
  pub owner : (first_desk ≤ owner_of version body) × (owner_of version body ≤ last_desk)

pub between : (low x high : ℕ) → (leb low x && leb x high) ≡ true → (low ≤ x) × (x ≤ high)
between low x high e =
    (leb-true low x (and_left (leb low x) (leb x high) e), leb-true x high (and_right (leb low x) (leb x high) e))

serving_window : (body : List ℕ) → window_ok body ≡ true → state_of body ≡ operational → (1 ≤ window_of body) × (window_of body ≤ most_window)
serving_window body e serves = between 1 (window_of body) most_window (rw (eq-eqb (state_of body) operational serves) at e)

named_range : (n : ℕ) (k : code.Kind) → named n ≡ Some k → (1 ≤ n) × (n ≤ 4)
unfolding named
named_range zero k e = let z : ◌≡◌ {A = ℕ} 0 1 = cc in absurd (omega arith)
named_range (suc zero) k e = (omega arith, omega arith)
named_range (suc (suc zero)) k e = (omega arith, omega arith)
named_range (suc (suc (suc zero))) k e = (omega arith, omega arith)
named_range (suc (suc (suc (suc zero)))) k e = (omega arith, omega arith)
named_range (suc (suc (suc (suc (suc n))))) k e =
    let other : ℕ = suc (suc (suc (suc (suc n)))) in
    let none : named other ≡ None =
    simp (ne_eqb other 1 (omega arith), ne_eqb other 2 (omega arith), ne_eqb other 3 (omega arith), ne_eqb other 4 (omega arith))
    in
    let z : ◌≡◌ {A = ℕ} 0 1 = cc in
    absurd (omega arith)

mask-kept : (body : List ℕ) (covered : ℕ) (t : Bool) → leb mask_length covered ≡ t → (t || eqb (octet (mask_of body) covered) 0) ≡ true
    → octet (mask_of body) covered ≡ 0
mask-kept body covered true e passed =
    get_or-eq_default (mask_of body) 0 (omega (arith, length-mask body, leb-true mask_length covered e))
mask-kept body covered false e passed = eqb-true (octet (mask_of body) covered) 0 passed

kind-kept : (version : ℕ) (body : List ℕ) (x : Option code.Kind) → named (kind_in body) ≡ x → kind_ok version x body ≡ true → KindKept version body
kind-kept version body (Some k) e passed =
    let channel-kept : channel_ok version (kind_is k) body ≡ true = search (and_left, and_right) in
    record {
      number = named_range (kind_in body) k e;
      is_named = (k, e);
      spacecraft = rw e (leb-true (spacecraft_of body) (kind_is k).most_spacecraft (search (and_left, and_right)));
      channel = λ one. rw e (leb-true (channel_of body) (kind_is k).most_channel (rw one at channel-kept));
      channels = λ set. leb-true 1 (channel_of body) (rw set at channel-kept);
      map = rw e (leb-true (map_of body) (kind_is k).most_map (search (and_left, and_right)));
      mask = rw e (mask-kept body (kind_is k).under_mask (leb mask_length (kind_is k).under_mask) refl (search (and_left, and_right)));
    }
kind-kept version body None e passed = let z : ◌≡◌ {A = ℕ} 0 1 = cc in absurd (omega arith)

pub valid-body : (version : ℕ) (body : List ℕ) → body_ok version body ≡ true → ValidBody version body
unfolding body_ok
valid-body version body e =
    record {
      service = between 1 (service_of body) 2 (search (and_left, and_right));
      direction = between 1 (direction_of body) 2 (search (and_left, and_right));
      state = leb-true (state_of body) operational (search (and_left, and_right));
      kind = kind-kept version body (named (kind_in body)) refl (search (and_left, and_right));
      window = serving_window body (search (and_left, and_right));
      mark = ltb-true (mark_of version body) (2 ^ 26) (search (and_left, and_right));
      owner = between first_desk (owner_of version body) last_desk (search (and_left, and_right));
    }
