-- What two images of version 4 have in common for a desk: contents, owners, key part and the desk's own bodies. What a call changes of
-- another's body, or of the state of a key, is none of it; and the same stores change it alike in both.
-- Assumes nothing.
use Prim.Native.Nat.{ℕ, ◌+◌, ◌*◌, ◌≤◌, ◌<◌}
use mathlib.Core.Path.{◌≡◌, refl, sym, ap, ap₂, ◌∙◌}
use mathlib.Core.Logic.{◌≢◌, ◌⊎◌, inl, inr}
use mathlib.Core.List.{List, [], ◌∷◌}
use native.Mathlib.Decide.{ℕ_discrete, dec_lt}
use native.Mathlib.Omega.{arith}
use lib.ListN.{length, set, length-set}
use lib.Seq.{set_out, get_or-set_same, get_or-set_other}
use Rattle.octets.specs.Lists.{octet}
use Rattle.marks.specs.Stores.{stored}
use Rattle.marks.specs.declared.plans.Store.{Store}
use Rattle.promises.specs.Images.{version_in, shape_in, count_in, place, part_place, owner_at}
use Rattle.promises.specs.Versions.{Shape, fourth, shape_of}
use Rattle.desks.specs.Desks.{Common}

-- ---- where everything stands in version 4

module _ (s : List ℕ) (four : version_in s ≡ 4) where
  pub shape_four : shape_in s ≡ fourth
  unfolding shape_of
  shape_four = ap shape_of four

  pub place-four : (i j : ℕ) → place s i j ≡ 6 + 4 * count_in s + 23 * i + j
  place-four i j = ap (λ (h : Shape). h.front + 4 * count_in s + h.body * i + j) shape_four

  pub owner-four : (i : ℕ) → owner_at s i ≡ octet s (place s i 22)
  owner-four i = rw shape_four

  module _ (d : ℕ) where
    -- before the bodies, and behind them
    pub in_front : (p : ℕ) → p < 6 + 4 * count_in s → Common d s p
    in_front p h = λ i below from to. absurd (omega (arith, place-four i 0))

    pub in_part : (p : ℕ) → part_place s ≤ p → Common d s p
    in_part p h = λ i below from to. absurd (omega (arith, place-four i 22, place-four (count_in s) 0))

    -- an owner, and an octet of a body of the desk's
    pub is-owner : (i : ℕ) → Common d s (place s i 22)
    is-owner i = λ k below from to. absurd (omega (arith, place-four i 22, place-four k 0, place-four k 22))

    pub in_own : (i : ℕ) → owner_at s i ≡ d → (p : ℕ) → place s i 0 ≤ p → p < place s i 0 + 23 → Common d s p
    in_own i own p low high =
        λ k below from to.
        let same : k ≡ i = omega (arith, place-four i 0, place-four k 0, place-four k 22) in
        ap (owner_at s) same ∙ own

-- ---- what stays, whoever owns what

pub record Framed (s t : List ℕ) : Type 0 where
  pub version : version_in t ≡ version_in s
  pub count : count_in t ≡ count_in s
  pub owner : (i : ℕ) → i < count_in s → owner_at t i ≡ owner_at s i

module _ {s t : List ℕ} (f : Framed s t) where
  pub place_same : (i j : ℕ) → place t i j ≡ place s i j
  place_same i j = ap₂ (λ (v k : ℕ). (shape_of v).front + 4 * k + (shape_of v).body * i + j) f.version f.count

  pub part-same-place : part_place t ≡ part_place s
  part-same-place = ap₂ (λ (v k : ℕ). (shape_of v).front + 4 * k + (shape_of v).body * k + 0) f.version f.count

  module _ (d p : ℕ) where
    pub common_back : Common d t p → Common d s p
    common_back c i below from to =
        sym (f.owner i below) ∙ c i (omega (arith, f.count)) (omega (arith, place_same i 0)) (omega (arith, place_same i 22))

    pub common_on : Common d s p → Common d t p
    common_on c i below from to =
        let h : i < count_in s = omega (arith, f.count) in
        f.owner i h ∙ c i h (omega (arith, place_same i 0)) (omega (arith, place_same i 22))

-- ---- the same for the desk, in two images; and but for the key part, before and after a call

pub record Same (d : ℕ) (s t : List ℕ) : Type 0 where
  pub size : length t ≡ length s
  pub octets : (p : ℕ) → Common d s p → octet t p ≡ octet s p

pub record Near (d : ℕ) (s t : List ℕ) : Type 0 where
  pub size : length t ≡ length s
  pub octets : (p : ℕ) → Common d s p → p < part_place s → octet t p ≡ octet s p

pub near_itself : (d : ℕ) (s : List ℕ) → Near d s s
near_itself d s = record { size = refl; octets = λ p c b. refl }

pub same-near : {d : ℕ} {s t : List ℕ} → Same d s t → Near d s t
same-near h = record { size = h.size; octets = λ p c b. h.octets p c }

pub framed : (d : ℕ) (s t : List ℕ) → version_in s ≡ 4 → Near d s t → Framed s t
framed d s t four near =
    let front : (p : ℕ) → p < 6 → octet t p ≡ octet s p =
    λ p h. near.octets p (in_front s four d p (omega arith)) (omega (arith, place-four s four (count_in s) 0))
    in
    let version : version_in t ≡ version_in s = front 0 (omega arith) in
    let count : count_in t ≡ count_in s = front 1 (omega arith) in
    let later : version_in t ≡ 4 = version ∙ four in
    record {
      version = version;
      count = count;
      owner = λ i below.
          let at : place t i 22 ≡ place s i 22 = omega (arith, place-four t later i 22, place-four s four i 22, count) in
          owner-four t later i
          ∙ ap (octet t) at
          ∙ near.octets (place s i 22) (is-owner s four d i) (omega (arith, place-four s four i 22, place-four s four (count_in s) 0))
          ∙ sym (owner-four s four i);
    }

pub same-framed : (d : ℕ) (s t : List ℕ) → version_in s ≡ 4 → Same d s t → Framed s t
same-framed d s t four same = framed d s t four (same-near same)

pub same_back : (d : ℕ) (s t : List ℕ) → version_in s ≡ 4 → Same d s t → Same d t s
same_back d s t four same =
    record {
      size = sym same.size;
      octets = λ p c. sym (same.octets p (common_back (same-framed d s t four same) d p c));
    }

pub near_then : (d : ℕ) (s t u : List ℕ) → version_in s ≡ 4 → Near d s t → Near d t u → Near d s u
near_then d s t u four one two =
    let f = framed d s t four one in
    record {
      size = two.size ∙ one.size;
      octets = λ p c b. two.octets p (common_on f d p c) (omega (arith, part-same-place f)) ∙ one.octets p c b;
    }

-- each run goes on by what the desk does not see, and the key parts are the same
pub same_then : (d : ℕ) (s t s2 t2 : List ℕ) → version_in s ≡ 4 → Same d s t → Near d s s2 → Near d t t2
    → ((p : ℕ) → part_place s2 ≤ p → octet t2 p ≡ octet s2 p) → Same d s2 t2
same_then d s t s2 t2 four same one two keys =
    record { size = two.size ∙ same.size ∙ sym one.size; octets = λ p c. by_place p c (dec_lt p (part_place s)) }
  where
    f : Framed s s2
    f = framed d s s2 four one

    g : Framed s t
    g = same-framed d s t four same

    by_place : (p : ℕ) → Common d s2 p → Dec (p < part_place s) → octet t2 p ≡ octet s2 p
    by_place p c (yes b) =
        let c1 : Common d s p = common_back f d p c in
        two.octets p (common_on g d p c1) (omega (arith, part-same-place g)) ∙ same.octets p c1 ∙ sym (one.octets p c1 b)
    by_place p c (no b) = keys p (omega (arith, part-same-place f))

-- ---- a call that touches one body, but for its owner

pub record Touches (s : List ℕ) (e : ℕ) (t : List ℕ) : Type 0 where
  pub size : length t ≡ length s
  pub outside : (p : ℕ) → (p < place s e 0) ⊎ (place s e 22 ≤ p) → octet t p ≡ octet s p

pub touched_framed : (s : List ℕ) (e : ℕ) (t : List ℕ) → version_in s ≡ 4 → Touches s e t → Framed s t
touched_framed s e t four h =
    let version : version_in t ≡ version_in s = h.outside 0 (inl (omega (arith, place-four s four e 0))) in
    let count : count_in t ≡ count_in s = h.outside 1 (inl (omega (arith, place-four s four e 0))) in
    let later : version_in t ≡ 4 = version ∙ four in
    record {
      version = version;
      count = count;
      owner = λ i below.
          let at : place t i 22 ≡ place s i 22 = omega (arith, place-four t later i 22, place-four s four i 22, count) in
          owner-four t later i ∙ ap (octet t) at ∙ h.outside (place s i 22) (side i (dec_lt i e)) ∙ sym (owner-four s four i);
    }
  where
    side : (i : ℕ) → Dec (i < e) → (place s i 22 < place s e 0) ⊎ (place s e 22 ≤ place s i 22)
    side i (yes l) = inl (omega (arith, place-four s four i 22, place-four s four e 0))
    side i (no l) = inr (omega (arith, place-four s four i 22, place-four s four e 22))

-- of another's body nothing is the desk's
pub touched_near : (d : ℕ) (s : List ℕ) (e : ℕ) (t : List ℕ) → e < count_in s → owner_at s e ≢ d → Touches s e t → Near d s t
touched_near d s e t below other h =
    record { size = h.size; octets = λ p c b. h.outside p (side p c (dec_lt p (place s e 0)) (dec_lt p (place s e 22))) }
  where
    side : (p : ℕ) → Common d s p → Dec (p < place s e 0) → Dec (p < place s e 22) → (p < place s e 0) ⊎ (place s e 22 ≤ p)
    side p c (yes l) m = inl l
    side p c (no l) (yes m) = absurd (other (c e below (omega arith) m))
    side p c (no l) (no m) = inr (omega arith)

-- ---- the same stores

-- one, at a place where the lists are the same
pub set_same : (s t : List ℕ) (at v p : ℕ) → length t ≡ length s → octet t p ≡ octet s p → octet (set t at v) p ≡ octet (set s at v) p
set_same s t at v p long e = by_place (ℕ_discrete p at) (dec_lt at (length s))
  where
    by_place : Dec (p ≡ at) → Dec (at < length s) → octet (set t at v) p ≡ octet (set s at v) p
    by_place (yes own) (yes h) =
        ap (octet (set t at v)) own
        ∙ get_or-set_same t at v 0 (omega arith)
        ∙ sym (get_or-set_same s at v 0 h)
        ∙ sym (ap (octet (set s at v)) own)
    by_place (yes own) (no h) = rw (set_out t at v (omega arith), set_out s at v (omega arith)) e
    by_place (no other) h = get_or-set_other t at p v 0 other ∙ e ∙ sym (get_or-set_other s at p v 0 other)

pub stored_same : (stores : List Store) (s t : List ℕ) (p : ℕ) → length t ≡ length s → octet t p ≡ octet s p
    → octet (stored t stores) p ≡ octet (stored s stores) p
unfolding stored
stored_same [] s t p long e = e
stored_same (a ∷ rest) s t p long e =
    stored_same rest (set s a.at a.value) (set t a.at a.value) p
    (length-set t a.at a.value ∙ long ∙ sym (length-set s a.at a.value)) (set_same s t a.at a.value p long e)
