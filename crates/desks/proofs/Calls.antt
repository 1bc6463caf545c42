-- One call in two runs, by what is known of its replies alone. A call that is done touches the body of one entry, or the state of a key; one
-- at an entry that the desk owns is done in both runs with the same stores, and of any other the desk sees nothing. So what the two images
-- have in common for the desk they have in common afterwards, and where the call is cut.
-- Assumes nothing.
use Prim.Native.Nat.{ℕ, ◌≤◌, ◌<◌}
use mathlib.Core.Path.{◌≡◌, refl, sym, ap, ◌∙◌}
use mathlib.Core.List.{List}
use native.Mathlib.Decide.{ℕ_discrete}
use lib.ListN.{length, set, take}
use lib.Seq.{take-length, get_or-set_other}
use Rattle.octets.specs.Lists.{octet}
use Rattle.marks.specs.Stores.{stored}
use Rattle.marks.specs.declared.plans.Store.{Store}
use Rattle.marks.proofs.Made.{length-stored}
use Rattle.judging.specs.Replies.{Reply}
use Rattle.link.specs.Calls.{left, cut}
use Rattle.link.proofs.Leaving.{left-done, left-refused, cut-done, cut-refused}
use Rattle.promises.specs.Images.{version_in, count_in, part_place, owner_at, last_at}
use Rattle.desks.proofs.Shared.{Framed, common_back, Same, Near, near_itself, framed, same-framed, same_then, Touches, touched_framed, touched_near, set_same, stored_same}

-- ---- what a call that is done does: at entry e, for which E holds, or at none, where no number changes

pub data Acts (s l : List ℕ) (E : ℕ → Type 0) (q : Reply) : Type 0 where
  at : (e : ℕ) → e < count_in s → E e → q.entry ≡ e → ((j : ℕ) → Touches s e (stored s (take j q.stores))) → Acts s l E q
  aside : ((j p : ℕ) → p < part_place s → octet (stored s (take j q.stores)) p ≡ octet s p) → set l q.entry q.number ≡ l → Acts s l E q

-- the same in both
pub record Twin (q r : Reply) : Type 0 where
  pub answer : r.answer ≡ q.answer
  pub entry : r.entry ≡ q.entry
  pub number : r.number ≡ q.number
  pub stores : r.stores ≡ q.stores

-- ---- one run

-- none of it is the desk's
pub record Beside (d : ℕ) (s l : List ℕ) (q : Reply) : Type 0 where
  pub whole : (output : List ℕ) → Near d s (left q s l output).image
  pub short : (j : ℕ) → Near d s (cut q s j)
  pub numbers : (output : List ℕ) (i : ℕ) → i < count_in s → owner_at s i ≡ d → last_at (left q s l output).numbers i ≡ last_at l i

-- or it is done at an entry of the desk's
pub data Kind (d : ℕ) (s l : List ℕ) (E : ℕ → Type 0) (q : Reply) : Type 0 where
  own : q.answer ≡ 0 → (e : ℕ) → e < count_in s → E e → owner_at s e ≡ d → Kind d s l E q
  beside : Beside d s l q → Kind d s l E q

module _ (d : ℕ) (s l : List ℕ) (four : version_in s ≡ 4) (E : ℕ → Type 0) (q : Reply) (acts : q.answer ≡ 0 → Acts s l E q) where
  near_aside : ((j p : ℕ) → p < part_place s → octet (stored s (take j q.stores)) p ≡ octet s p)
      → (j : ℕ) → Near d s (stored s (take j q.stores))
  near_aside same j = record { size = length-stored s (take j q.stores); octets = λ p c b. same j p b }

  -- done, with stores of which the desk sees nothing
  done-beside : q.answer ≡ 0 → ((j : ℕ) → Near d s (stored s (take j q.stores)))
      → ((i : ℕ) → i < count_in s → owner_at s i ≡ d → last_at (set l q.entry q.number) i ≡ last_at l i) → Beside d s l q
  done-beside z near kept =
      record {
        whole = λ output. rw (left-done q s l output z) (rw (take-length q.stores) at (near (length q.stores)));
        short = λ j. rw (cut-done q s j z) (near j);
        numbers = λ output i below own. rw (left-done q s l output z) (kept i below own);
      }

  refused-beside : (q.answer ≡ 0 → ⊥) → Beside d s l q
  refused-beside z =
      record {
        whole = λ output. rw (left-refused q s l output z) (near_itself d s);
        short = λ j. rw (cut-refused q s j z) (near_itself d s);
        numbers = λ output i below own. rw (left-refused q s l output z) refl;
      }

  pub kind : Kind d s l E q
  kind = by_answer (ℕ_discrete q.answer 0)
    where
      by-owner : (z : q.answer ≡ 0) (e : ℕ) → e < count_in s → E e → q.entry ≡ e → ((j : ℕ) → Touches s e (stored s (take j q.stores)))
          → Dec (owner_at s e ≡ d) → Kind d s l E q
      by-owner z e below ev entry touches (yes mine) = own z e below ev mine
      by-owner z e below ev entry touches (no other) =
          beside
          (done-beside z (λ j. touched_near d s e _ below other (touches j))
          (λ i h mine.
          get_or-set_other l q.entry i q.number 0 (λ is. other (ap (owner_at s) (sym entry ∙ sym is) ∙ mine))))

      by_acts : (z : q.answer ≡ 0) → Acts s l E q → Kind d s l E q
      by_acts z (at e below ev entry touches) = by-owner z e below ev entry touches (ℕ_discrete (owner_at s e) d)
      by_acts z (aside same stays) =
          beside (done-beside z (near_aside same) (λ i h mine. ap (λ (n : List ℕ). last_at n i) stays))

      by_answer : Dec (q.answer ≡ 0) → Kind d s l E q
      by_answer (yes z) = by_acts z (acts z)
      by_answer (no z) = beside (refused-beside z)

  -- what stays while it is done
  pub stays : q.answer ≡ 0 → (j : ℕ) → Framed s (stored s (take j q.stores))
  stays z j = by_acts (acts z)
    where
      by_acts : Acts s l E q → Framed s (stored s (take j q.stores))
      by_acts (at e below ev entry touches) = touched_framed s e _ four (touches j)
      by_acts (aside same kept) = framed d s _ four (near_aside same j)

-- ---- two runs

-- two whole calls, and two that are cut
pub record Together (d : ℕ) (s l t r : List ℕ) (q u : Reply) : Type 0 where
  pub stays : (output : List ℕ) → Framed s (left q s l output).image
  pub whole : (output : List ℕ)
      → ((p : ℕ) → part_place (left q s l output).image ≤ p → octet (left u t r output).image p ≡ octet (left q s l output).image p)
      → Same d (left q s l output).image (left u t r output).image
  pub short : (j : ℕ) → ((p : ℕ) → part_place (cut q s j) ≤ p → octet (cut u t j) p ≡ octet (cut q s j) p) → Same d (cut q s j) (cut u t j)
  pub numbers : (output : List ℕ) (i : ℕ) → i < count_in s → owner_at s i ≡ d
      → last_at (left u t r output).numbers i ≡ last_at (left q s l output).numbers i

module _ (d : ℕ) (s l t r : List ℕ) (four : version_in s ≡ 4) (later : version_in t ≡ 4) (same : Same d s t) (long : length r ≡ length l)
    (numbers : (i : ℕ) → i < count_in s → owner_at s i ≡ d → last_at r i ≡ last_at l i)
    (E F : ℕ → Type 0)
    (q u : Reply)
    (acts : q.answer ≡ 0 → Acts s l E q)
    (acts-there : u.answer ≡ 0 → Acts t r F u)
    (twin : q.answer ≡ 0 → (e : ℕ) → e < count_in s → E e → owner_at s e ≡ d → Twin q u)
    (twin-there : u.answer ≡ 0 → (e : ℕ) → e < count_in t → F e → owner_at t e ≡ d → Twin q u) where
  -- with the same stores
  stored-alike : (z : q.answer ≡ 0) (j : ℕ) → Same d (stored s (take j q.stores)) (stored t (take j q.stores))
  stored-alike z j =
      let stores : List Store = take j q.stores in
      record {
        size = length-stored t stores ∙ same.size ∙ sym (length-stored s stores);
        octets = λ p c.
            stored_same stores s t p same.size (same.octets p (common_back (stays d s l four E q acts z j) d p c));
      }

  by_twin : q.answer ≡ 0 → Twin q u → Together d s l t r q u
  by_twin z w =
      let y : u.answer ≡ 0 = w.answer ∙ z in
      record {
        stays = λ output.
            rw (left-done q s l output z) (rw (take-length q.stores) at (stays d s l four E q acts z (length q.stores)));
        whole = λ output keys.
            rw (left-done q s l output z, left-done u t r output y, w.stores)
            (rw (take-length q.stores) at (stored-alike z (length q.stores)));
        short = λ j keys. rw (cut-done q s j z, cut-done u t j y, w.stores) (stored-alike z j);
        numbers = λ output i below own.
            rw (left-done q s l output z, left-done u t r output y, w.entry, w.number)
            (set_same l r q.entry q.number i long (numbers i below own));
      }

  f : Framed s t
  f = same-framed d s t four same

  pub together : Together d s l t r q u
  together = by_kind (kind d s l four E q acts) (kind d t r later F u acts-there)
    where
      by_kind : Kind d s l E q → Kind d t r F u → Together d s l t r q u
      by_kind (own z e below ev mine) k = by_twin z (twin z e below ev mine)
      by_kind (beside b) (own z e below ev mine) =
          let w = twin-there z e below ev mine in by_twin (sym w.answer ∙ z) w
      by_kind (beside b) (beside c) =
          record {
            stays = λ output. framed d s _ four (b.whole output);
            whole = λ output keys. same_then d s t _ _ four same (b.whole output) (c.whole output) keys;
            short = λ j keys. same_then d s t _ _ four same (b.short j) (c.short j) keys;
            numbers = λ output i below own.
                c.numbers output i (rw f.count below) (f.owner i below ∙ own) ∙ numbers i below own ∙ sym (b.numbers output i below own);
          }
