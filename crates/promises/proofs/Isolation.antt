-- Other projects' bodies change nothing: of an image and its numbers a reply uses whether they are in good standing and, of the association
-- that matches, what it holds, its number and its mark; and what a call reports and hands out is its reply.
-- Assumes nothing.
use Prim.Native.Nat.{ℕ, ◌-◌, ◌/◌, ◌<◌}
use mathlib.Core.Path.{◌≡◌, refl, sym, ap, ◌∙◌}
use mathlib.Core.Bool.{Bool, true, false, true≢false}
use mathlib.Core.List.{List}
use native.Mathlib.Decide.{ℕ_discrete}
use lib.ListN.{length}
use Rattle.std.specs.Prelude.{Some}
use Rattle.octets.proofs.Parts.{length_part}
use Rattle.association.specs.Association.{naming_of, association_of, held, held_in, is_none, the_one, matching, index_of}
use Rattle.numbers.specs.Numbers.{agrees}
use Rattle.bodies.specs.Layout.{layout_of}
use Rattle.image.specs.Image.{version_of, count_of, body_of, key_of, valid_image, mark_in}
use Rattle.association.specs.Search.{matches, entry_for}
use Rattle.numbers.specs.Stores.{stores_for}
use Rattle.association.specs.declared.search.Wanted.{Wanted}
use Rattle.association.proofs.Finding.{found-matching}
use Rattle.image.proofs.ValidImages.{valid}
use Rattle.judging.specs.Wants.{wanted}
use Rattle.link.specs.Calls.{left, securing_reply, securing_entry, secured}
use Rattle.link.specs.Calls.{comparison, checking_reply, checking_entry, checked_as, checked}
use Rattle.protection.specs.Protection.{spi_in, mac_right}
use Rattle.judging.specs.Replies.{Seen, seen, Decision, raising, securing_tests, securing, checking_tests, checking}
use Rattle.judging.specs.Said.{Said, kind_said}
use Rattle.judging.proofs.Answered.{secures, checks, securing-size, checking-size}
use Rattle.link.proofs.Leaving.{left-done, left-refused, handed-result}
use Rattle.link.proofs.Carried.{counted}
use Rattle.judging.proofs.Searches.{none_found}
use Rattle.promises.specs.Images.{shape_in, spi_at, place, whole_body_at, Serves}
use Rattle.promises.specs.Isolation.{Standing, SameEntry, both, neither, SameAnswer, Isolation}
use Rattle.promises.proofs.Fields.{Shapes, shapes, body_is, key-at, naming-at}
use Rattle.promises.proofs.Readings.{spi_on_lem}
use Rattle.promises.proofs.Valids.{rules-valid, agreement_tested, serving, served}

-- ---- one decision, carried out at any two entries of any two images, with as many stores

same_left : (x : Decision) (d e : ℕ) (s l o t r p : List ℕ) → (x.answer ≡ 0 → length x.result ≡ x.size)
    → (x.answer ≡ 0 → length (stores_for s d x.number) ≡ length (stores_for t e x.number))
    → SameAnswer (left (raising s d x) s l o) (left (raising t e x) t r p)
same_left x d e s l o t r p long count = by_answer (ℕ_discrete x.answer 0)
  where
    by_answer : Dec (x.answer ≡ 0) → SameAnswer (left (raising s d x) s l o) (left (raising t e x) t r p)
    by_answer (yes z) =
        rw (left-done (raising s d x) s l o z, left-done (raising t e x) t r p z)
        (record {
          answer = refl;
          size = refl;
          stores = count z;
          result = handed-result (raising s d x) s l o (long z) ∙ sym (handed-result (raising t e x) t r p (long z));
        })
    by_answer (no z) =
        rw (left-refused (raising s d x) s l o z, left-refused (raising t e x) t r p z)
        (record { answer = refl; size = refl; stores = refl; result = refl })

-- ---- what a decision reads of the association that matches: what it holds, and its number

pub record Alike (x y : Seen) : Type 0 where
  pub valid : x.valid ≡ y.valid
  pub agree : x.agree ≡ y.agree
  pub none : is_none x.found ≡ is_none y.found
  pub held : held_in (the_one x.found) ≡ held_in (the_one y.found)
  pub number : (the_one x.found).number ≡ (the_one y.found).number

pub securing-alike : (x y : Seen) (said : Said) (spi : ℕ) (frame : List ℕ) (room : ℕ) → Alike x y
    → securing x said spi frame room ≡ securing y said spi frame room
unfolding securing securing_tests
securing-alike x y said spi frame room a = cc

pub checking-alike : (x y : Seen) (right : Bool) (said : Said) (frame : List ℕ) (room : ℕ) → Alike x y
    → checking x right said frame room ≡ checking y right said frame room
unfolding checking checking_tests
checking-alike x y right said frame room a = cc

-- ---- the same octets of a body are the same mark, whatever the version; and what names the association is the same

module _ (s t : List ℕ) (i j : ℕ) (body : whole_body_at s i ≡ whole_body_at t j) where
  abbrev here : Shapes (shape_in s) (layout_of (version_of s))
  here = shapes (version_of s)

  abbrev there : Shapes (shape_in t) (layout_of (version_of t))
  there = shapes (version_of t)

  same_body : body_of s i ≡ body_of t j
  same_body = body_is s i ∙ body ∙ sym (body_is t j)

  same_size : (shape_in s).body ≡ (shape_in t).body
  same_size = sym (length_part (place s i 0) (shape_in s).body s) ∙ ap length body ∙ length_part (place t j 0) (shape_in t).body t

  pub same-mark : mark_in s i ≡ mark_in t j
  unfolding mark_in
  same-mark = cc (same_body, here.mark, there.mark, here.tail, there.tail, same_size)

  same-naming : spi_at s i ≡ spi_at t j → naming_of s i ≡ naming_of t j
  same-naming spi = cc (naming-at s i, naming-at t j, here.short, there.short, same_size, spi)

-- ---- the two images show a call the same

module _ (s l t r : List ℕ) (here : Standing s l) (there : Standing t r) (direction : ℕ) (said : Said) (spi : ℕ) (frame : List ℕ) where
  abbrev w : Wanted
  w = wanted spi direction said frame

  tested : (image numbers : List ℕ) → Standing image numbers → valid_image image ≡ true
  tested image numbers g = rules-valid image g.octets g.valid

  pub entry_of : (image numbers : List ℕ) → Standing image numbers → (i : ℕ) → Serves image direction said spi frame i
      → entry_for image w ≡ Some i
  entry_of image numbers g i serves =
      found-matching image (valid image (tested image numbers g)) w i serves.entry (served image direction said spi frame i serves)

  fails : (image : List ℕ) → ((i : ℕ) → Serves image direction said spi frame i → ⊥)
      → (i : ℕ) → i < count_of image → matches image w i ≡ false
  fails image nobody i below = by_test (matches image w i) refl
    where
      by_test : (b : Bool) → matches image w i ≡ b → b ≡ false
      by_test true e = absurd (nobody i (serving image direction said spi frame i below e))
      by_test false e = refl

  pub same_seen : SameEntry s l t r direction said spi frame → Alike (seen s l w) (seen t r w)
  unfolding seen matching association_of held
  same_seen same = by-entry same (tested s l here ∙ sym (tested t r there))
      (agreement_tested s l here.octets here.agree ∙ sym (agreement_tested t r there.octets there.agree))
    where
      by-entry : SameEntry s l t r direction said spi frame → valid_image s ≡ valid_image t → agrees s l ≡ agrees t r → Alike (seen s l w) (seen t r w)
      by-entry (both i j a b body key number) v g =
          let keys : key_of s i ≡ key_of t j = key-at s i ∙ key ∙ sym (key-at t j) in
          rw (entry_of s l here i a, entry_of t r there j b)
          (record {
            valid = v;
            agree = g;
            none = refl;
            held = cc (same_body s t i j body, keys, same-naming s t i j body (a.spis ∙ sym b.spis));
            number = number;
          })
      by-entry (neither a b) v g =
          let x : matching s l w ≡ matching t r w = none_found s l w (fails s a) ∙ sym (none_found t r w (fails t b)) in
          rw x (record { valid = v; agree = g; none = refl; held = refl; number = refl })

  -- an entry that is found in both has as many stores in both
  abbrev at : List ℕ → ℕ
  at image = index_of (entry_for image w)

  same_count : SameEntry s l t r direction said spi frame → is_none (seen t r w).found ≡ false
      → (n : ℕ) → length (stores_for s (at s) n) ≡ length (stores_for t (at t) n)
  unfolding seen
  same_count (both i j a b body key number) some n =
      rw (entry_of s l here i a, entry_of t r there j b)
      (counted s i n (tested s l here) a.entry
      ∙ ap (λ (m : ℕ). n / 64 - m) (same-mark s t i j body)
      ∙ sym (counted t j n (tested t r there) b.entry))
  same_count (neither a b) some n = absurd (true≢false (ap is_none (sym (none_found t r w (fails t b))) ∙ some))

-- ---- sending and checking

pub isolation : Isolation
unfolding secured securing_reply checked checked_as checking_reply comparison
isolation =
    record {
      sending = λ s l t r said spi frame o p here there long same.
          let w = wanted spi 1 said frame in
          let see = seen t r w in
          let alike = same_seen s l t r here there 1 said spi frame same in
          let x = securing see said spi frame (length p) in
          rw (long, securing-alike (seen s l w) see said spi frame (length p) alike)
          (same_left x (securing_entry s said spi frame) (securing_entry t said spi frame) s l o t r p
          (securing-size see said spi frame (length p))
          (λ z. same_count s l t r here there 1 said spi frame same (secures see said spi frame (length p) z).front.found x.number));
      checking = λ s l t r said frame o p here there long same.
          let spi = spi_in (kind_said said) frame in
          let w = wanted spi 2 said frame in
          let see = seen t r w in
          let entry : SameEntry s l t r 2 said spi frame = rw (spi_on_lem said frame) at same in
          let alike = same_seen s l t r here there 2 said spi frame entry in
          let right = mac_right (held_in (the_one see.found)) (kind_said said) frame in
          let x = checking see right said frame (length p) in
          rw (long, alike.held, checking-alike (seen s l w) see right said frame (length p) alike)
          (same_left x (checking_entry s said frame) (checking_entry t said frame) s l o t r p
          (λ z. checking-size see right said frame (length p))
          (λ z. same_count s l t r here there 2 said spi frame entry (checks see right said frame (length p) z).front.found x.number));
    }
