-- A valid image: every entry is kept and stays where it is, so the new image is the old, octet for octet, and there is no line.
-- Assumes nothing.
use mathlib.Core.Path.{◌≡◌, refl, sym, ap, ap₂, ◌∙◌}
use mathlib.Core.Bool.{Bool, true, false, ◌&&◌}
use mathlib.Core.List.{List, [], ◌∷◌, ◌++◌}
use Prim.Native.Nat.{ℕ, zero, suc, ◌+◌, ◌*◌, ◌/◌, ◌%◌, ◌≤◌, ◌<◌}
use native.Mathlib.Decide.{dec_lt}
use native.Mathlib.Nat.{add-zero, add_assoc, zero-add}
use native.Mathlib.Omega.{arith}
use borrow.Author.Tests.{le-leb, lt-ltb, le-ltb, eq-eqb, ne_eqb}
use lib.Dec.{eqb, ltb}
use lib.ListN.{length}
use Rattle.octets.specs.Lists.{octet, part, tab, Octets}
use Rattle.octets.specs.Numbers.{number_at, bytes}
use Rattle.octets.proofs.Alls.{and_right}
use Rattle.octets.proofs.Parts.{tab_self, tab-add}
use Rattle.octets.proofs.Reading.{number_at-two}
use Rattle.octets.proofs.Rules.{length-tab, octet-tab, tab_ext}
use Rattle.bodies.specs.Body.{body_in, body_ok}
use Rattle.image.specs.Image.{version_of, count_of, entry_place, spi_of, position_of, layout, body_at, body_of, part_at, image_size}
use Rattle.image.specs.Image.{entry_ok, valid_image}
use Rattle.image.proofs.ValidImages.{Valid, valid, valid_ruled, spi_rises}
use Rattle.writing.specs.Text.{end_to_end}
use Rattle.writing.proofs.Ends.{end_same, end_empty, end_part}
use Rattle.std.specs.List.{list_any, count_by}
use Rattle.salvage_entries.specs.Kept.{body_there, body_places, keepable, kept_among, kept_entries, is_kept, new_index, old_index}
use Rattle.salvage_entries.proofs.Members.{In, some_if, none-some, in_at, at_in}
use Rattle.salvage_entries.proofs.Ranks.{old_new}
use Rattle.salvage_entries.proofs.TestLaws.{many_last}
use Rattle.salvage_image.specs.Salvage.{new_count, new_place, new_entry, new_body, new_image}
use Rattle.salvage_image.proofs.Sizes.{Taken}
use Rattle.salvage_lines.specs.Lines.{stays, line_of, new_lines}
use Rattle.salvage_lines.proofs.LineParts.{line-none}

-- the first n numbers
abbrev below : ℕ → List ℕ
below n = tab n (λ i. i)

in_below : (n h : ℕ) → In h (below n) → h < n
in_below n h e =
    let a = in_at h (below n) e in
    let inside : a.0 < n = omega (arith, a.1.inside, length-tab n (λ i. i)) in
    omega (arith, sym (octet-tab n (λ i. i) a.0 inside) ∙ a.1.there)

below_in : (n h : ℕ) → h < n → In h (below n)
below_in n h l =
    rw (octet-tab n (λ i. i) h l) at (at_in (below n) h (omega (arith, length-tab n (λ i. i))))

-- of the numbers below n, those below i
many-all : (test : ℕ → Bool) (i n : ℕ) → ((h : ℕ) → h < n → test h ≡ ltb h i) → n ≤ i → count_by test (below n) ≡ n
unfolding tab
many-all test i zero same h = refl
many-all test i (suc n) same h =
    many_last test (below n) n
    ∙ rw (many-all test i n (λ g l. same g (omega arith)) (omega arith), same n (omega arith), lt-ltb n i (omega arith)) (omega arith)

many_below : (test : ℕ → Bool) (i n : ℕ) → ((h : ℕ) → h < n → test h ≡ ltb h i) → i ≤ n → count_by test (below n) ≡ i
unfolding tab
many_below test i zero same h = many-all test i zero same (omega arith) ∙ omega arith
many_below test i (suc n) same h = by_place (dec_lt n i) (λ l. many_below test i n (λ g m. same g (omega arith)) l)
  where
    by_place : Dec (n < i) → (i ≤ n → count_by test (below n) ≡ i) → count_by test (below (suc n)) ≡ i
    by_place (yes m) before = many-all test i (suc n) same (omega arith) ∙ omega arith
    by_place (no g) before =
        many_last test (below n) n ∙ rw (before (omega arith), same n (omega arith), le-ltb n i (omega arith)) (add-zero i)

part-add : (at n k : ℕ) (x : List ℕ) → part at (n + k) x ≡ part at n x ++ part (at + n) k x
unfolding part
part-add at n k x =
    tab-add n k (λ i. octet x (at + i)) ∙ ap (λ (l : List ℕ). part at n x ++ l) (tab_ext k (λ i l. ap (octet x) (sym (add_assoc at n i))))

module _ (x : List ℕ) (ok : Taken x) (passed : valid_image x ≡ true) where
  v : Valid x
  v = valid x passed

  body_ok_lem : (i : ℕ) → i < count_of x → body_ok (version_of x) (body_of x i) ≡ true
  body_ok_lem i h = and_right (entry_ok x i) (body_ok (version_of x) (body_of x i)) (valid_ruled x passed i h)

  place : (i : ℕ) → i < count_of x → position_of x i ≡ 2 + 4 * count_of x + 52 * i
  unfolding body_at
  place i h = (v.entry i h).position ∙ rw (ok.body, ok.extra) (omega arith)

  size : length x ≡ 2 + 56 * count_of x
  unfolding image_size part_at
  size = v.laid.size ∙ rw (ok.body, ok.extra, ok.keys) (omega arith)

  body-there : (i : ℕ) → i < count_of x → body_there x i ≡ body_of x i
  unfolding body_of
  body-there i h = ap (λ (at : ℕ). body_in x (version_of x) at) (v.entry i h).position

  -- ---- every entry is kept

  keeps_it : (n : ℕ) → n < count_of x → keepable x (below n) n ≡ true
  unfolding keepable
  keeps_it n h =
      let spis : list_any (λ g. eqb (spi_of x g) (spi_of x n)) (below n) ≡ false =
      none-some (λ g. eqb (spi_of x g) (spi_of x n)) (below n)
      (λ g i. let l : g < n = in_below n g i in ne_eqb (spi_of x g) (spi_of x n) (λ e. absurd (omega (arith, spi_rises x v g n l h))))
      in
      let free : list_any (λ g. eqb (position_of x g) (position_of x n)) (below n) ≡ false =
      none-some (λ g. eqb (position_of x g) (position_of x n)) (below n)
      (λ g i.
      let l : g < n = in_below n g i in
      ne_eqb (position_of x g) (position_of x n) (λ e. absurd (omega (arith, place g (omega arith), place n h))))
      in
      let there : octet (body_places x) n ≡ body_at x n = octet-tab (count_of x) (body_at x) n h in
      let among : list_any (λ p. eqb p (position_of x n)) (body_places x) ≡ true =
      some_if (λ p. eqb p (position_of x n)) (body_places x) (octet (body_places x) n)
      (at_in (body_places x) n (omega (arith, length-tab (count_of x) (body_at x))))
      (eq-eqb (octet (body_places x) n) (position_of x n) (there ∙ sym (v.entry n h).position))
      in
      rw (
        le-leb (entry_place (n + 1)) (length x) (omega (arith, size)),
        le-leb 1 (spi_of x n) (v.entry n h).spi.0,
        le-leb (spi_of x n) 65534 (v.entry n h).spi.1,
        spis,
        among,
        le-leb (position_of x n + (layout x).body) (length x) (omega (arith, place n h, size, ok.body)),
        free,
        body-there n h,
        body_ok_lem n h,
      )

  kept_of : (n : ℕ) → n ≤ count_of x → kept_among x n ≡ below n
  unfolding kept_among tab
  kept_of zero h = refl
  kept_of (suc n) h =
      let e : kept_among x n ≡ below n = kept_of n (omega arith) in
      rw (e, keeps_it n (omega arith))

  kept-all : kept_entries x ≡ below (count_of x)
  kept-all = kept_of (count_of x) (omega arith)

  same_count : new_count x ≡ count_of x
  same_count = ap (λ (l : List ℕ). length l) kept-all ∙ length-tab (count_of x) (λ i. i)

  is-kept : (i : ℕ) → i < count_of x → is_kept x i ≡ true
  is-kept i h = ap (λ (l : List ℕ). list_any (λ g. eqb g i) l) kept-all ∙ below_in (count_of x) i h

  smaller : (i h : ℕ) → i < count_of x → h < count_of x → ltb (spi_of x h) (spi_of x i) ≡ ltb h i
  smaller i h below-i below-h = by_place (dec_lt h i) (dec_lt i h)
    where
      by_place : Dec (h < i) → Dec (i < h) → ltb (spi_of x h) (spi_of x i) ≡ ltb h i
      by_place (yes l) d = lt-ltb (spi_of x h) (spi_of x i) (spi_rises x v h i l below-i) ∙ sym (lt-ltb h i l)
      by_place (no g) (yes l) =
          le-ltb (spi_of x h) (spi_of x i) (omega (arith, spi_rises x v i h l below-h)) ∙ sym (le-ltb h i (omega arith))
      by_place (no g) (no k) =
          let e : h ≡ i = omega arith in rw e (le-ltb (spi_of x i) (spi_of x i) (omega arith) ∙ sym (le-ltb i i (omega arith)))

  new_index_lem : (i : ℕ) → i < count_of x → new_index x i ≡ i
  new_index_lem i h =
      ap (λ (l : List ℕ). count_by (λ g. ltb (spi_of x g) (spi_of x i)) l) kept-all
      ∙ many_below (λ g. ltb (spi_of x g) (spi_of x i)) i (count_of x) (λ g l. smaller i g h l) (omega arith)

  same_index : (j : ℕ) → j < count_of x → old_index x j ≡ j
  same_index j h = sym (ap (old_index x) (new_index_lem j h)) ∙ old_new x j (is-kept j h)

  same_place : (j : ℕ) → j < count_of x → new_place x j ≡ position_of x j
  same_place j h = rw (ok.body, ok.extra) (omega (arith, same_count, place j h))

  -- ---- the lines

  no_line : (i : ℕ) → i < count_of x → line_of x i ≡ []
  unfolding stays
  no_line i h =
      line-none x i (is-kept i h)
      (ap₂ ◌&&◌ (eq-eqb (new_index x i) i (new_index_lem i h))
      (eq-eqb (new_place x (new_index x i)) (position_of x i) (ap (new_place x) (new_index_lem i h) ∙ same_place i h)))

  pub no_lines : new_lines x ≡ []
  no_lines = end_empty (count_of x) (line_of x) no_line

  -- ---- the octets

  module _ (octets : Octets x) where
    two-octets : (at : ℕ) → bytes 2 (number_at at 2 x) ≡ part at 2 x
    unfolding bytes part tab
    two-octets at =
        let n : number_at at 2 x ≡ octet x at * 256 + octet x (at + 1) = number_at-two at x in
        let high : number_at at 2 x / 256 % 256 ≡ octet x (at + 0) =
        rw (add-zero at) (omega (arith, n, octets at, octets (at + 1)))
        in
        let low : number_at at 2 x / 1 % 256 ≡ octet x (at + 1) = omega (arith, n, octets at, octets (at + 1)) in
        ap₂ (λ (a b : ℕ). a ∷ b ∷ []) high low

    same-entry : (j : ℕ) → j < count_of x → new_entry x j ≡ part (2 + j * 4) 4 x
    unfolding new_entry
    same-entry j h =
        let at : entry_place j ≡ 2 + j * 4 = omega arith in
        ap₂ (λ (s p : ℕ). bytes 2 s ++ bytes 2 p) (ap (spi_of x) (same_index j h)) (same_place j h)
        ∙ ap₂ (λ (a b : List ℕ). a ++ b) (two-octets (entry_place j)) (two-octets (entry_place j + 2))
        ∙ sym (part-add (entry_place j) 2 2 x)
        ∙ ap (λ (p : ℕ). part p 4 x) at

    same_body : (j : ℕ) → j < count_of x → new_body x j ≡ part (2 + count_of x * 4 + j * 52) 52 x
    unfolding new_body body_in
    same_body j h =
        let at : position_of x j ≡ 2 + count_of x * 4 + j * 52 = omega (arith, place j h) in
        ap (body_there x) (same_index j h) ∙ ap₂ (λ (p n : ℕ). part p n x) at ok.body

    same_bodies : end_to_end (new_count x) (new_body x) ≡ part (2 + count_of x * 4) (count_of x * 52) x
    same_bodies =
        ap (λ (n : ℕ). end_to_end n (new_body x)) same_count
        ∙ end_same (count_of x) (new_body x) (λ j. part (2 + count_of x * 4 + j * 52) 52 x) same_body
        ∙ end_part 52 (2 + count_of x * 4) (count_of x) x

    same_contents : end_to_end (new_count x) (new_entry x) ≡ part 2 (count_of x * 4) x
    same_contents =
        ap (λ (n : ℕ). end_to_end n (new_entry x)) same_count
        ∙ end_same (count_of x) (new_entry x) (λ j. part (2 + j * 4) 4 x) same-entry
        ∙ end_part 4 2 (count_of x) x

    -- the first two octets, and those behind them
    first_two : (n : ℕ) → part 0 (2 + n) x ≡ octet x 0 ∷ octet x 1 ∷ part 2 n x
    unfolding part tab
    first_two n = part-add 0 2 n x

    pub same-image : new_image x ≡ x
    unfolding new_image part
    same-image =
        let long : length x ≡ 2 + (count_of x * 4 + count_of x * 52) = omega (arith, size) in
        ap₂ (λ (n : ℕ) (l : List ℕ). version_of x ∷ n ∷ l) same_count
        (ap₂ (λ (a b : List ℕ). a ++ b) same_contents same_bodies ∙ sym (part-add 2 (count_of x * 4) (count_of x * 52) x))
        ∙ sym (first_two (count_of x * 4 + count_of x * 52))
        ∙ ap (λ (n : ℕ). part 0 n x) (sym long)
        ∙ tab_ext (length x) (λ j l. ap (octet x) (zero-add j))
        ∙ tab_self x
