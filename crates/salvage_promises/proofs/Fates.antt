-- What becomes of each entry: it is kept at its new index, or dropped. Each fact of the account is one of the definition's tests, read in the
-- octets of the input or of the new image.
-- Assumes nothing.
use mathlib.Core.Path.{◌≡◌, refl, sym, ap, ap₂, ◌∙◌}
use mathlib.Core.Bool.{Bool, true, false, cond, not, ◌&&◌}
use mathlib.Core.List.{List}
use Prim.Native.Nat.{ℕ, ◌+◌, ◌≤◌, ◌<◌}
use native.Mathlib.Omega.{arith}
use native.Mathlib.Nat.{add-zero}
use borrow.Author.Tests.{leb-true, ltb-true, eqb-true, eqb-false, le-leb, lt-ltb, eq-eqb, ne_eqb, not-true}
use lib.Dec.{eqb, ltb}
use lib.ListN.{length}
use Rattle.octets.specs.Lists.{octet, part, Octets}
use Rattle.octets.specs.Numbers.{number_at}
use Rattle.octets.proofs.Alls.{and_left, and_right}
use Rattle.octets.proofs.Numbers.{number_at-part}
use Rattle.octets.proofs.Rules.{length-tab, octet-tab}
use Rattle.bodies.specs.Body.{body_in, body_ok}
use Rattle.bodies.specs.Layout.{layout_of}
use Rattle.bodies.proofs.ValidBodies.{valid-body}
use Rattle.image.specs.Image.{version_of, count_of, entry_place, spi_of, position_of, layout, body_at, body_of}
use Rattle.writing.proofs.Ends.{end_same}
use Rattle.salvage_entries.specs.Tests.{first_with}
use Rattle.std.specs.List.{list_any}
use Rattle.salvage_entries.specs.Kept.{body_there, body_places, keepable, kept_among, is_kept, new_index, old_index}
use Rattle.salvage_entries.proofs.KeptLaws.{in_order, kept-before, kept_then}
use Rattle.salvage_entries.proofs.Members.{In, some_if, some_false, none-some, in_at, at_in, first_passes}
use Rattle.salvage_entries.proofs.Ranks.{new_inside, old_new, old_kept, new_old}
use Rattle.salvage_image.specs.Salvage.{new_count, new_image}
use Rattle.salvage_image.proofs.Sizes.{Taken}
use Rattle.salvage_lines.specs.Lines.{line_about, stays, line_of, new_lines}
use Rattle.promises.specs.Images.{shape_in, place, mark_place, whole_body_at}
use Rattle.promises.proofs.Fields.{shapes, stands, body_is}
use Rattle.promises.proofs.Valids.{body-rules, body_ok_lem}
use Rattle.salvage_promises.specs.Salvaging.{Fate, dropped, kept_as, Keepable, KeptAs, line_for, Account}
use Rattle.salvage_promises.proofs.Afresh.{new_version, new_count_lem, new_spi, new_position, new_body_lem}

abbrev pub fate_of : List ℕ → ℕ → Fate
fate_of x i = cond (is_kept x i) (kept_as (new_index x i)) dropped

module _ (x : List ℕ) where
  kept_fate : (i : ℕ) → is_kept x i ≡ true → fate_of x i ≡ kept_as (new_index x i)
  kept_fate i k = rw k

  pub fate_kept : (i j : ℕ) → fate_of x i ≡ kept_as j → (is_kept x i ≡ true) × (new_index x i ≡ j)
  fate_kept i j e = by_test (is_kept x i) refl e
    where
      by_test : (t : Bool) → is_kept x i ≡ t → cond t (kept_as (new_index x i)) dropped ≡ kept_as j → (is_kept x i ≡ true) × (new_index x i ≡ j)
      by_test true k f = (k, cc)
      by_test false k f = let z : ◌≡◌ {A = ℕ} 0 1 = cc in absurd (omega arith)

module _ (x : List ℕ) (octets : Octets x) (ok : Taken x) where
  body-at : (t : ℕ) → body_at x t ≡ place x t 0
  body-at t = sym (add-zero (body_at x t)) ∙ stands x t 0

  there : (i t : ℕ) → position_of x i ≡ place x t 0 → body_there x i ≡ body_of x t
  unfolding body_of
  there i t e = ap (λ (at : ℕ). body_in x (version_of x) at) (e ∙ sym (body-at t))

  -- ---- an entry that may be kept is

  may_keep : (i : ℕ) → i < count_of x → Keepable x (fate_of x) i → keepable x (kept_among x i) i ≡ true
  unfolding keepable
  may_keep i h k =
      let t = k.place.0 in
      let at : position_of x i ≡ place x t 0 = k.place.2 in
      let spis : list_any (λ g. eqb (spi_of x g) (spi_of x i)) (kept_among x i) ≡ false =
      none-some (λ g. eqb (spi_of x g) (spi_of x i)) (kept_among x i)
      (λ g m.
      let b = kept-before x i g (omega arith) m in
      ne_eqb (spi_of x g) (spi_of x i) (k.spi_new g (new_index x g) b.0 (kept_fate x g b.1)))
      in
      let free : list_any (λ g. eqb (position_of x g) (position_of x i)) (kept_among x i) ≡ false =
      none-some (λ g. eqb (position_of x g) (position_of x i)) (kept_among x i)
      (λ g m.
      let b = kept-before x i g (omega arith) m in
      ne_eqb (position_of x g) (position_of x i) (k.place_free g (new_index x g) b.0 (kept_fate x g b.1)))
      in
      let which : octet (body_places x) t ≡ body_at x t = octet-tab (count_of x) (body_at x) t k.place.1 in
      let among : list_any (λ p. eqb p (position_of x i)) (body_places x) ≡ true =
      some_if (λ p. eqb p (position_of x i)) (body_places x) (octet (body_places x) t)
      (at_in (body_places x) t (omega (arith, length-tab (count_of x) (body_at x), k.place.1)))
      (eq-eqb (octet (body_places x) t) (position_of x i) (which ∙ body-at t ∙ sym at))
      in
      rw (
        le-leb (entry_place (i + 1)) (length x) (omega (arith, k.whole)),
        le-leb 1 (spi_of x i) k.spi.0,
        le-leb (spi_of x i) 65534 k.spi.1,
        spis,
        among,
        le-leb (position_of x i + (layout x).body) (length x) (omega (arith, at, ok.body, k.place.3)),
        free,
        there i t at,
        body_ok_lem x octets t k.place.4,
      )

  -- ---- and one that is kept might be

  asked_of : (i : ℕ) → is_kept x i ≡ true → (i < count_of x) × (keepable x (kept_among x i) i ≡ true)
  asked_of i k =
      let both : (ltb i (count_of x) && keepable x (kept_among x i) i) ≡ true = sym (in_order x i) ∙ k in (
        ltb-true i (count_of x) (and_left (ltb i (count_of x)) (keepable x (kept_among x i) i) both),
        and_right (ltb i (count_of x)) (keepable x (kept_among x i) i) both,
      )

  -- the place of a body where the entry's position is
  at_place : (i : ℕ) → list_any (λ p. eqb p (position_of x i)) (body_places x) ≡ true
      → (t : ℕ) × (t < count_of x) × (position_of x i ≡ place x t 0)
  at_place i e =
      let f = first_passes (λ p. eqb p (position_of x i)) (body_places x) e in
      let p : ℕ = first_with (λ p. eqb p (position_of x i)) (body_places x) in
      let a = in_at p (body_places x) f.1 in
      let inside : a.0 < count_of x = omega (arith, a.1.inside, length-tab (count_of x) (body_at x)) in (
        a.0,
        inside,
        sym (eqb-true p (position_of x i) f.0) ∙ sym a.1.there ∙ octet-tab (count_of x) (body_at x) a.0 inside ∙ body-at a.0,
      )

  was_asked : (i : ℕ) → keepable x (kept_among x i) i ≡ true → i < count_of x → Keepable x (fate_of x) i
  unfolding keepable
  was_asked i e h =
      let t = at_place i (search (and_left, and_right) depth 9) in
      let inside : position_of x i + (layout x).body ≤ length x =
      leb-true (position_of x i + (layout x).body) (length x) (search (and_left, and_right) depth 9)
      in
      let rules : body_ok (version_of x) (body_there x i) ≡ true = search (and_left, and_right) depth 9 in
      let free : not (list_any (λ g. eqb (position_of x g) (position_of x i)) (kept_among x i)) ≡ true = search (and_left, and_right) depth 9 in
      let alone : not (list_any (λ g. eqb (spi_of x g) (spi_of x i)) (kept_among x i)) ≡ true = search (and_left, and_right) depth 9 in
      let others : (g j : ℕ) → g < i → fate_of x g ≡ kept_as j → In g (kept_among x i) = λ g j l f. kept_then x i g l (fate_kept x g j f).0 in
      record {
        whole = omega (arith, leb-true (entry_place (i + 1)) (length x) (search (and_left, and_right) depth 9));
        spi = (leb-true 1 (spi_of x i) (search (and_left, and_right) depth 9), leb-true (spi_of x i) 65534 (search (and_left, and_right) depth 9));
        spi_new = λ g j l f.
            eqb-false (spi_of x g) (spi_of x i)
            (some_false (λ n. eqb (spi_of x n) (spi_of x i)) (kept_among x i) g (not-true _ alone) (others g j l f));
        place = (
          t.0,
          t.1,
          t.2,
          omega (arith, t.2, inside, ok.body),
          body-rules x octets t.0 (valid-body (version_of x) (body_of x t.0) (rw (there i t.0 t.2) at rules)),
        );
        place_free = λ g j l f.
            eqb-false (position_of x g) (position_of x i)
            (some_false (λ n. eqb (position_of x n) (position_of x i)) (kept_among x i) g (not-true _ free) (others g j l f));
      }

  -- ---- in the new image

  kept_as_lem : (i : ℕ) → is_kept x i ≡ true → KeptAs x i (new_image x) (new_index x i)
  unfolding body_in
  kept_as_lem i k =
      let j = new_index x i in
      let inside : j < new_count x = new_inside x i k in
      let body : whole_body_at (new_image x) j ≡ part (position_of x i) 52 x =
      sym (body_is (new_image x) j)
      ∙ new_body_lem x ok j inside
      ∙ ap (body_there x) (old_new x i k)
      ∙ ap (λ (n : ℕ). part (position_of x i) n x) ok.body
      in
      record {
        entry = rw (new_count_lem x ok) inside;
        spi = new_spi x ok j inside ∙ ap (spi_of x) (old_new x i k);
        body = body;
        mark =
            let n = (shape_in (new_image x)).body in
            let s = shapes (version_of (new_image x)) in
            let long : n ≡ 52 = sym s.body ∙ ap (λ (v : ℕ). (layout_of v).body) (new_version x ok) ∙ ok.body in
            let marked : (shape_in (new_image x)).mark ≡ 48 = s.tail ∙ rw long refl in
            let here : mark_place (new_image x) j ≡ place (new_image x) j 0 + 48 = omega (arith, marked) in
            ap (λ (at : ℕ). number_at at 4 (new_image x)) here
            ∙ sym (number_at-part (place (new_image x) j 0) n 48 4 (new_image x) (omega (arith, long)))
            ∙ ap (λ (b : List ℕ). number_at 48 4 b) body
            ∙ number_at-part (position_of x i) 52 48 4 x (omega arith);
      }

  line-is : (i : ℕ) → line_of x i ≡ line_for x (new_image x) i (fate_of x i)
  unfolding line_of line_for stays line_about
  line-is i = by_test (is_kept x i) refl
    where
      by_test : (t : Bool) → is_kept x i ≡ t → line_of x i ≡ line_for x (new_image x) i (fate_of x i)
      by_test true k = rw (k, new_position x ok (new_index x i) (new_inside x i k))
      by_test false k = rw k

  pub accounted : Account x (new_image x) (new_lines x) (fate_of x)
  accounted =
      record {
        keeps = λ i h k.
            (new_index x i, kept_fate x i (in_order x i ∙ ap₂ ◌&&◌ (lt-ltb i (count_of x) h) (may_keep i h k)));
        asked = λ i j f.
            let a = asked_of i (fate_kept x i j f).0 in
            (a.0, was_asked i a.1 a.0);
        kept = λ i j f.
            let k = fate_kept x i j f in
            rw k.1 at (kept_as_lem i k.0);
        from = λ j h.
            let inside : j < new_count x = rw (new_count_lem x ok) at h in
            (old_index x j, kept_fate x (old_index x j) (old_kept x j inside) ∙ ap kept_as (new_old x j inside));
        lines = end_same (count_of x) (line_of x) (λ i. line_for x (new_image x) i (fate_of x i)) (λ i l. line-is i);
      }
