-- What makes a verdict: a refusal is the number that the tests give, the first that applies of those that come first among them; past those
-- the frame is admitted.
-- Assumes nothing.
use Prim.Native.Nat.{ℕ, ◌<◌}
use mathlib.Core.Path.{◌≡◌, sym}
use mathlib.Core.Bool.{Bool, true, false}
use mathlib.Core.List.{List, []}
use native.Mathlib.Omega.{arith}
use Rattle.std.specs.Prelude.{Some, None}
use Rattle.kinds.specs.Kinds.{framed}
use Rattle.kinds.specs.declared.framing.Framing.{Framing}
use Rattle.frame.specs.Closing.{field_ok}
use Rattle.frame.specs.Rules.{obeys}
use Rattle.image.specs.Image.{valid_image}
use Rattle.association.specs.Association.{matching}
use Rattle.numbers.specs.Numbers.{agrees}
use Rattle.association.specs.Search.{entry_for}
use Rattle.association.specs.declared.search.Wanted.{Wanted}
use Rattle.judging.specs.Answers.{number_of, first}
use Rattle.judging.specs.Replies.{seen, front_tests}
use Rattle.judging.specs.Said.{Said, kind_said, no_desk}
use Rattle.judging.specs.Verdicts.{Refuses, Admits}
use Rattle.judging.specs.declared.answers.Refusal.{Refusal}
use Rattle.judging.proofs.Answered.{fronted}

pub refuses : (r : Refusal) (m : ℕ) → 0 < number_of r → m ≡ number_of r → Refuses r m
refuses r m some e = record { answer = sym e; some = omega arith }

-- ---- the tests that come first, one by one

module _ (image last : List ℕ) (w : Wanted) (said : Said) (frame : List ℕ) (secured : Bool) where
  abbrev front : ℕ
  front = first (front_tests (seen image last w) said frame secured)

  module _ (v : valid_image image ≡ true) where
    module _ (a : agrees image last ≡ true) where
      pub by_19 : no_desk said.desk ≡ true → front ≡ 19
      unfolding seen first
      by_19 s = rw (v, a, s)

      module _ (s : no_desk said.desk ≡ false) where
        pub by_3 : obeys (kind_said said) frame secured ≡ false → front ≡ 3
        unfolding seen first
        by_3 o = rw (v, a, s, o)

        module _ (o : obeys (kind_said said) frame secured ≡ true) where
          pub by_12 : field_ok (kind_said said) frame ≡ false → front ≡ 12
          unfolding seen first
          by_12 d = rw (v, a, s, o, d)

          module _ (d : field_ok (kind_said said) frame ≡ true) where
            pub by_4 : entry_for image w ≡ None → front ≡ 4
            unfolding seen matching first
            by_4 n = rw (v, a, s, o, d, n)

            pub admits : (framing : Framing) (e : ℕ) → kind_said said ≡ framed framing → entry_for image w ≡ Some e
                → Admits image last w said secured frame framing e
            unfolding seen matching first
            admits framing e n f = record { answer = rw (v, a, s, o, d, f); kinds = sym n; entry = f }

  pub admitted_obeys : (framing : Framing) (e : ℕ) → Admits image last w said secured frame framing e
      → obeys (framed framing) frame secured ≡ true
  admitted_obeys framing e r = rw r.kinds (fronted (seen image last w) said frame secured [] r.answer).0.rules
