-- No check is answered by 9: every test has another number.
-- Assumes nothing.
use Prim.Native.Nat.{ℕ}
use mathlib.Core.Path.{◌≡◌, sym, ◌∙◌}
use mathlib.Core.Bool.{Bool, true, false}
use mathlib.Core.List.{List, [], ◌∷◌}
use native.Mathlib.Omega.{arith}
use lib.ListN.{length}
use Rattle.judging.specs.Answers.{Test, first}
use Rattle.judging.specs.Wants.{checking_wants}
use Rattle.link.specs.Calls.{comparison, checking_reply, checked_as, checked}
use Rattle.judging.specs.Replies.{seen, checking_tests, checking}
use Rattle.link.proofs.Leaving.{left-answer}
use Rattle.promises.specs.NoPadding.{NeverNine}

-- no test of a list gives a number that is none of theirs
data Without (n : ℕ) : List Test → Type 0 where
  none : Without n []
  other : (m : ℕ) (b : Bool) {ts : List Test} → (m ≡ n → ⊥) → Without n ts → Without n ((m, b) ∷ ts)

given-not : (n : ℕ) (ts : List Test) → (0 ≡ n → ⊥) → Without n ts → first ts ≡ n → ⊥
unfolding first
given-not n [] some none e = some e
given-not n (t ∷ ts) some (other m true apart rest) e = apart e
given-not n (t ∷ ts) some (other m false apart rest) e = given-not n ts some rest e

pub never_nine : NeverNine
unfolding checked checked_as checking_reply checking checking_tests
never_nine =
    record {
      checking = λ image numbers said frame output nine.
          let right = comparison image numbers said frame in
          let reply = checking_reply right image numbers said frame (length output) in
          given-not 9 (checking_tests (seen image numbers (checking_wants said frame)) right said frame (length output)) (λ e. omega arith)
          (other 1 _ (λ e. omega arith)
          (other 2 _ (λ e. omega arith)
          (other 19 _ (λ e. omega arith)
          (other 3 _ (λ e. omega arith)
          (other 12 _ (λ e. omega arith)
          (other 4 _ (λ e. omega arith)
          (other 5 _ (λ e. omega arith)
          (other 6 _ (λ e. omega arith)
          (other 7 _ (λ e. omega arith)
          (other 8 _ (λ e. omega arith)
          none))))))))))
          (sym (left-answer reply image numbers output) ∙ nine);
    }
