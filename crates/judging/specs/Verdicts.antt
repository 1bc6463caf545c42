-- What the judging functions find, for their contracts: a refusal, the framing and the entry of a frame that is admitted, and a grant. No
-- definition of a call cites this file, and no promise does.
-- Assumes nothing.
use Rattle.std.specs.Prelude.{ℕ, ◌+◌, ◌<◌, ◌≡◌, Bool, List, Some, Result, Ok, Err}
use Rattle.kinds.specs.Kinds.{Kind, framed}
use Rattle.kinds.specs.declared.framing.Framing.{Framing}
use Rattle.marks.specs.Stores.{stores_of}
use Rattle.marks.specs.declared.plans.Store.{Store}
use Rattle.association.specs.Search.{entry_for}
use Rattle.numbers.specs.Stores.{stores_for}
use Rattle.association.specs.declared.held.Held.{Held}
use Rattle.association.specs.declared.search.Wanted.{Wanted}
use Rattle.protection.specs.Protection.{secured_length, number_in, mac_right, clear_length}
use Rattle.judging.specs.Answers.{number_of, first}
use Rattle.judging.specs.Replies.{seen, Reply, front_tests, sending_tests, receiving_tests}
use Rattle.judging.specs.Said.{Said, kind_said}
use Rattle.judging.specs.declared.answers.Refusal.{Refusal}
use Rattle.judging.specs.declared.verdict.Admission.{Admission}
use Rattle.judging.specs.declared.verdict.Grant.{Grant}

pub record Refuses (r : Refusal) (n : ℕ) : Type 0 where
  pub answer : number_of r ≡ n
  pub some : 0 < n

-- ---- past the tests that come first: the frame's framing, and the entry that it matches

pub record Admits (image last : List ℕ) (w : Wanted) (said : Said) (secured : Bool) (frame : List ℕ) (framing : Framing) (e : ℕ) : Type 0 where
  pub answer : first (front_tests (seen image last w) said frame secured) ≡ 0
  pub kinds : framed framing ≡ kind_said said
  pub entry : entry_for image w ≡ Some e

abbrev pub Admitted : Result Admission Refusal → List ℕ → List ℕ → Wanted → Said → Bool → List ℕ → Type 0
Admitted (Ok a) image last w said secured frame = Admits image last w said secured frame a.framing a.entry
Admitted (Err r) image last w said secured frame =
    Refuses r (first (front_tests (seen image last w) said frame secured))

-- ---- a call judged: the reply but for its result

pub record Judgement : Type 0 where
  pub answer : ℕ
  pub entry : ℕ
  pub number : ℕ
  pub stores : List Store
  pub size : ℕ

abbrev pub judgement : Reply → Judgement
judgement q = record { answer = q.answer; entry = q.entry; number = q.number; stores = q.stores; size = q.size }

abbrev pub sending_judged : List ℕ → ℕ → Held → ℕ → Kind → List ℕ → ℕ → Judgement
sending_judged image e h last k frame room =
    record {
      answer = first (sending_tests h last k frame room);
      entry = e;
      number = last + 1;
      stores = stores_for image e (last + 1);
      size = secured_length h frame;
    }

abbrev pub receiving_judged : List ℕ → ℕ → Held → ℕ → Kind → List ℕ → ℕ → Judgement
receiving_judged image e h last k frame room =
    record {
      answer = first (receiving_tests h last (mac_right h k frame) k frame room);
      entry = e;
      number = number_in h k frame;
      stores = stores_for image e (number_in h k frame);
      size = clear_length h k frame;
    }

pub record Grants (g : Grant) (j : Judgement) : Type 0 where
  pub answer : j.answer ≡ 0
  pub entry : g.entry ≡ j.entry
  pub number : g.number ≡ j.number
  pub stores : stores_of g.plan ≡ j.stores
  pub size : g.size ≡ j.size

abbrev pub Judged : Result Grant Refusal → Judgement → Type 0
Judged (Ok g) j = Grants g j
Judged (Err r) j = Refuses r j.answer
