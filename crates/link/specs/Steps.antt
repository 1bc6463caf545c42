-- What the module's inner functions do on the way through a call, for their own contracts. No definition of a call cites this file, and no
-- promise does.
-- Assumes nothing.
use Rattle.std.specs.Prelude.{ℕ, ◌+◌, List}
use Rattle.kinds.specs.Kinds.{Kind}
use Rattle.association.specs.Association.{association_of, held_in}
use Rattle.numbers.specs.declared.numbers.Numbers.{Numbers}
use Rattle.protection.specs.Protection.{secured_length, secured_frame, number_in, mac_right, clear_length, clear_data}
use Rattle.judging.specs.Answers.{Answer, first}
use Rattle.judging.specs.Replies.{Reply, raising, sending_tests, receiving_tests}
use Rattle.link.specs.declared.outcome.Outcome.{Outcome}

-- an answer, and the numbers that come back with it
abbrev pub outcome : Answer → Numbers → Outcome
outcome a numbers = record { answer = a; numbers = numbers }

-- ---- under entry e: the reply, from what its association holds and from its last number

abbrev pub sending_reply : List ℕ → List ℕ → ℕ → Kind → ℕ → List ℕ → ℕ → Reply
sending_reply image last e k spi frame room =
    let a = association_of image last e in
    let h = held_in a in
    raising image e
    (record {
      answer = first (sending_tests h a.number k frame room);
      number = a.number + 1;
      size = secured_length h frame;
      result = secured_frame h k spi (a.number + 1) frame;
    })

abbrev pub receiving_reply : List ℕ → List ℕ → ℕ → Kind → List ℕ → ℕ → Reply
receiving_reply image last e k frame room =
    let a = association_of image last e in
    let h = held_in a in
    raising image e
    (record {
      answer = first (receiving_tests h a.number (mac_right h k frame) k frame room);
      number = number_in h k frame;
      size = clear_length h k frame;
      result = clear_data h k frame;
    })
