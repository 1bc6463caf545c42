-- What an answer 0 of the tests under an entry means, test by test; an output with room for a reply, and the reply behind the stores.
-- Assumes nothing.
use Prim.Native.Nat.{ℕ, ◌≤◌}
use mathlib.Core.Path.{◌≡◌}
use mathlib.Core.Bool.{true, not}
use mathlib.Core.List.{List}
use native.Mathlib.Omega.{arith}
use borrow.Author.Tests.{ltb-false, le-leb, not-false}
use lib.Dec.{ltb}
use lib.ListN.{length}
use Rattle.octets.specs.Output.{written, fronted}
use Rattle.marks.specs.Stores.{stored}
use Rattle.bodies.specs.Body.{state_of}
use Rattle.image.specs.Image.{version_of, body_of}
use Rattle.judging.specs.Answers.{first}
use Rattle.judging.proofs.First.{passed}
use Rattle.procedures.specs.Procedures.{Procedure, procedure_is}
use Rattle.procedures.specs.declared.procedure.Procedure as code
use Rattle.procedures.proofs.Replying.{reply-after}
use Rattle.deciding.specs.Deciding.{procedure_tests}

pub record Accepts (p : Procedure) (image : List ℕ) (e last : ℕ) (value : List ℕ) (room : ℕ) : Type 0 where
  pub asked : p.asks (state_of (body_of image e)) ≡ true
  pub allowed : p.allows (version_of image) (body_of image e) last value ≡ true
  pub known : p.knows image e value ≡ true
  pub ready : p.ready image e value ≡ true
  pub roomy : length (p.reply image e last value) ≤ room

pub accepts-all : (p : Procedure) (image : List ℕ) (e last : ℕ) (value : List ℕ) (room : ℕ)
    → first (procedure_tests p image e last value room) ≡ 0 → Accepts p image e last value room
accepts-all p image e last value room z =
    let version = version_of image in
    let body = body_of image e in
    let t15 = passed 15 (not (p.asks (state_of body))) _ (omega arith) z in
    let t16 = passed 16 (not (p.allows version body last value)) _ (omega arith) t15.1 in
    let t17 = passed 17 (not (p.knows image e value)) _ (omega arith) t16.1 in
    let t18 = passed 18 (not (p.ready image e value)) _ (omega arith) t17.1 in
    let t6 = passed 6 (ltb room (length (p.reply image e last value))) _ (omega arith) t18.1 in
    record {
      asked = not-false (p.asks (state_of body)) t15.0;
      allowed = not-false (p.allows version body last value) t16.0;
      known = not-false (p.knows image e value) t17.0;
      ready = not-false (p.ready image e value) t18.0;
      roomy = ltb-false room (length (p.reply image e last value)) t6.0;
    }

-- an output with room for a text has it at its front
pub fronted_fits : (text out : List ℕ) → length text ≤ length out → fronted text out ≡ written text out
unfolding fronted
fronted_fits text out h = rw (le-leb (length text) (length out) h)

-- the reply as it is written, once the stores are made
pub reply-written : (p : code.Procedure) (image value : List ℕ) (number : ℕ) {after : List ℕ} {e entry last n : ℕ}
    → after ≡ stored image ((procedure_is p).stores image e number value) → entry ≡ e → n ≡ last
    → (procedure_is p).reply after entry n value ≡ (procedure_is p).reply image e last value
reply-written p image value number {e = e} {last = last} stores at same = cc (reply-after p image e last number value)
