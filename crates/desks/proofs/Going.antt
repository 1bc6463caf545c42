-- One run goes on: the image stays valid and of its version, there are 32 numbers, and they agree with the marks as they did, or once more
-- after a load. A call of another desk leaves what the desk sees as it was.
-- Assumes nothing.
use Prim.Native.Nat.{ℕ, ◌<◌}
use mathlib.Core.Path.{◌≡◌, refl, sym, ap, ◌∙◌}
use mathlib.Core.Logic.{inl, inr}
use mathlib.Core.Bool.{Bool, true, false, ◌||◌, or-true, true≢false}
use mathlib.Core.List.{List, [], ◌∷◌}
use lib.ListN.{length}
use Rattle.octets.specs.Lists.{Octets}
use Rattle.image.specs.Image.{valid_image}
use Rattle.numbers.specs.Numbers.{agrees}
use Rattle.judging.specs.Replies.{Reply}
use Rattle.judging.specs.Said.{Said}
use Rattle.link.specs.Calls.{left, cut, loaded, secured, secured_cut, securing_reply, comparison, checked, checked_as, checked_cut, checked_cut_as, checking_reply}
use Rattle.link.proofs.Leaving.{left-refused, cut-refused}
use Rattle.commands.specs.Commanding.{command_reply, commanded, commanded_cut}
use Rattle.commands.proofs.Done as deciding
use Rattle.promises.specs.Frames.{spi_on}
use Rattle.promises.specs.Images.{version_in, count_in, owner_at, last_at, Sees, Serves}
use Rattle.promises.specs.Runs as frames
use Rattle.promises.specs.Runs.{State, kept, load, send, check, send_cut, check_cut}
use Rattle.promises.proofs.Keeps.{Inv, loaded-image, load_inv}
use Rattle.promises.proofs.Used.{send_used, check_used}
use Rattle.command_promises.specs.Runs.{Step, call, command, command_cut, after, ran}
use Rattle.command_promises.proofs.Keeps.{Spoken, keeps}
use Rattle.command_promises.proofs.Unmanaged.{version-same}
use Rattle.desks.specs.Desks.{By, is_load, is_cut, Other, AllOther}
use Rattle.desks.proofs.Calls.{Acts, Beside, Kind, own, beside, kind}
use Rattle.desks.proofs.Commands.{Calling, command_acts}
use Rattle.desks.proofs.Frames.{send_acts, check_acts}
use Rattle.desks.proofs.Shared.{Near, near_itself, near_then, framed}

-- ---- a run's state, and the next

pub record Fine (x : State) : Type 0 where
  pub octets : Octets x.image
  pub passed : valid_image x.image ≡ true
  pub four : version_in x.image ≡ 4
  pub thirty_two : length x.numbers ≡ 32

-- after which the numbers agree, if it starts anew
pub record Next (x y : State) (anew : Bool) : Type 0 where
  pub fine : Fine y
  pub agree : agrees y.image y.numbers ≡ (anew || agrees x.image x.numbers)

abbrev pub anew : Step → Bool
anew v = is_load v || is_cut v

-- a call's command is octets
pub by-spoken : (P : ℕ → Type 0) (v : Step) → By P v → Spoken v
unfolding By Spoken
by-spoken P (call (load any)) b = tt
by-spoken P (call (send said spi frame output)) b = tt
by-spoken P (call (check said frame output)) b = tt
by-spoken P (call (send_cut said spi frame output j any)) b = tt
by-spoken P (call (check_cut said frame output j any)) b = tt
by-spoken P (command desk c output) b = b.1
by-spoken P (command_cut desk c output j any) b = b.1

module _ (x : State) (f : Fine x) where
  abbrev s : List ℕ
  s = x.image

  abbrev l : List ℕ
  l = x.numbers

  -- where they agree, every step keeps that
  agreeing_next : agrees s l ≡ true → (v : Step) → Spoken v → Next x (after x v) (anew v)
  agreeing_next a v spoken =
      let inv : Inv x = record { octets = f.octets; good = λ passed. record { thirty_two = f.thirty_two; agree = a } } in
      let k = keeps x v spoken inv in
      let passed = k.stays ∙ f.passed in
      let good = k.inv.good passed in
      record {
        fine =
            record {
              octets = k.inv.octets;
              passed = passed;
              four = version-same s (after x v).image k.same ∙ f.four;
              thirty_two = good.thirty_two;
            };
        agree = good.agree ∙ sym (ap (λ (b : Bool). anew v || b) a ∙ or-true (anew v));
      }

  load_anew : (any : List ℕ) → Next x (kept (loaded s any)) true
  load_anew any =
      let inv = load_inv s any f.octets in
      let good = inv.good (ap valid_image (loaded-image s any) ∙ f.passed) in
      record {
        fine =
            record {
              octets = inv.octets;
              passed = ap valid_image (loaded-image s any) ∙ f.passed;
              four = ap version_in (loaded-image s any) ∙ f.four;
              thirty_two = good.thirty_two;
            };
        agree = good.agree;
      }

  -- where they do not, a whole call is refused, and a load makes them agree
  module _ (a : agrees s l ≡ false) (q : Reply) (needs : q.answer ≡ 0 → agrees s l ≡ true) where
    refused_so : q.answer ≡ 0 → ⊥
    refused_so z = true≢false (sym (needs z) ∙ a)

    whole-next : (output : List ℕ) → Next x (kept (left q s l output)) false
    whole-next output = rw (left-refused q s l output refused_so) (record { fine = f; agree = refl })

    cut-next : (j : ℕ) (any : List ℕ) → Next x (kept (loaded (cut q s j) any)) true
    cut-next j any = rw (cut-refused q s j refused_so) (load_anew any)

  disagreeing_next : agrees s l ≡ false → (v : Step) → Next x (after x v) (anew v)
  unfolding after frames.after secured secured_cut checked checked_as checked_cut checked_cut_as commanded commanded_cut is_load is_cut
  disagreeing_next a (call (load any)) = load_anew any
  disagreeing_next a (call (send said spi frame output)) =
      whole-next a (securing_reply s l said spi frame (length output)) (λ z. (send_used s l said spi frame output z).agree) output
  disagreeing_next a (call (check said frame output)) =
      let right = comparison s l said frame in
      whole-next a (checking_reply right s l said frame (length output)) (λ z. (check_used right s l said frame output z).agree) output
  disagreeing_next a (call (send_cut said spi frame output j any)) =
      cut-next a (securing_reply s l said spi frame (length output)) (λ z. (send_used s l said spi frame output z).agree) j any
  disagreeing_next a (call (check_cut said frame output j any)) =
      let right = comparison s l said frame in
      cut-next a (checking_reply right s l said frame (length output)) (λ z. (check_used right s l said frame output z).agree) j any
  disagreeing_next a (command desk c output) =
      whole-next a (command_reply s l desk c (length output)) (λ z. (deciding.done s l desk c (length output) z).agree) output
  disagreeing_next a (command_cut desk c output j any) =
      cut-next a (command_reply s l desk c (length output)) (λ z. (deciding.done s l desk c (length output) z).agree) j any

  pub next : (v : Step) → Spoken v → Next x (after x v) (anew v)
  next v spoken = by_agreement (agrees s l) refl
    where
      by_agreement : (b : Bool) → agrees s l ≡ b → Next x (after x v) (anew v)
      by_agreement true a = agreeing_next a v spoken
      by_agreement false a = disagreeing_next a v

-- ---- a call of another desk

pub record Aside (d : ℕ) (x y : State) : Type 0 where
  pub image : Near d x.image y.image
  pub numbers : (i : ℕ) → i < count_in x.image → owner_at x.image i ≡ d → last_at y.numbers i ≡ last_at x.numbers i

module _ (d : ℕ) (x : State) (f : Fine x) where
  abbrev u : List ℕ
  u = x.image

  abbrev n : List ℕ
  n = x.numbers

  module _ (E : ℕ → Type 0) (q : Reply) (acts : q.answer ≡ 0 → Acts u n E q) (desk : ℕ) (other : Other d desk)
      (sees : (e : ℕ) → E e → Sees u desk e) where
    sees-none : (e : ℕ) → owner_at u e ≡ d → Sees u desk e → ⊥
    sees-none e mine (inl office) = other.0 office
    sees-none e mine (inr is) = other.1 (sym is ∙ mine)

    is-beside : Beside d u n q
    is-beside = by_kind (kind d u n f.four E q acts)
      where
        by_kind : Kind d u n E q → Beside d u n q
        by_kind (own z e below ev mine) = absurd (sees-none e mine (sees e ev))
        by_kind (beside b) = b

  send-beside : (said : Said) (spi : ℕ) (frame output : List ℕ) → Other d said.desk
      → Beside d u n (securing_reply u n said spi frame (length output))
  send-beside said spi frame output other =
      is-beside (Serves u 1 said spi frame) _ (send_acts u n f.octets f.four said spi frame output) said.desk other
      (λ e ev. ev.seen)

  check-beside : (said : Said) (frame output : List ℕ) → Other d said.desk
      → Beside d u n (checking_reply (comparison u n said frame) u n said frame (length output))
  check-beside said frame output other =
      is-beside (Serves u 2 said (spi_on said frame) frame) _ (check_acts u n f.octets f.four said frame output) said.desk other
      (λ e ev. ev.seen)

  command-beside : (desk : ℕ) (c output : List ℕ) (spoken : Octets c) → Other d desk
      → Beside d u n (command_reply u n desk c (length output))
  command-beside desk c output spoken other =
      is-beside (Calling u desk c) _ (command_acts u f.four n f.octets f.thirty_two desk c output spoken) desk other
      (λ e ev. ev.names.seen)

  pub other_aside : (v : Step) → By (Other d) v → is_cut v ≡ false → Aside d x (after x v)
  unfolding By is_cut after frames.after secured checked checked_as commanded
  other_aside (call (load any)) b whole = absurd b
  other_aside (call (send said spi frame output)) b whole =
      let k = send-beside said spi frame output b in record { image = k.whole output; numbers = k.numbers output }
  other_aside (call (check said frame output)) b whole =
      let k = check-beside said frame output b in record { image = k.whole output; numbers = k.numbers output }
  other_aside (call (send_cut said spi frame output j any)) b whole = absurd (true≢false whole)
  other_aside (call (check_cut said frame output j any)) b whole = absurd (true≢false whole)
  other_aside (command desk c output) b whole =
      let k = command-beside desk c output b.1 b.0 in record { image = k.whole output; numbers = k.numbers output }
  other_aside (command_cut desk c output j any) b whole = absurd (true≢false whole)

  -- a cut one, and then a load
  pub other_cut : (v : Step) → By (Other d) v → is_cut v ≡ true → Near d u (after x v).image
  unfolding By is_cut after frames.after secured_cut checked_cut checked_cut_as commanded_cut
  other_cut (call (load any)) b short = absurd b
  other_cut (call (send said spi frame output)) b short = absurd (true≢false (sym short))
  other_cut (call (check said frame output)) b short = absurd (true≢false (sym short))
  other_cut (call (send_cut said spi frame output j any)) b short =
      rw (loaded-image (cut (securing_reply u n said spi frame (length output)) u j) any) ((send-beside said spi frame output b).short j)
  other_cut (call (check_cut said frame output j any)) b short =
      rw (loaded-image (cut (checking_reply (comparison u n said frame) u n said frame (length output)) u j) any)
      ((check-beside said frame output b).short j)
  other_cut (command desk c output) b short = absurd (true≢false (sym short))
  other_cut (command_cut desk c output j any) b short =
      rw (loaded-image (cut (command_reply u n desk c (length output)) u j) any) ((command-beside desk c output b.1 b.0).short j)

-- a call is no load
pub call_no_load : (P : ℕ → Type 0) (v : Step) → By P v → is_load v ≡ false
unfolding By is_load
call_no_load P (call (load any)) b = absurd b
call_no_load P (call (send said spi frame output)) b = refl
call_no_load P (call (check said frame output)) b = refl
call_no_load P (call (send_cut said spi frame output j any)) b = refl
call_no_load P (call (check_cut said frame output j any)) b = refl
call_no_load P (command desk c output) b = refl
call_no_load P (command_cut desk c output j any) b = refl

-- ---- any whole calls of another desk

pub record Passes (d : ℕ) (x y : State) : Type 0 where
  pub fine : Fine y
  pub agree : agrees y.image y.numbers ≡ agrees x.image x.numbers
  pub aside : Aside d x y

pub others_pass : (d : ℕ) (x : State) (vs : List Step) → Fine x → AllOther d vs → Passes d x (ran x vs)
unfolding AllOther ran
others_pass d x [] f all =
    record { fine = f; agree = refl; aside = record { image = near_itself d x.image; numbers = λ i below mine. refl } }
others_pass d x (v ∷ vs) f all =
    let one = next x f v (by-spoken (Other d) v all.0) in
    let first = other_aside d x f v all.0 all.1 in
    let rest = others_pass d (after x v) vs one.fine all.2 in
    let g = framed d x.image (after x v).image f.four first.image in
    let not-anew : anew v ≡ false = rw (call_no_load (Other d) v all.0, all.1) refl in
    record {
      fine = rest.fine;
      agree = rest.agree ∙ one.agree ∙ ap (λ (b : Bool). b || agrees x.image x.numbers) not-anew;
      aside =
          record {
            image = near_then d x.image (after x v).image (ran (after x v) vs).image f.four first.image rest.aside.image;
            numbers = λ i below mine.
                rest.aside.numbers i (rw g.count below) (g.owner i below ∙ mine) ∙ first.numbers i below mine;
          };
    }
