-- Every answer to a desk is the same in two runs that differ in the other desk alone: side by side, after every step, the two images are the
-- same in what the desk sees, and so are its numbers.
-- Assumes nothing.
use Prim.Native.Nat.{ℕ, ◌*◌, ◌+◌, ◌≤◌, ◌<◌}
use mathlib.Core.Path.{◌≡◌, refl, sym, ap, ◌∙◌}
use mathlib.Core.Logic.{◌⊎◌, inl, inr}
use mathlib.Core.Bool.{Bool, true, false, ◌||◌, or-true, true≢false}
use mathlib.Core.List.{List, [], ◌∷◌}
use lib.ListN.{length}
use Rattle.octets.specs.Lists.{octet, Octets}
use Rattle.image.specs.Image.{valid_image, mark_in}
use Rattle.numbers.specs.Numbers.{agrees}
use Rattle.judging.specs.Replies.{Reply}
use Rattle.judging.specs.Said.{Said}
use Rattle.link.specs.Calls.{left, cut, loaded, secured, secured_cut, securing_reply, comparison, checked, checked_as, checked_cut, checked_cut_as, checking_reply}
use Rattle.commands.specs.Commanding.{command_reply, commanded, commanded_cut}
use Rattle.promises.specs.Frames.{spi_on}
use Rattle.promises.specs.Images.{version_in, count_in, part_place, owner_at, last_at, Serves}
use Rattle.promises.specs.Runs as frames
use Rattle.promises.specs.Runs.{State, kept, load, send, check, send_cut, check_cut}
use Rattle.promises.proofs.Keeps.{loaded-image, loaded_last}
use Rattle.promises.proofs.Valids.{rules-valid, agreement, agreement_tested}
use Rattle.command_promises.specs.Runs.{Step, call, command, command_cut, after, ran}
use Rattle.command_promises.proofs.Keeps.{Spoken}
use Rattle.desks.specs.Desks.{By, is_load, is_cut, Own, OwnOrOffice, Other, Pair, same, apart, apart_cut, here, there}
use Rattle.desks.specs.Desks.{AllOther, Allowed, AllAllowed, SameKeyPart, Start, KeyPartSame, Answered, AnsweredTo, Desks}
use Rattle.desks.proofs.Both.{Both, frame, later, back, twin_back}
use Rattle.desks.proofs.Calls.{Together, together}
use Rattle.desks.proofs.Commands.{Calling, command_acts, command_twin, command-answered}
use Rattle.desks.proofs.Frames.{send_acts, check_acts, send_twin, check_twin, send-answered, check-answered}
use Rattle.desks.proofs.Going.{Fine, anew, by-spoken, next, other_cut, others_pass}
use Rattle.desks.proofs.Reading.{mark-same}
use Rattle.desks.proofs.Shared.{Framed, Same, framed, same-framed, same_then}

-- ---- side by side

abbrev pub Abreast : ℕ → State → State → Type 0
Abreast d x y = Both d x.image x.numbers y.image y.numbers

-- what the desk sees of the next states
record Shown (d : ℕ) (x y : State) : Type 0 where
  image : Same d x.image y.image
  numbers : (i : ℕ) → i < count_in x.image → owner_at x.image i ≡ d → last_at y.numbers i ≡ last_at x.numbers i

abbrev one : {d : ℕ} {x y : State} → Abreast d x y → Fine x
one b = record { octets = b.octets; passed = b.passed; four = b.four; thirty_two = b.thirty_two }

two : {d : ℕ} {x y : State} → Abreast d x y → Fine y
two b = record { octets = b.octets_there; passed = b.passed_there; four = later b; thirty_two = b.thirty_two_there }

both-next : (d : ℕ) (x y : State) → Fine x → Fine y → agrees y.image y.numbers ≡ agrees x.image x.numbers → Shown d x y
    → Abreast d x y
both-next d x y f g agree shown =
    record {
      octets = f.octets;
      octets_there = g.octets;
      passed = f.passed;
      passed_there = g.passed;
      four = f.four;
      thirty_two = f.thirty_two;
      thirty_two_there = g.thirty_two;
      agree = agree;
      same = shown.image;
      numbers = shown.numbers;
    }

-- ---- a load of each: the desk's numbers come from its marks

loads_shown : (d : ℕ) (s t any other : List ℕ) → version_in s ≡ 4 → Same d s t → valid_image s ≡ true → valid_image t ≡ true
    → Shown d (kept (loaded s any)) (kept (loaded t other))
loads_shown d s t any other four shared passed passed-there =
    rw (loaded-image s any, loaded-image t other)
    (record {
      image = shared;
      numbers = λ i below own.
          let f : Framed s t = same-framed d s t four shared in
          loaded_last t other passed-there i (rw f.count below)
          ∙ ap (λ (m : ℕ). 64 * m + 63) (mark-same d s t four shared i own)
          ∙ sym (loaded_last s any passed i below);
    })

-- after a cut call the numbers are those of the load
loaded-lasts : (image any : List ℕ) → valid_image (loaded image any).image ≡ true → (i : ℕ) → i < count_in (loaded image any).image
    → last_at (loaded image any).numbers i ≡ 64 * mark_in (loaded image any).image i + 63
loaded-lasts image any passed i below =
    let e = loaded-image image any in
    rw e (loaded_last image any (ap valid_image (sym e) ∙ passed) i (rw e at below))

cut-lasts : (x : State) (v : Step) → is_cut v ≡ true → valid_image (after x v).image ≡ true → (i : ℕ) → i < count_in (after x v).image
    → last_at (after x v).numbers i ≡ 64 * mark_in (after x v).image i + 63
unfolding is_cut after frames.after
cut-lasts x (call (load any)) is passed i below = absurd (true≢false (sym is))
cut-lasts x (call (send said spi clear output)) is passed i below = absurd (true≢false (sym is))
cut-lasts x (call (check said clear output)) is passed i below = absurd (true≢false (sym is))
cut-lasts x (call (send_cut said spi clear output j any)) is passed i below = loaded-lasts _ any passed i below
cut-lasts x (call (check_cut said clear output j any)) is passed i below = loaded-lasts _ any passed i below
cut-lasts x (command desk c output) is passed i below = absurd (true≢false (sym is))
cut-lasts x (command_cut desk c output j any) is passed i below = loaded-lasts _ any passed i below

-- ---- a step of both

module _ (d : ℕ) (x y : State) (b : Abreast d x y) where
  abbrev s : List ℕ
  s = x.image

  abbrev l : List ℕ
  l = x.numbers

  abbrev t : List ℕ
  t = y.image

  abbrev r : List ℕ
  r = y.numbers

  long : length r ≡ length l
  long = b.thirty_two_there ∙ sym b.thirty_two

  sendings : (said : Said) (spi : ℕ) (clear output : List ℕ)
      → Together d s l t r (securing_reply s l said spi clear (length output)) (securing_reply t r said spi clear (length output))
  sendings said spi clear output =
      together d s l t r b.four (later b) b.same long b.numbers (Serves s 1 said spi clear) (Serves t 1 said spi clear) _ _
      (send_acts s l b.octets b.four said spi clear output) (send_acts t r b.octets_there (later b) said spi clear output)
      (send_twin d s l t r b said spi clear output)
      (λ z e below ev own. twin_back _ _ (send_twin d t r s l (back b) said spi clear output z e below ev own))

  pub checks : (said : Said) (clear output : List ℕ)
      → Together d s l t r (checking_reply (comparison s l said clear) s l said clear (length output))
      (checking_reply (comparison t r said clear) t r said clear (length output))
  checks said clear output =
      together d s l t r b.four (later b) b.same long b.numbers (Serves s 2 said (spi_on said clear) clear)
      (Serves t 2 said (spi_on said clear) clear) _ _
      (check_acts s l b.octets b.four said clear output) (check_acts t r b.octets_there (later b) said clear output)
      (check_twin d s l t r b said clear output)
      (λ z e below ev own. twin_back _ _ (check_twin d t r s l (back b) said clear output z e below ev own))

  commands : (desk : ℕ) (c output : List ℕ) → Octets c
      → Together d s l t r (command_reply s l desk c (length output)) (command_reply t r desk c (length output))
  commands desk c output spoken =
      together d s l t r b.four (later b) b.same long b.numbers (Calling s desk c) (Calling t desk c) _ _
      (command_acts s b.four l b.octets b.thirty_two desk c output spoken)
      (command_acts t (later b) r b.octets_there b.thirty_two_there desk c output spoken)
      (command_twin d s l t r b desk c output)
      (λ z e below ev own. twin_back _ _ (command_twin d t r s l (back b) desk c output z e below ev own))

  -- whole: the images, if their key parts are the same, and the numbers
  whole_shown : (q u : Reply) → Together d s l t r q u → (output : List ℕ)
      → SameKeyPart (kept (left q s l output)) (kept (left u t r output)) → Shown d (kept (left q s l output)) (kept (left u t r output))
  whole_shown q u w output keys =
      let f = w.stays output in
      record {
        image = w.whole output keys;
        numbers = λ i below own.
            let h : i < count_in s = rw f.count at below in w.numbers output i h (sym (f.owner i h) ∙ own);
      }

  -- cut and loaded
  cut_shown : (q u : Reply) → Together d s l t r q u → (j : ℕ) (any : List ℕ) → Fine (kept (loaded (cut q s j) any))
      → Fine (kept (loaded (cut u t j) any)) → SameKeyPart (kept (loaded (cut q s j) any)) (kept (loaded (cut u t j) any))
      → Shown d (kept (loaded (cut q s j) any)) (kept (loaded (cut u t j) any))
  cut_shown q u w j any f g keys =
      let same_keys : (p : ℕ) → part_place (cut q s j) ≤ p → octet (cut u t j) p ≡ octet (cut q s j) p =
      rw (loaded-image (cut q s j) any, loaded-image (cut u t j) any) at keys
      in
      loads_shown d (cut q s j) (cut u t j) any any (ap version_in (sym (loaded-image (cut q s j) any)) ∙ f.four) (w.short j same_keys)
      (ap valid_image (sym (loaded-image (cut q s j) any)) ∙ f.passed) (ap valid_image (sym (loaded-image (cut u t j) any)) ∙ g.passed)

  same_shown : (v : Step) → Spoken v → Fine (after x v) → Fine (after y v) → SameKeyPart (after x v) (after y v) → Shown d (after x v) (after y v)
  unfolding Spoken after frames.after secured secured_cut checked checked_as checked_cut checked_cut_as commanded commanded_cut
  same_shown (call (load any)) spoken f g keys = loads_shown d s t any any b.four b.same b.passed b.passed_there
  same_shown (call (send said spi clear output)) spoken f g keys = whole_shown _ _ (sendings said spi clear output) output keys
  same_shown (call (check said clear output)) spoken f g keys = whole_shown _ _ (checks said clear output) output keys
  same_shown (call (send_cut said spi clear output j any)) spoken f g keys = cut_shown _ _ (sendings said spi clear output) j any f g keys
  same_shown (call (check_cut said clear output j any)) spoken f g keys = cut_shown _ _ (checks said clear output) j any f g keys
  same_shown (command desk c output) spoken f g keys = whole_shown _ _ (commands desk c output spoken) output keys
  same_shown (command_cut desk c output j any) spoken f g keys = cut_shown _ _ (commands desk c output spoken) j any f g keys

  pub same-both : (v : Step) → Spoken v → SameKeyPart (after x v) (after y v) → Abreast d (after x v) (after y v)
  same-both v spoken keys =
      let m = next x (one b) v spoken in
      let n = next y (two b) v spoken in
      both-next d (after x v) (after y v) m.fine n.fine
      (n.agree ∙ ap (λ (a : Bool). anew v || a) b.agree ∙ sym m.agree) (same_shown v spoken m.fine n.fine keys)

  -- whole calls of the other desk, in each run its own
  pub apart-both : (vs ws : List Step) → AllOther d vs → AllOther d ws → SameKeyPart (ran x vs) (ran y ws) → Abreast d (ran x vs) (ran y ws)
  apart-both vs ws all others keys =
      let m = others_pass d x vs (one b) all in
      let n = others_pass d y ws (two b) others in
      let f = framed d s (ran x vs).image b.four m.aside.image in
      both-next d (ran x vs) (ran y ws) m.fine n.fine (n.agree ∙ b.agree ∙ sym m.agree)
      (record {
        image = same_then d s t (ran x vs).image (ran y ws).image b.four b.same m.aside.image n.aside.image keys;
        numbers = λ i below own.
            let h : i < count_in s = rw f.count at below in
            let mine : owner_at s i ≡ d = sym (f.owner i h) ∙ own in
            n.aside.numbers i (rw (frame b).count h) ((frame b).owner i h ∙ mine)
            ∙ b.numbers i h mine
            ∙ sym (m.aside.numbers i h mine);
      })

  -- and a cut one in each
  pub cut-both : (v w : Step) → By (Other d) v → is_cut v ≡ true → By (Other d) w → is_cut w ≡ true → SameKeyPart (after x v) (after y w)
      → Abreast d (after x v) (after y w)
  cut-both v w by-v cut-v by-w cut-w keys =
      let m = next x (one b) v (by-spoken (Other d) v by-v) in
      let n = next y (two b) w (by-spoken (Other d) w by-w) in
      let agree-x : agrees (after x v).image (after x v).numbers ≡ true =
      m.agree ∙ ap (λ (a : Bool). a || agrees s l) (fresh v cut-v)
      in
      let agree-y : agrees (after y w).image (after y w).numbers ≡ true =
      n.agree ∙ ap (λ (a : Bool). a || agrees t r) (fresh w cut-w)
      in
      let shared : Same d (after x v).image (after y w).image =
      same_then d s t (after x v).image (after y w).image b.four b.same (other_cut d x (one b) v by-v cut-v)
      (other_cut d y (two b) w by-w cut-w) keys
      in
      let f = same-framed d (after x v).image (after y w).image m.fine.four shared in
      both-next d (after x v) (after y w) m.fine n.fine (agree-y ∙ sym agree-x)
      (record {
        image = shared;
        numbers = λ i below own.
            cut-lasts y w cut-w n.fine.passed i (rw f.count below)
            ∙ ap (λ (k : ℕ). 64 * k + 63) (mark-same d (after x v).image (after y w).image m.fine.four shared i own)
            ∙ sym (cut-lasts x v cut-v m.fine.passed i below);
      })
    where
      fresh : (u : Step) → is_cut u ≡ true → anew u ≡ true
      fresh u c = rw c (or-true (is_load u))

-- ---- the answers of a whole call to the desk

answered : (d : ℕ) (x y : State) → Abreast d x y → 1 ≤ d → (v : Step) → By (Own d) v → Answered x y v
unfolding By Answered
answered d x y b some (call (load any)) own = tt
answered d x y b some (call (send said spi clear output)) own =
    send-answered d x.image x.numbers y.image y.numbers b said some own spi clear output
answered d x y b some (call (check said clear output)) own =
    check-answered d x.image x.numbers y.image y.numbers b said some own clear output
answered d x y b some (call (send_cut said spi clear output j any)) own = tt
answered d x y b some (call (check_cut said clear output j any)) own = tt
answered d x y b some (command desk c output) own =
    command-answered d x.image x.numbers y.image y.numbers b desk c output some own.0
answered d x y b some (command_cut desk c output j any) own = tt

-- ---- over the whole of both runs

pub spoken_of : (d : ℕ) (v : Step) → (is_load v ≡ true) ⊎ By (OwnOrOffice d) v → Spoken v
unfolding is_load Spoken
spoken_of d (call v) allowed = tt
spoken_of d (command desk c output) (inl is) = absurd (true≢false (sym is))
spoken_of d (command desk c output) (inr by) = by-spoken (OwnOrOffice d) (command desk c output) by
spoken_of d (command_cut desk c output j any) (inl is) = absurd (true≢false (sym is))
spoken_of d (command_cut desk c output j any) (inr by) = by-spoken (OwnOrOffice d) (command_cut desk c output j any) by

all-answered : (d : ℕ) → 1 ≤ d → (pairs : List Pair) (x y : State) → Abreast d x y → AllAllowed d pairs → KeyPartSame x y pairs
    → AnsweredTo d x y pairs
unfolding Allowed AllAllowed KeyPartSame AnsweredTo here there
all-answered d some [] x y b allowed keys = tt
all-answered d some (same v ∷ pairs) x y b allowed keys = (
  answered d x y b some v,
  all-answered d some pairs (after x v) (after y v) (same-both d x y b v (spoken_of d v allowed.0) keys.0) allowed.1 keys.1,
)
all-answered d some (apart vs ws ∷ pairs) x y b allowed keys =
    all-answered d some pairs (ran x vs) (ran y ws) (apart-both d x y b vs ws allowed.0.0 allowed.0.1 keys.0) allowed.1 keys.1
all-answered d some (apart_cut v w ∷ pairs) x y b allowed keys =
    all-answered d some pairs (after x v) (after y w)
    (cut-both d x y b v w allowed.0.0 allowed.0.1 allowed.0.2 allowed.0.3 keys.0) allowed.1 keys.1

equal : (a b : Bool) → (a ≡ true → b ≡ true) → (b ≡ true → a ≡ true) → b ≡ a
equal true b f g = f refl
equal false true f g = sym (g refl)
equal false false f g = refl

pub abreast : (d : ℕ) (x y : State) → Start d x y → Abreast d x y
abreast d x y start =
    let s = x.image in
    let l = x.numbers in
    let t = y.image in
    let r = y.numbers in
    let o = start.one in
    let p = start.other in
    record {
      octets = o.octets;
      octets_there = p.octets;
      passed = rules-valid s o.octets o.valid;
      passed_there = rules-valid t p.octets p.valid;
      four = o.version;
      thirty_two = o.thirty_two;
      thirty_two_there = p.thirty_two;
      agree =
          equal (agrees s l) (agrees t r)
          (λ e. agreement_tested t r p.octets (start.agree (agreement s l o.octets e)))
          (λ e. agreement_tested s l o.octets (start.agreed (agreement t r p.octets e)));
      same = record { size = start.alike.size; octets = start.alike.octets };
      numbers = start.alike.numbers;
    }

pub desks : Desks
desks d range x y pairs start allowed keys = all-answered d range.0 pairs x y (abreast d x y start) allowed keys
