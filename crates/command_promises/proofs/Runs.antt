-- In every run numbers only rise, with commands too. After a number was sent, the entry's last is at least that number, and at most 64 higher
-- for each load since if no set number came; after one was released, the last is at least that. Every step keeps this, and the image but
-- for its states, windows and marks.
-- Assumes nothing.
use Prim.Native.Nat.{ℕ, ◌+◌, ◌*◌, ◌≤◌, ◌<◌}
use mathlib.Core.Path.{◌≡◌, refl, sym, ap, ◌∙◌}
use mathlib.Core.Bool.{Bool, true, false}
use mathlib.Core.List.{List, [], ◌∷◌, ◌++◌}
use native.Mathlib.Omega.{arith}
use Rattle.image.specs.Image.{valid_image}
use Rattle.link.specs.Calls.{loaded}
use Rattle.promises.specs.Images.{count_in, direction_at, last_at}
use Rattle.promises.specs.Runs as frames
use Rattle.promises.specs.Runs.{State, kept, restart, sent, released, ReleasedAfter, ReleasedRise, sent_in, released_in, Without, Once}
use Rattle.promises.proofs.Keeps.{Inv, loaded-image, load_inv}
use Rattle.promises.proofs.Runs.{released_once_lem}
use Rattle.promises.proofs.Valids.{rules-kept, rules-valid}
use Rattle.command_promises.specs.Runs.{Step, call, command, command_cut, after, ran, OfOctets, Shown, saw, numbered, told, shows, trace}
use Rattle.command_promises.specs.Runs.{SentAfter, SentRise, seen, Runs}
use Rattle.command_promises.proofs.Effects.{Effect, quiet, loads, sends, frees, raises, raises_cut, effect}
use Rattle.command_promises.proofs.Keeps.{Spoken, Keeps, keeps}
use Rattle.command_promises.proofs.Unmanaged.{Same, same_itself, same_then, count_same, direction-same}

-- ---- from a state to the next

module _ (e : ℕ) (x y : State) (k : Keeps x y) where
  before : valid_image y.image ≡ true → valid_image x.image ≡ true
  before passed = sym k.stays ∙ passed

  next_below : e < count_in x.image → e < count_in y.image
  next_below below = omega (arith, count_same x.image y.image k.same)

  next-direction : e < count_in x.image → direction_at y.image e ≡ direction_at x.image e
  next-direction below = direction-same x.image y.image k.same e below

pub first-spoken : (v : Step) (vs : List Step) → OfOctets (v ∷ vs) → Spoken v
unfolding OfOctets Spoken
first-spoken (call v) vs o = tt
first-spoken (command desk c output) vs o = o.0
first-spoken (command_cut desk c output j any) vs o = o.0

pub rest-spoken : (v : Step) (vs : List Step) → OfOctets (v ∷ vs) → OfOctets vs
unfolding OfOctets
rest-spoken (call v) vs o = o
rest-spoken (command desk c output) vs o = o.1
rest-spoken (command_cut desk c output j any) vs o = o.1

-- ---- sending

-- after p was sent and then l loads, and a set number if it is `free`
record Sent (e : ℕ) (x : State) (p l : ℕ) (free : Bool) : Type 0 where
  direction : direction_at x.image e ≡ 1
  low : p ≤ last_at x.numbers e
  high : free ≡ false → last_at x.numbers e ≤ p + 64 * l

sent_now : (e : ℕ) (x y : State) → Keeps x y → e < count_in x.image → direction_at x.image e ≡ 1 → (n : ℕ) → last_at y.numbers e ≡ n → Sent e y n 0 false
sent_now e x y k below one n new = record { direction = next-direction e x y k below ∙ one; low = omega arith; high = λ f. omega arith }

not_free : (P : Type 0) → true ≡ false → P
not_free P f = let z : ◌≡◌ {A = ℕ} 0 1 = cc in absurd (omega arith)

sent-after : (e : ℕ) (vs : List Step) (x : State) (p l : ℕ) (free : Bool) → OfOctets vs → Inv x → e < count_in x.image
    → (valid_image x.image ≡ true → Sent e x p l free) → SentAfter p l free (trace e x vs)
unfolding trace SentAfter
sent-after e [] x p l free o inv below a = tt
sent-after e (v ∷ vs) x p l free o inv below a =
    let k = keeps x v (first-spoken v vs o) inv in
    by_effect k (effect e x v (first-spoken v vs o) inv below)
    (λ q m f. sent-after e vs (after x v) q m f (rest-spoken v vs o) k.inv (next_below e x (after x v) k below))
  where
    by_effect : Keeps x (after x v) → Effect e x (after x v) (shows e x v)
        → ((q m : ℕ) (f : Bool) → (valid_image (after x v).image ≡ true → Sent e (after x v) q m f) → SentAfter q m f (trace e (after x v) vs))
        → SentAfter p l free (shows e x v ++ trace e (after x v) vs)
    by_effect k (quiet shown same) ih =
        rw shown
        (ih p l free
        (λ passed.
        let b = a (before e x (after x v) k passed) in
        record {
          direction = next-direction e x (after x v) k below ∙ b.direction;
          low = omega (arith, b.low);
          high = λ f. omega (arith, b.high f);
        }))
    by_effect k (loads shown low high) ih =
        rw shown
        (ih p (l + 1) free
        (λ passed.
        let old = before e x (after x v) k passed in
        let b = a old in
        record {
          direction = next-direction e x (after x v) k below ∙ b.direction;
          low = omega (arith, b.low, low old);
          high = λ f. omega (arith, b.high f, high old b.direction);
        }))
    by_effect k (sends passed one shown new) ih =
        let b = a passed in
        rw shown (
          omega (arith, b.low),
          (λ f. omega (arith, b.high f)),
          ih (last_at x.numbers e + 1) 0 false (λ later. sent_now e x (after x v) k below one _ new),
        )
    by_effect k (frees n passed two shown up new) ih = absurd (omega (arith, (a passed).direction))
    by_effect k (raises shown up) ih =
        rw shown
        (ih p l true
        (λ passed.
        let b = a (before e x (after x v) k passed) in
        record {
          direction = next-direction e x (after x v) k below ∙ b.direction;
          low = omega (arith, b.low);
          high = not_free _;
        }))
    by_effect k (raises_cut shown up) ih =
        rw shown
        (ih p (l + 1) true
        (λ passed.
        let old = before e x (after x v) k passed in
        let b = a old in
        record {
          direction = next-direction e x (after x v) k below ∙ b.direction;
          low = omega (arith, b.low, up old);
          high = not_free _;
        }))

sent-rise : (e : ℕ) (vs : List Step) (x : State) → OfOctets vs → Inv x → e < count_in x.image → SentRise (trace e x vs)
unfolding trace SentRise
sent-rise e [] x o inv below = tt
sent-rise e (v ∷ vs) x o inv below =
    let k = keeps x v (first-spoken v vs o) inv in
    by_effect k (effect e x v (first-spoken v vs o) inv below)
    (sent-rise e vs (after x v) (rest-spoken v vs o) k.inv (next_below e x (after x v) k below))
  where
    by_effect : Keeps x (after x v) → Effect e x (after x v) (shows e x v) → SentRise (trace e (after x v) vs)
        → SentRise (shows e x v ++ trace e (after x v) vs)
    by_effect k (quiet shown same) ih = rw shown ih
    by_effect k (loads shown low high) ih = rw shown ih
    by_effect k (sends passed one shown new) ih =
        rw shown
        (sent-after e vs (after x v) _ 0 false (rest-spoken v vs o) k.inv (next_below e x (after x v) k below)
        (λ later. sent_now e x (after x v) k below one _ new))
    by_effect k (frees n passed two shown up new) ih = rw shown ih
    by_effect k (raises shown up) ih = rw shown ih
    by_effect k (raises_cut shown up) ih = rw shown ih

-- ---- releasing

released-after : (e : ℕ) (vs : List Step) (x : State) (p : ℕ) → OfOctets vs → Inv x → e < count_in x.image
    → (valid_image x.image ≡ true → p ≤ last_at x.numbers e) → ReleasedAfter p (seen (trace e x vs))
unfolding trace seen ReleasedAfter
released-after e [] x p o inv below a = tt
released-after e (v ∷ vs) x p o inv below a =
    let k = keeps x v (first-spoken v vs o) inv in
    by_effect k (effect e x v (first-spoken v vs o) inv below)
    (λ q. released-after e vs (after x v) q (rest-spoken v vs o) k.inv (next_below e x (after x v) k below))
  where
    by_effect : Keeps x (after x v) → Effect e x (after x v) (shows e x v)
        → ((q : ℕ) → (valid_image (after x v).image ≡ true → q ≤ last_at (after x v).numbers e) → ReleasedAfter q (seen (trace e (after x v) vs)))
        → ReleasedAfter p (seen (shows e x v ++ trace e (after x v) vs))
    by_effect k (quiet shown same) ih = rw shown (ih p (λ passed. omega (arith, a (before e x (after x v) k passed))))
    by_effect k (loads shown low high) ih =
        rw shown (ih p (λ passed. let old = before e x (after x v) k passed in omega (arith, a old, low old)))
    by_effect k (sends passed one shown new) ih = rw shown (ih p (λ later. omega (arith, a passed)))
    by_effect k (frees n passed two shown up new) ih = rw shown (omega (arith, a passed), ih n (λ later. omega arith))
    by_effect k (raises shown up) ih = rw shown (ih p (λ passed. omega (arith, a (before e x (after x v) k passed))))
    by_effect k (raises_cut shown up) ih =
        rw shown (ih p (λ passed. let old = before e x (after x v) k passed in omega (arith, a old, up old)))

released-rise : (e : ℕ) (vs : List Step) (x : State) → OfOctets vs → Inv x → e < count_in x.image → ReleasedRise (seen (trace e x vs))
unfolding trace seen ReleasedRise
released-rise e [] x o inv below = tt
released-rise e (v ∷ vs) x o inv below =
    let k = keeps x v (first-spoken v vs o) inv in
    by_effect k (effect e x v (first-spoken v vs o) inv below)
    (released-rise e vs (after x v) (rest-spoken v vs o) k.inv (next_below e x (after x v) k below))
  where
    by_effect : Keeps x (after x v) → Effect e x (after x v) (shows e x v) → ReleasedRise (seen (trace e (after x v) vs))
        → ReleasedRise (seen (shows e x v ++ trace e (after x v) vs))
    by_effect k (quiet shown same) ih = rw shown ih
    by_effect k (loads shown low high) ih = rw shown ih
    by_effect k (sends passed one shown new) ih = rw shown ih
    by_effect k (frees n passed two shown up new) ih =
        rw shown
        (released-after e vs (after x v) n (rest-spoken v vs o) k.inv (next_below e x (after x v) k below) (λ later. omega arith))
    by_effect k (raises shown up) ih = rw shown ih
    by_effect k (raises_cut shown up) ih = rw shown ih

-- ---- numbers that rise stand there once

abbrev Above : ℕ → List ℕ → Type 0
Above p ns = (q : ℕ) → q ≤ p → Without q ns

sent-above : (r : List Shown) (p l : ℕ) (free : Bool) → SentAfter p l free r → Above p (sent_in (seen r))
unfolding SentAfter seen sent_in Without
sent-above [] p l free a q h = tt
sent-above (saw restart ∷ r) p l free a q h = sent-above r p (l + 1) free a q h
sent-above (saw (sent n) ∷ r) p l free a q h = (λ e. omega (arith, a.0), sent-above r n 0 false a.2 q (omega (arith, a.0)))
sent-above (saw (released n) ∷ r) p l free a q h = sent-above r p l free a q h
sent-above (numbered ∷ r) p l free a q h = sent-above r p l true a q h

sent_once_after : (r : List Shown) (p l : ℕ) (free : Bool) → SentAfter p l free r → Once (sent_in (seen r))
unfolding SentAfter seen sent_in Once
sent_once_after [] p l free a = tt
sent_once_after (saw restart ∷ r) p l free a = sent_once_after r p (l + 1) free a
sent_once_after (saw (sent n) ∷ r) p l free a = (sent-above r n 0 false a.2 n (omega arith), sent_once_after r n 0 false a.2)
sent_once_after (saw (released n) ∷ r) p l free a = sent_once_after r p l free a
sent_once_after (numbered ∷ r) p l free a = sent_once_after r p l true a

sent_once_lem : (r : List Shown) → SentRise r → Once (sent_in (seen r))
unfolding SentRise seen sent_in Once
sent_once_lem [] a = tt
sent_once_lem (saw restart ∷ r) a = sent_once_lem r a
sent_once_lem (saw (sent n) ∷ r) a = (sent-above r n 0 false a n (omega arith), sent_once_after r n 0 false a)
sent_once_lem (saw (released n) ∷ r) a = sent_once_lem r a
sent_once_lem (numbered ∷ r) a = sent_once_lem r a

-- ---- the image

pub ran-keeps : (vs : List Step) (x : State) → OfOctets vs → Inv x → Keeps x (ran x vs)
unfolding ran
ran-keeps [] x o inv = record { inv = inv; stays = refl; same = same_itself x.image }
ran-keeps (v ∷ vs) x o inv =
    let k = keeps x v (first-spoken v vs o) inv in
    let m = ran-keeps vs (after x v) (rest-spoken v vs o) k.inv in
    record {
      inv = m.inv;
      stays = m.stays ∙ k.stays;
      same = same_then x.image (after x v).image k.same (ran (after x v) vs).image m.same;
    }

-- ---- a run begun by a load

pub runs : Runs
unfolding ran after trace shows told seen frames.after frames.shows SentRise ReleasedRise sent_in released_in
runs image numbers steps octets o =
    let x : State = kept (loaded image numbers) in
    let inv = load_inv image numbers octets in
    let k = ran-keeps steps x o inv in
    let first : Same image x.image = rw (loaded-image image numbers) (same_itself image) in
    let all : Same image (ran x steps).image = same_then image x.image first (ran x steps).image k.same in
    let here : (e : ℕ) → e < count_in image → e < count_in x.image = λ e h. rw (loaded-image image numbers) h in
    let sending : (e : ℕ) → e < count_in image → SentRise (trace e x steps) = λ e h. sent-rise e steps x o inv (here e h) in
    let releasing : (e : ℕ) → e < count_in image → ReleasedRise (seen (trace e x steps)) = λ e h. released-rise e steps x o inv (here e h) in
    record {
      images =
          record {
            valid = λ rules.
                rules-kept (ran x steps).image k.inv.octets
                (k.stays ∙ ap valid_image (loaded-image image numbers) ∙ rules-valid image octets rules);
            size = all.size;
            elsewhere = all.elsewhere;
          };
      sent = sending;
      released = releasing;
      sent_once = λ e h. sent_once_lem (trace e x steps) (sending e h);
      released_once = λ e h. released_once_lem (seen (trace e x steps)) (releasing e h);
    }
