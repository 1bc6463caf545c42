-- In every run numbers only rise, with anything behind it that goes on from the number that the run leaves. After a number was sent, the entry's last is at least that number, and at most 64 higher for each load
-- since; after one was released, the last is at least that. Every step keeps this, and the image but for its marks.
-- Assumes nothing.
use Prim.Native.Nat.{ℕ, ◌+◌, ◌*◌, ◌≤◌, ◌<◌}
use mathlib.Core.Path.{◌≡◌, refl, sym, ap, ◌∙◌}
use mathlib.Core.Bool.{true}
use mathlib.Core.List.{List, [], ◌∷◌, ◌++◌, append-nil}
use native.Mathlib.Omega.{arith}
use Rattle.image.specs.Image.{valid_image}
use Rattle.link.specs.Calls.{loaded}
use Rattle.promises.specs.Images.{count_in, direction_at, last_at}
use Rattle.promises.specs.Runs.{Step, State, kept, after, ran, Shown, restart, sent, released, shows, trace}
use Rattle.promises.specs.Runs.{SentAfter, SentRise, ReleasedAfter, ReleasedRise, sent_in, released_in, Without, Once, Runs}
use Rattle.promises.proofs.Effects.{Effect, quiet, loads, sends, frees, effect}
use Rattle.promises.proofs.Keeps.{Inv, Keeps, loaded-image, load_inv, keeps}
use Rattle.promises.proofs.Unmarked.{Same, same_itself, same_then, count_same, direction-same}
use Rattle.promises.proofs.Valids.{rules-kept, rules-valid}

-- ---- from a state to the next

module _ (e : ℕ) (x y : State) (k : Keeps x y) where
  before : valid_image y.image ≡ true → valid_image x.image ≡ true
  before passed = sym k.stays ∙ passed

  pub next_below : e < count_in x.image → e < count_in y.image
  next_below below = omega (arith, count_same x.image y.image k.same)

  next-direction : direction_at y.image e ≡ direction_at x.image e
  next-direction = direction-same x.image y.image k.same e

-- ---- sending, and what is shown behind a run that ends in a state and goes on from there

-- after p was sent and then l loads
pub record Sent (e : ℕ) (x : State) (p l : ℕ) : Type 0 where
  pub direction : direction_at x.image e ≡ 1
  pub low : p ≤ last_at x.numbers e
  pub high : last_at x.numbers e ≤ p + 64 * l

sent_now : (e : ℕ) (x y : State) → Keeps x y → direction_at x.image e ≡ 1 → (n : ℕ) → last_at y.numbers e ≡ n → Sent e y n 0
sent_now e x y k one n new = record { direction = next-direction e x y k ∙ one; low = omega arith; high = omega arith }

module _ (e : ℕ) (rest : List Shown) where
  abbrev pub SentOn : State → Type 0
  SentOn z = (q m : ℕ) → (valid_image z.image ≡ true → Sent e z q m) → SentAfter q m rest

  pub sent-after : (vs : List Step) (x : State) (p l : ℕ) → Inv x → e < count_in x.image
      → (valid_image x.image ≡ true → Sent e x p l) → SentOn (ran x vs) → SentAfter p l (trace e x vs ++ rest)
  unfolding trace SentAfter ran
  sent-after [] x p l inv below a on = on p l a
  sent-after (v ∷ vs) x p l inv below a on =
      let k = keeps x v inv in
      by_effect k (effect e x v inv below)
      (λ q m b. sent-after vs (after x v) q m k.inv (next_below e x (after x v) k below) b on)
    where
      by_effect : Keeps x (after x v) → Effect e x (after x v) (shows e x v)
          → ((q m : ℕ) → (valid_image (after x v).image ≡ true → Sent e (after x v) q m) → SentAfter q m (trace e (after x v) vs ++ rest))
          → SentAfter p l (shows e x v ++ trace e (after x v) vs ++ rest)
      by_effect k (quiet shown same) ih =
          rw shown
          (ih p l
          (λ passed.
          let b = a (before e x (after x v) k passed) in
          record { direction = next-direction e x (after x v) k ∙ b.direction; low = omega (arith, b.low); high = omega (arith, b.high) }))
      by_effect k (loads shown low high) ih =
          rw shown
          (ih p (l + 1)
          (λ passed.
          let old = before e x (after x v) k passed in
          let b = a old in
          record {
            direction = next-direction e x (after x v) k ∙ b.direction;
            low = omega (arith, b.low, low old);
            high = omega (arith, b.high, high old b.direction);
          }))
      by_effect k (sends passed one shown new) ih =
          let b = a passed in
          rw shown
          (omega (arith, b.low), omega (arith, b.high), ih (last_at x.numbers e + 1) 0 (λ later. sent_now e x (after x v) k one _ new))
      by_effect k (frees n passed two shown up new) ih = absurd (omega (arith, (a passed).direction))

  pub sent-rise : (vs : List Step) (x : State) → Inv x → e < count_in x.image → SentOn (ran x vs) → SentRise rest
      → SentRise (trace e x vs ++ rest)
  unfolding trace SentRise ran
  sent-rise [] x inv below on rise = rise
  sent-rise (v ∷ vs) x inv below on rise =
      let k = keeps x v inv in
      by_effect k (effect e x v inv below) (sent-rise vs (after x v) k.inv (next_below e x (after x v) k below) on rise)
    where
      by_effect : Keeps x (after x v) → Effect e x (after x v) (shows e x v) → SentRise (trace e (after x v) vs ++ rest)
          → SentRise (shows e x v ++ trace e (after x v) vs ++ rest)
      by_effect k (quiet shown same) ih = rw shown ih
      by_effect k (loads shown low high) ih = rw shown ih
      by_effect k (sends passed one shown new) ih =
          rw shown
          (sent-after vs (after x v) _ 0 k.inv (next_below e x (after x v) k below) (λ later. sent_now e x (after x v) k one _ new) on)
      by_effect k (frees n passed two shown up new) ih = rw shown ih

  -- ---- releasing

  abbrev pub ReleasedOn : State → Type 0
  ReleasedOn z = (q : ℕ) → (valid_image z.image ≡ true → q ≤ last_at z.numbers e) → ReleasedAfter q rest

  pub released-after : (vs : List Step) (x : State) (p : ℕ) → Inv x → e < count_in x.image
      → (valid_image x.image ≡ true → p ≤ last_at x.numbers e) → ReleasedOn (ran x vs) → ReleasedAfter p (trace e x vs ++ rest)
  unfolding trace ReleasedAfter ran
  released-after [] x p inv below a on = on p a
  released-after (v ∷ vs) x p inv below a on =
      let k = keeps x v inv in
      by_effect k (effect e x v inv below)
      (λ q b. released-after vs (after x v) q k.inv (next_below e x (after x v) k below) b on)
    where
      by_effect : Keeps x (after x v) → Effect e x (after x v) (shows e x v)
          → ((q : ℕ) → (valid_image (after x v).image ≡ true → q ≤ last_at (after x v).numbers e)
          → ReleasedAfter q (trace e (after x v) vs ++ rest))
          → ReleasedAfter p (shows e x v ++ trace e (after x v) vs ++ rest)
      by_effect k (quiet shown same) ih = rw shown (ih p (λ passed. omega (arith, a (before e x (after x v) k passed))))
      by_effect k (loads shown low high) ih =
          rw shown (ih p (λ passed. let old = before e x (after x v) k passed in omega (arith, a old, low old)))
      by_effect k (sends passed one shown new) ih = rw shown (ih p (λ later. omega (arith, a passed)))
      by_effect k (frees n passed two shown up new) ih = rw shown (omega (arith, a passed), ih n (λ later. omega arith))

  pub released-rise : (vs : List Step) (x : State) → Inv x → e < count_in x.image → ReleasedOn (ran x vs) → ReleasedRise rest
      → ReleasedRise (trace e x vs ++ rest)
  unfolding trace ReleasedRise ran
  released-rise [] x inv below on rise = rise
  released-rise (v ∷ vs) x inv below on rise =
      let k = keeps x v inv in
      by_effect k (effect e x v inv below) (released-rise vs (after x v) k.inv (next_below e x (after x v) k below) on rise)
    where
      by_effect : Keeps x (after x v) → Effect e x (after x v) (shows e x v) → ReleasedRise (trace e (after x v) vs ++ rest)
          → ReleasedRise (shows e x v ++ trace e (after x v) vs ++ rest)
      by_effect k (quiet shown same) ih = rw shown ih
      by_effect k (loads shown low high) ih = rw shown ih
      by_effect k (sends passed one shown new) ih = rw shown ih
      by_effect k (frees n passed two shown up new) ih =
          rw shown (released-after vs (after x v) n k.inv (next_below e x (after x v) k below) (λ later. omega arith) on)

-- nothing behind it
sent_end : (e : ℕ) (z : State) → SentOn e [] z
unfolding SentAfter
sent_end e z q m a = tt

released_end : (e : ℕ) (z : State) → ReleasedOn e [] z
unfolding ReleasedAfter
released_end e z q a = tt

module _ (e : ℕ) (vs : List Step) (x : State) (inv : Inv x) (below : e < count_in x.image) where
  pub sent-from : (p l : ℕ) → Sent e x p l → SentAfter p l (trace e x vs)
  sent-from p l a = rw append-nil at (sent-after e [] vs x p l inv below (λ passed. a) (sent_end e (ran x vs)))

  pub sent-rising : SentRise (trace e x vs)
  unfolding SentRise
  sent-rising = rw append-nil at (sent-rise e [] vs x inv below (sent_end e (ran x vs)) tt)

  pub released-from : (p : ℕ) → p ≤ last_at x.numbers e → ReleasedAfter p (trace e x vs)
  released-from p a = rw append-nil at (released-after e [] vs x p inv below (λ passed. a) (released_end e (ran x vs)))

  pub released-rising : ReleasedRise (trace e x vs)
  unfolding ReleasedRise
  released-rising = rw append-nil at (released-rise e [] vs x inv below (released_end e (ran x vs)) tt)

-- ---- numbers that rise stand there once

abbrev Above : ℕ → List ℕ → Type 0
Above p ns = (q : ℕ) → q ≤ p → Without q ns

sent-above : (r : List Shown) (p l : ℕ) → SentAfter p l r → Above p (sent_in r)
unfolding SentAfter sent_in Without
sent-above [] p l a q h = tt
sent-above (restart ∷ r) p l a q h = sent-above r p (l + 1) a q h
sent-above (sent n ∷ r) p l a q h = (λ e. omega (arith, a.0), sent-above r n 0 a.2 q (omega (arith, a.0)))
sent-above (released n ∷ r) p l a q h = sent-above r p l a q h

sent_once_after : (r : List Shown) (p l : ℕ) → SentAfter p l r → Once (sent_in r)
unfolding SentAfter sent_in Once
sent_once_after [] p l a = tt
sent_once_after (restart ∷ r) p l a = sent_once_after r p (l + 1) a
sent_once_after (sent n ∷ r) p l a = (sent-above r n 0 a.2 n (omega arith), sent_once_after r n 0 a.2)
sent_once_after (released n ∷ r) p l a = sent_once_after r p l a

pub sent_once_lem : (r : List Shown) → SentRise r → Once (sent_in r)
unfolding SentRise sent_in Once
sent_once_lem [] a = tt
sent_once_lem (restart ∷ r) a = sent_once_lem r a
sent_once_lem (sent n ∷ r) a = (sent-above r n 0 a n (omega arith), sent_once_after r n 0 a)
sent_once_lem (released n ∷ r) a = sent_once_lem r a

released-above : (r : List Shown) (p : ℕ) → ReleasedAfter p r → Above p (released_in r)
unfolding ReleasedAfter released_in Without
released-above [] p a q h = tt
released-above (restart ∷ r) p a q h = released-above r p a q h
released-above (sent n ∷ r) p a q h = released-above r p a q h
released-above (released n ∷ r) p a q h = (λ e. omega (arith, a.0), released-above r n a.1 q (omega (arith, a.0)))

released_once_after : (r : List Shown) (p : ℕ) → ReleasedAfter p r → Once (released_in r)
unfolding ReleasedAfter released_in Once
released_once_after [] p a = tt
released_once_after (restart ∷ r) p a = released_once_after r p a
released_once_after (sent n ∷ r) p a = released_once_after r p a
released_once_after (released n ∷ r) p a = (released-above r n a.1 n (omega arith), released_once_after r n a.1)

pub released_once_lem : (r : List Shown) → ReleasedRise r → Once (released_in r)
unfolding ReleasedRise released_in Once
released_once_lem [] a = tt
released_once_lem (restart ∷ r) a = released_once_lem r a
released_once_lem (sent n ∷ r) a = released_once_lem r a
released_once_lem (released n ∷ r) a = (released-above r n a n (omega arith), released_once_after r n a)

-- ---- the image

pub ran-keeps : (vs : List Step) (x : State) → Inv x → Keeps x (ran x vs)
unfolding ran
ran-keeps [] x inv = record { inv = inv; stays = refl; same = same_itself x.image }
ran-keeps (v ∷ vs) x inv =
    let k = keeps x v inv in
    let m = ran-keeps vs (after x v) k.inv in
    record {
      inv = m.inv;
      stays = m.stays ∙ k.stays;
      same = same_then x.image (after x v).image k.same (ran (after x v) vs).image m.same;
    }

-- ---- a run begun by a load

pub runs : Runs
unfolding ran after trace shows SentRise ReleasedRise sent_in released_in
runs image numbers steps octets =
    let x : State = kept (loaded image numbers) in
    let inv = load_inv image numbers octets in
    let k = ran-keeps steps x inv in
    let first : Same image x.image = rw (loaded-image image numbers) (same_itself image) in
    let all : Same image (ran x steps).image = same_then image x.image first (ran x steps).image k.same in
    let here : (e : ℕ) → e < count_in image → e < count_in x.image = λ e h. rw (loaded-image image numbers) h in
    let sending : (e : ℕ) → e < count_in image → SentRise (trace e x steps) = λ e h. sent-rising e steps x inv (here e h) in
    let releasing : (e : ℕ) → e < count_in image → ReleasedRise (trace e x steps) = λ e h. released-rising e steps x inv (here e h) in
    record {
      images =
          record {
            valid = λ rules.
                rules-kept (ran x steps).image k.inv.octets
                (k.stays ∙ ap valid_image (loaded-image image numbers) ∙ rules-valid image octets rules);
            size = all.size;
            elsewhere = all.elsewhere;
          };
      sent = sending;
      released = releasing;
      sent_once = λ e h. sent_once_lem (trace e x steps) (sending e h);
      released_once = λ e h. released_once_lem (trace e x steps) (releasing e h);
    }
