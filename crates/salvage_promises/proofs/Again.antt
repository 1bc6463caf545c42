-- Demand 3 over salvage: of a kept entry that is undamaged, a load of the new image gives a number at least the last of the run before, and
-- at most 64 above it; so what the second run shows goes on from there.
-- Assumes nothing.
use Prim.Native.Nat.{ℕ, ◌+◌, ◌*◌, ◌/◌, ◌<◌}
use mathlib.Core.Path.{◌≡◌, refl, sym, ap, ap₂, ◌∙◌}
use mathlib.Core.Bool.{true}
use mathlib.Core.List.{List, ◌∷◌, ◌++◌}
use native.Mathlib.Omega.{arith}
use Rattle.octets.specs.Lists.{octet, part, Octets}
use Rattle.octets.proofs.Parts.{octet-part}
use Rattle.image.specs.Image.{valid_image, mark_in}
use Rattle.numbers.proofs.LoadedNumbers.{agreed}
use Rattle.link.specs.Calls.{loaded}
use Rattle.promises.specs.Images.{version_in, shape_in, count_in, direction_at, position_at, place, last_at, whole_body_at}
use Rattle.promises.specs.Versions.{shape_of}
use Rattle.promises.specs.Runs.{Step, State, Shown, restart, kept, after, ran, shows, trace, SentAfter, SentRise, ReleasedAfter, ReleasedRise}
use Rattle.promises.specs.Runs.{sent_in, released_in}
use Rattle.promises.proofs.Fields.{shapes, old_shape}
use Rattle.promises.proofs.Isolation.{same-mark}
use Rattle.promises.proofs.Keeps.{Inv, Keeps, loaded-image, loaded_last, load_inv}
use Rattle.promises.proofs.Runs.{SentOn, ReleasedOn, sent-rise, released-rise, sent-from, sent-rising, released-from, released-rising}
use Rattle.promises.proofs.Runs.{next_below, ran-keeps, sent_once_lem, released_once_lem}
use Rattle.promises.proofs.Unmarked.{Same, same_itself, version-same}
use Rattle.promises.proofs.Valids.{rules-kept, rules-valid}
use Rattle.salvage_image.specs.Salvage.{salvaged_image}
use Rattle.salvage_promises.specs.Salvaging.{KeptAs}
use Rattle.salvage_promises.specs.Again.{Rising, Again}
use Rattle.salvage_promises.proofs.Salvaging.{salvaged_valid, salvaged_octets}

-- a state z at entry i, and an image whose entry j has that entry's body: a load of it, and a run from there
module _ (z : State) (inv : Inv z) (passed : valid_image z.image ≡ true) (i : ℕ) (below : i < count_in z.image)
    (y : List ℕ) (octets : Octets y) (good : valid_image y ≡ true) (j : ℕ) (there : j < count_in y)
    (same : whole_body_at y j ≡ whole_body_at z.image i) (any : List ℕ) (later : List Step) where
  abbrev behind : List Shown
  behind = restart ∷ trace j (kept (loaded y any)) later

  directions : direction_at (kept (loaded y any)).image j ≡ direction_at z.image i
  directions =
      ap (λ (t : List ℕ). direction_at t j) (loaded-image y any)
      ∙ sym (second y j)
      ∙ ap (λ (b : List ℕ). octet b 2) same
      ∙ second z.image i
    where
      second : (t : List ℕ) (e : ℕ) → octet (whole_body_at t e) 2 ≡ direction_at t e
      second t e =
          let at : place t e 0 + 2 ≡ place t e 2 = omega arith in
          let s = shapes (version_in t) in
          octet-part (place t e 0) (shape_in t).body t 2 (omega (arith, s.holds, s.inside)) ∙ ap (octet t) at

  marked : mark_in y j ≡ mark_in z.image i
  marked = same-mark y z.image j i same

  now : last_at z.numbers i / 64 ≡ mark_in z.image i
  now = agreed z.image z.numbers (inv.good passed).agree i below

  new : last_at (loaded y any).numbers j ≡ 64 * mark_in y j + 63
  new = loaded_last y any good j there

  here : j < count_in (kept (loaded y any)).image
  here = rw (loaded-image y any) there

  on_sent : SentOn i (restart ∷ trace j (kept (loaded y any)) later) z
  unfolding SentAfter
  on_sent q m a =
      let s = a passed in
      sent-from j later (kept (loaded y any)) (load_inv y any octets) here q (m + 1)
      (record {
        direction = directions ∙ s.direction;
        low = omega (arith, s.low, now, new, marked);
        high = omega (arith, s.high, now, new, marked);
      })

  on_released : ReleasedOn i (restart ∷ trace j (kept (loaded y any)) later) z
  unfolding ReleasedAfter
  on_released q a =
      released-from j later (kept (loaded y any)) (load_inv y any octets) here q (omega (arith, a passed, now, new, marked))

  rise-sent : SentRise (restart ∷ trace j (kept (loaded y any)) later)
  unfolding SentRise
  rise-sent = sent-rising j later (kept (loaded y any)) (load_inv y any octets) here

  rise-released : ReleasedRise (restart ∷ trace j (kept (loaded y any)) later)
  unfolding ReleasedRise
  rise-released = released-rising j later (kept (loaded y any)) (load_inv y any octets) here

  -- and a run from a state that leads to z in front of it
  pub both-rise : (start : State) (steps : List Step) → Inv start → i < count_in start.image → ran start steps ≡ z
      → Rising (trace i start steps ++ (restart ∷ trace j (kept (loaded y any)) later))
  both-rise start steps inv₀ first e =
      let sent = sent-rise i behind steps start inv₀ first (rw e on_sent) rise-sent in
      let released = released-rise i behind steps start inv₀ first (rw e on_released) rise-released in
      record {
        sent = sent;
        released = released;
        sent_once = sent_once_lem (trace i start steps ++ behind) sent;
        released_once = released_once_lem (trace i start steps ++ behind) released;
      }

pub again : Again
unfolding ran after trace shows SentRise ReleasedRise sent_in released_in
again image numbers steps x any later octets rules two octetsX accepted fate account i j below f undamaged =
    let start : State = kept (loaded image numbers) in
    let z : State = ran start steps in
    let inv : Inv start = load_inv image numbers octets in
    let first : i < count_in start.image = rw (loaded-image image numbers) below in
    let k : Keeps start z = ran-keeps steps start inv in
    let passed : valid_image z.image ≡ true =
    k.stays ∙ ap valid_image (loaded-image image numbers) ∙ rules-valid image octets rules
    in
    let there : i < count_in z.image = next_below i start z k first in
    let y : List ℕ = salvaged_image x in
    let a : KeptAs x i y j = account.kept i j f in
    let at : position_at z.image i ≡ place z.image i 0 = (rules-kept z.image k.inv.octets passed).position i there in
    let begun-so : Same image start.image = rw (loaded-image image numbers) (same_itself image) in
    let version : version_in z.image ≡ version_in image =
    version-same start.image z.image k.same ∙ version-same image start.image begun-so
    in
    let long : (shape_in z.image).body ≡ 52 = ap (λ (v : ℕ). (shape_of v).body) version ∙ (old_shape (version_in image) two).body in
    let same : whole_body_at y j ≡ whole_body_at z.image i =
    a.body
    ∙ ap (λ (p : ℕ). part p 52 x) undamaged.position
    ∙ undamaged.body
    ∙ ap₂ (λ (p n : ℕ). part p n z.image) at (sym long)
    in
    let r =
    both-rise z k.inv passed i there y (salvaged_octets x octetsX accepted) (salvaged_valid x accepted) j a.entry same any later start steps
    inv first refl
    in
    record { sent = r.sent; released = r.released; sent_once = r.sent_once; released_once = r.released_once }
