-- Demand 3's addition (document 02, request 9): no IV goes out twice under one key. Take any run with commands, cuts and loads, and any two
-- frames of service 2 that go out in it, under one association or under two of the image: their keys differ, or their IVs do. A key is its
-- 32 octets, whatever ID they have, as the entry has them when the frame goes out. From version 3 on this holds whatever keys are shared, and
-- through every rekey; below version 3, given that no two entries of service 2 hold the same key, which is the key office's rule. It supposes
-- nothing else but that the image and the commands are octets.
-- Assumes nothing.
use Rattle.std.specs.Prelude.{ℕ, ◌<◌, ◌≡◌, false, List, [], ◌∷◌, ◌++◌}
use Rattle.octets.specs.Lists.{Octets}
use Rattle.link.specs.Calls.{handed, secured}
use Rattle.judging.specs.Said.{Said}
use Rattle.promises.specs.Frames.{field_on}
use Rattle.promises.specs.Images.{shape_in, count_in, spi_at, service_at, key_octets_at}
use Rattle.promises.specs.Runs as frames
use Rattle.promises.specs.Runs.{State, begun}
use Rattle.command_promises.specs.Runs.{Step, call, ran, after, OfOctets}

-- ---- a frame of service 2 that goes out

-- a sending in state x, under entry e, that is done: the frame has that IV, and the entry that key
pub record GoesOut (x : State) (v : Step) (e : ℕ) (key iv : List ℕ) : Type 0 where
  pub said : Said
  pub spi : ℕ
  pub frame : List ℕ
  pub output : List ℕ
  pub sending : v ≡ call (frames.send said spi frame output)
  pub done : (secured x.image x.numbers said spi frame output).answer ≡ 0
  pub entry : e < count_in x.image
  pub spis : spi_at x.image e ≡ spi
  pub service : service_at x.image e ≡ 2
  pub keys : key ≡ key_octets_at x.image e
  pub ivs : iv ≡ field_on 2 said (handed (secured x.image x.numbers said spi frame output))

-- ---- the office's rule: no two entries of service 2 hold the same key

abbrev pub OwnKeys : List ℕ → Type 0
OwnKeys image = (i j : ℕ) → i < count_in image → j < count_in image → service_at image i ≡ 2 → service_at image j ≡ 2
    → key_octets_at image i ≡ key_octets_at image j → i ≡ j

-- ---- the promise

-- a run that begins with a load of an image, sends at v and, after steps between, at w
pub record FreshIvs : Type 0 where
  pub fresh : (image numbers : List ℕ) (earlier : List Step) (v : Step) (between : List Step) (w : Step) (d e : ℕ) (key iv otherKey otherIv : List ℕ)
      → Octets image → OfOctets (earlier ++ (v ∷ (between ++ (w ∷ []))))
      → ((shape_in image).key_part ≡ false → OwnKeys image)
      → let x = ran (begun image) (call (frames.load numbers) ∷ earlier) in
      let y = ran (after x v) between in
      GoesOut x v d key iv → GoesOut y w e otherKey otherIv → key ≡ otherKey → iv ≡ otherIv → ⊥
