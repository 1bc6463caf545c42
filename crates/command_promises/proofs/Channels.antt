-- A channel that a start names is one of the body's, as the definition tests it and as the promise says it: by the kind of the body.
-- Assumes nothing.
use Prim.Native.Nat.{ℕ, zero, suc, ◌+◌, ◌*◌, ◌/◌, ◌%◌, ◌≤◌}
use mathlib.Core.Path.{◌≡◌, refl, sym, ap, ap₂, ◌∙◌}
use mathlib.Core.Bool.{Bool, true, false, ◌&&◌, and-false}
use mathlib.Core.List.{List}
use native.Mathlib.Omega.{arith}
use borrow.Author.Tests.{eqb-true, eq-eqb}
use lib.Dec.{eqb}
use Rattle.std.specs.Prelude.{Some}
use Rattle.octets.proofs.Alls.{and_left, and_right}
use Rattle.kinds.specs.Kinds.{named}
use Rattle.kinds.specs.declared.kinds.Kind as code
use Rattle.kinds.specs.declared.kinds.Kind.TheVariants as kind
use Rattle.bodies.specs.Body.{spacecraft_of, map_of}
use Rattle.image.specs.Image.{version_of, body_of}
use Rattle.association.specs.Search.{serves_channel}
use Rattle.command_form.specs.Channels.{channel_name, channel_in, names_one}
use Rattle.promises.specs.Forms.{form_of}
use Rattle.promises.specs.Images.{shape_in, kind_at, map_at, is_set, ServesChannel, BodyRules}
use Rattle.promises.proofs.Fields.{spacecraft-at, map_at_lem}
use Rattle.promises.proofs.Valids.{channel-served, serves-channel}
use Rattle.command_promises.specs.Rows.{IsChannel}

module _ (image : List ℕ) (e : ℕ) (b : BodyRules image e) where
  abbrev body : List ℕ
  body = body_of image e

  abbrev whole : code.Kind → ℕ → ℕ
  whole k channel = channel_name k (spacecraft_of body) channel (map_of body)

  -- the test, by the kind
  abbrev tests : code.Kind → ℕ → Bool
  tests k name = names_one (version_of image) (Some k) body name

  served : (k : code.Kind) (name : ℕ) → tests k name ≡ true → ServesChannel image e (channel_in k name)
  served k name t = channel-served image e (channel_in k name) (and_left (serves_channel (version_of image) body (channel_in k name)) _ t)

  same : (k : code.Kind) (name : ℕ) → tests k name ≡ true → name ≡ whole k (channel_in k name)
  same k name t = eqb-true name (whole k (channel_in k name)) (and_right (serves_channel (version_of image) body (channel_in k name)) _ t)

  passes : (k : code.Kind) (name channel : ℕ) → ServesChannel image e channel → channel_in k name ≡ channel → name ≡ whole k channel
      → tests k name ≡ true
  passes k name channel s is eq =
      ap₂ ◌&&◌ (ap (serves_channel (version_of image) body) is ∙ serves-channel image e channel s)
      (eq-eqb name (whole k (channel_in k name)) (eq ∙ ap (whole k) (sym is)))

  -- one channel is at most what the kind allows
  not_set : (n : ℕ) → kind_at image e ≡ n → eqb n 3 ≡ false → is_set image e ≡ false
  not_set n q other = ap (λ (k : ℕ). (shape_in image).sets && eqb k 3) q ∙ ap (λ (t : Bool). (shape_in image).sets && t) other ∙ and-false (shape_in image).sets

  most : (n c : ℕ) → kind_at image e ≡ n → is_set image e ≡ false → ServesChannel image e c → c ≤ (form_of n).most_channel
  most n c q one s = rw (← s.one one, ← q) (b.channel one)

  in_set_lem : (c : ℕ) → kind_at image e ≡ 3 → ServesChannel image e c → c ≤ 7
  unfolding form_of
  in_set_lem c q s = by-set (is_set image e) refl
    where
      by-set : (t : Bool) → is_set image e ≡ t → c ≤ 7
      by-set true set = omega (arith, (s.set set).0)
      by-set false one = most 3 c q one s

  -- ---- both ways

  pub names-channel : (n name : ℕ) → kind_at image e ≡ n → names_one (version_of image) (named n) body name ≡ true → IsChannel image e name
  unfolding named
  names-channel zero name q t = absurd (omega (arith, b.kind.0))
  names-channel (suc zero) name q t =
      record {
        channel = name % 64;
        served = served kind.Tc name t;
        plain = λ p. same kind.Tc name t ∙ ap (λ (s : ℕ). s * 64 + name % 64) (spacecraft-at image e);
        segmented = λ p. absurd (omega arith);
        telemetry = λ p. absurd (omega arith);
        aos = λ p. absurd (omega arith);
      }
  names-channel (suc (suc zero)) name q t =
      record {
        channel = name / 64 % 64;
        served = served kind.SegmentedTc name t;
        plain = λ p. absurd (omega arith);
        segmented = λ p.
            same kind.SegmentedTc name t
            ∙ ap₂ (λ (s m : ℕ). (s * 64 + name / 64 % 64) * 64 + m) (spacecraft-at image e) (map_at_lem image e);
        telemetry = λ p. absurd (omega arith);
        aos = λ p. absurd (omega arith);
      }
  names-channel (suc (suc (suc zero))) name q t =
      record {
        channel = name % 8;
        served = served kind.Tm name t;
        plain = λ p. absurd (omega arith);
        segmented = λ p. absurd (omega arith);
        telemetry = λ p. same kind.Tm name t ∙ ap (λ (s : ℕ). s * 8 + name % 8) (spacecraft-at image e);
        aos = λ p. absurd (omega arith);
      }
  names-channel (suc (suc (suc (suc zero)))) name q t =
      record {
        channel = name % 64;
        served = served kind.Aos name t;
        plain = λ p. absurd (omega arith);
        segmented = λ p. absurd (omega arith);
        telemetry = λ p. absurd (omega arith);
        aos = λ p. omega (arith, same kind.Aos name t, spacecraft-at image e);
      }
  names-channel (suc (suc (suc (suc (suc n))))) name q t = absurd (omega (arith, b.kind.1))

  pub channel-named : (n name : ℕ) → kind_at image e ≡ n → IsChannel image e name → names_one (version_of image) (named n) body name ≡ true
  unfolding named form_of
  channel-named zero name q i = absurd (omega (arith, b.kind.0))
  channel-named (suc zero) name q i =
      let c = i.channel in
      let small : c ≤ 63 = most 1 c q (not_set 1 q refl) i.served in
      let eq = i.plain q in
      passes kind.Tc name c i.served (omega arith) (omega (arith, spacecraft-at image e))
  channel-named (suc (suc zero)) name q i =
      let c = i.channel in
      let small : c ≤ 63 = most 2 c q (not_set 2 q refl) i.served in
      let map : map_at image e ≤ 63 = rw q at b.map in
      let eq = i.segmented q in
      passes kind.SegmentedTc name c i.served (omega arith) (omega (arith, spacecraft-at image e, map_at_lem image e))
  channel-named (suc (suc (suc zero))) name q i =
      let c = i.channel in
      let small : c ≤ 7 = in_set_lem c q i.served in
      let eq = i.telemetry q in
      passes kind.Tm name c i.served (omega arith) (omega (arith, spacecraft-at image e))
  channel-named (suc (suc (suc (suc zero)))) name q i =
      let c = i.channel in
      let small : c ≤ 63 = most 4 c q (not_set 4 q refl) i.served in
      let eq = i.aos q in
      passes kind.Aos name c i.served (omega arith) (omega (arith, spacecraft-at image e))
  channel-named (suc (suc (suc (suc (suc n))))) name q i = absurd (omega (arith, b.kind.1))
