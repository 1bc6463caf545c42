-- `opening_of` is right because the key is expanded, and the parts are those of a frame whose security header is as long as the service asks.
-- Assumes nothing.
use mathlib.Core.Path.{ap, ap₂, ◌∙◌}
use mathlib.Core.List.{List}
use Prim.Native.Nat.{ℕ}
use Rattle.kinds.specs.Kinds.{framed}
use Rattle.frame.specs.Parts.{secured_parts}
use Rattle.frame.specs.declared.parts.SecuredParts.{SecuredParts}
use Rattle.opening.specs.declared.checked.Opening.{Opening}
use Rattle.opening.proofs.checked.opening_of.Goals as goal

pub returns : goal.returns
returns c = let g = c.args in
    let long = c.security_length.ensures.0 in
    let of : List ℕ → SecuredParts → Opening = λ w p. record { framing = g.framing; held = g.held; expanded = w; parts = p } in
    ap₂ of c.expand_key-expanded.ensures
    (c.secured_parts-parts.ensures ∙ ap (λ (s : ℕ). secured_parts (framed g.framing) s g.frame.now) long)
