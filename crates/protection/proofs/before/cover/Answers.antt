-- `cover` is right because the masked header goes first and the security header behind it, as it stands.
-- Assumes nothing.
use mathlib.Core.Path.{◌∙◌, ap}
use Prim.Native.Nat.{ℕ, ◌+◌}
use native.Mathlib.Omega.{arith}
use Rattle.kinds.specs.Kinds.{framed}
use Rattle.protection.proofs.Covering.{covered}
use Rattle.protection.proofs.before.cover.Goals as goal

pub returns : goal.returns
returns c = let g = c.args in
    let h = c.header_length-header in record {
      value = ap (λ (x : ℕ). x + g.security) h.ensures;
      out_after = c.put_behind.ensures
          ∙ covered (framed g.framing) g.mask g.frame.now g.out.now h.result g.security h.ensures
          (omega (arith, h.ensures)) (omega (arith, h.ensures)) c.mask_header.new.out c.mask_header.ensures.1;
    }
