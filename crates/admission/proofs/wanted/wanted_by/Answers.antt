-- `wanted_by` is right because the kind reads the identifiers of its own frames.
-- Assumes nothing.
use mathlib.Core.Path.{sym, ap}
use mathlib.Core.List.{List}
use Prim.Native.Nat.{ℕ}
use Rattle.kinds.specs.Kinds.{Kind}
use Rattle.association.specs.declared.search.Wanted.{Wanted}
use Rattle.judging.specs.Said.{Said}
use Rattle.judging.specs.Wants.{wanted}
use Rattle.admission.proofs.wanted.wanted_by.Goals as goal

abbrev read_by : ℕ → ℕ → Said → List ℕ → Kind → Wanted
read_by spi direction said frame k =
    record {
      desk = said.desk;
      spi = spi;
      direction = direction;
      kind = said.kind;
      spacecraft = k.spacecraft frame;
      channel = k.channel frame;
      map = k.map frame;
    }

pub returns : goal.returns
unfolding wanted
returns c = let g = c.args in
    rw (c.map.ensures, c.channel.ensures, c.spacecraft.ensures)
    (sym (ap (read_by g.spi g.direction g.said g.frame.now) c.requires))
