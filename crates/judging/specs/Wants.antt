-- Document 01, 'What comes back', answer 4: what a call and its frame ask of an entry, when the frame is to be sent and when it came in.
-- Assumes nothing.
use Rattle.std.specs.Prelude.{ℕ, List}
use Rattle.association.specs.declared.search.Wanted.{Wanted}
use Rattle.protection.specs.Protection.{spi_in}
use Rattle.judging.specs.Said.{Said, kind_said}

abbrev pub sending : ℕ
sending = 1

abbrev pub receiving : ℕ
receiving = 2

unfoldable pub wanted : ℕ → ℕ → Said → List ℕ → Wanted
wanted spi direction said frame =
    record {
      desk = said.desk;
      spi = spi;
      direction = direction;
      kind = said.kind;
      spacecraft = (kind_said said).spacecraft frame;
      channel = (kind_said said).channel frame;
      map = (kind_said said).map frame;
    }

-- a clear frame, under the SPI that the caller names
abbrev pub securing_wants : Said → ℕ → List ℕ → Wanted
securing_wants said spi frame = wanted spi sending said frame

-- a secured frame, under the SPI that it holds
abbrev pub checking_wants : Said → List ℕ → Wanted
checking_wants said frame = wanted (spi_in (kind_said said) frame) receiving said frame
