-- A load and a sending as C calls them: the ones of link's specs/Calls on the lent numbers, if they are 32.
-- Assumes nothing.
use Rattle.std.specs.Prelude.{ℕ, List, []}
use Rattle.link.specs.Calls.{Left, loaded, secured}
use Rattle.judging.specs.Said.{Said}
use Rattle.lent.specs.Interface.{counted}

unfoldable pub load_call : List ℕ → List ℕ → Left
load_call image numbers = counted image numbers [] (loaded image numbers)

unfoldable pub secure_call : List ℕ → List ℕ → Said → ℕ → List ℕ → List ℕ → Left
secure_call image numbers said spi frame output = counted image numbers output (secured image numbers said spi frame output)
